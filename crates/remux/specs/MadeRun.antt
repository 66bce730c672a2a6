-- Outputs that may have threads, and an interleaver of the streams of these bytes, before the first packet.
use Rattle.std.specs.Prelude.{◌≡◌, ℕ, List, [], length, map}
use Rattle.interleaver.specs.Queues.{Pending}
use Rattle.flv_tags.specs.Tags.{reading_of}
use Rattle.flv_demux.specs.Probe.{streams}
use Rattle.options.specs.Words.{Planned}
use Rattle.rmx_edge.specs.Shelf.{ShelfState}
use Rattle.rmx_edge.specs.declared.shelf.Shelf.{Ghosts}
use Rattle.tee.specs.RunKeeps.{KeepsRun, infos_of}
use Rattle.tee.specs.Seat.{Seat, aborts}
use Rattle.tee.specs.declared.run.TeeRun.{TeeRun}
use Rattle.remux.specs.Starting.{new_line}

pub record IsMadeRun {S G : Type 0} {ghosts : Ghosts S} (state : S → ShelfState) (p : Planned) (bytes : List ℕ) (line : Pending) (run : TeeRun S G ghosts) (seats : List Seat) : Type 0 where
  pub keeps : KeepsRun state run seats []
  pub infos : infos_of run ≡ streams (reading_of bytes).tags
  pub line_is : line ≡ new_line (length (streams (reading_of bytes).tags)) p.delta_us
  pub aborts_are : aborts seats ≡ map (λ s. s.abort) p.slaves

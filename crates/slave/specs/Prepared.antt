-- An output before it has its shelf.
use Rattle.std.specs.Prelude.{◌≡◌, ℕ, ◌≤◌, List, [], length, Option, None, string_bytes}
use Rattle.fifo_core.specs.declared.types.FifoOptions.{FifoOptions}
use Rattle.fifo_core.specs.State.{Shows, next_of}
use Rattle.playlist.specs.declared.seg_options.SegOptions.{SegOptions}
use Rattle.rmx_media.specs.declared.packet.Format.{Format}
use Rattle.rmx_media.specs.declared.streams.MuxStreams.{MuxStreams}
use Rattle.slave.specs.Origin.{Origin, video_of}
use Rattle.slave.specs.Calls.{IsMuxOf, number_in}
use Rattle.slave.specs.Segments.{start_of}
use Rattle.slave.specs.declared.kit.SlaveKit.{SlaveKit}

-- it was made for an output of that name, format, segments, options and streams
pub record IsPrepared (name : List ℕ) (format : Format) (seg : Option SegOptions) (o : FifoOptions) (streams : MuxStreams) (kit : SlaveKit) : Type 0 where
  pub name_is : string_bytes kit.name ≡ name
  pub short : length name ≤ 200
  pub video : kit.video ≡ video_of streams.streams.items
  pub mux : (g : Origin) → g.name ≡ name → g.format ≡ format → g.seg ≡ seg → g.streams ≡ streams → IsMuxOf g kit.mux
  pub number : number_in kit.mux ≡ start_of seg
  pub shows : Shows o [] None kit.fifo
  pub next : next_of kit.fifo ≡ 0
  pub runs : kit.runs.items ≡ []
  pub sessions : kit.sessions.items ≡ []
  pub faults : kit.faults.items ≡ []
  pub run_places : 2 ≤ kit.runs.spare
  pub session_places : 1 ≤ kit.sessions.spare
  pub fault_places : 1 ≤ kit.faults.spare

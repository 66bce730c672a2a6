use Rattle.std.proofs.Common.{[], sym, subst}
use Rattle.std.specs.Prelude.{string_bytes, None}
use Rattle.rmx_edge.specs.Counted.{with_count}
use Rattle.rmx_edge.specs.MemShelf.{state_of}
use Rattle.rmx_media.specs.declared.packet.Format.TheVariants.{Adts}
use Rattle.slave.specs.Origin.{Origin}
use Rattle.slave.specs.Fresh.{IsFresh}
use Rattle.slave.specs.Job.{view_of}
use Rattle.slave.proofs.worker_tests.ended.Goals as goal

pub finish_direct-requires : goal.finish_direct-requires
finish_direct-requires g c =
    let out : Origin = record { shelf = with_count (state_of c.new-shelf.result) 0 0; name = string_bytes c.in_ok-name.name; format = Adts; seg = None; streams = c.in_ok-streams.streams } in
    (out, _, [], c.start-in-Err-start.ensures out _ (subst (λ j. IsFresh out _ (view_of state_of j)) (sym c.in-Err-start.ensures.err.0) c.in-Ok-new.ensures.fresh))

use Rattle.std.proofs.Common.{[], ◌∷◌}
use Rattle.rmx_edge.specs.Shelf.{Close}
use Rattle.rmx_edge.proofs.Run.{runs_stopped}
use Rattle.playlist.proofs.list.end.Goals as goal

pub returns-in-Err : goal.returns-in-Err
returns-in-Err g c = rw c.in-M3u8.is (runs_stopped (Close ∷ []) c.in-Err.ensures.run)

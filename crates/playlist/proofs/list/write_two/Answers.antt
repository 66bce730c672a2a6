use Rattle.std.proofs.Common.{[], ◌∷◌}
use Rattle.rmx_edge.specs.Shelf.{Write}
use Rattle.rmx_edge.proofs.Run.{runs_then, runs_stopped}
use Rattle.playlist.proofs.list.write_two.Goals as goal

pub returns-in-Ok-clause-run : goal.returns-in-Ok-clause-run
returns-in-Ok-clause-run g c = runs_then c.in-Ok.ensures.run c.write_one-in-Ok.ensures.run

pub returns-in-Err-clause-run : goal.returns-in-Err-clause-run
returns-in-Err-clause-run g c = runs_stopped (Write c.args.second.now ∷ []) c.in-Err.ensures.run

use Rattle.std.proofs.Common.{map}
use Rattle.rmx_edge.specs.Shelf.{Write}
use Rattle.rmx_edge.proofs.Run.{runs_one, runs_then, runs_stopped}
use Rattle.playlist.specs.List.{head_lines}
use Rattle.playlist.proofs.list.begin.Goals as goal

pub returns-in-Ok-clause-run : goal.returns-in-Ok-clause-run
returns-in-Ok-clause-run g c = runs_then (runs_one c.in-Ok.ensures.made) c.write_head.ensures.run

pub returns-in-Err-clause-run : goal.returns-in-Err-clause-run
returns-in-Err-clause-run g c = runs_stopped (map Write (head_lines c.args.kind c.args.entries.now)) (runs_one c.in-Err.ensures.made)

use Rattle.rmx_edge.specs.Pieces.{writes}
use Rattle.rmx_edge.proofs.Run.{runs_one, runs_then, runs_stopped}
use Rattle.flv_mux.specs.Flv.{head_pieces}
use Rattle.flv_mux.proofs.mux.FlvMux.begin.Goals as goal

pub returns-in-Ok-clause-run : goal.returns-in-Ok-clause-run
returns-in-Ok-clause-run g c = runs_then (runs_one c.in-Ok.ensures.made) c.write_head.ensures.run

pub returns-in-Err-clause-run : goal.returns-in-Err-clause-run
returns-in-Err-clause-run g c = runs_stopped (writes (head_pieces c.args.self.now.streams)) (runs_one c.in-Err.ensures.made)

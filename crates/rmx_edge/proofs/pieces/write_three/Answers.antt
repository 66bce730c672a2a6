use Rattle.std.proofs.Common.{[], ◌∷◌}
use Rattle.rmx_edge.proofs.PieceLemmas.{writes-cons}
use Rattle.rmx_edge.proofs.Run.{runs_then, runs_stopped}
use Rattle.rmx_edge.specs.Pieces.{writes}
use Rattle.rmx_edge.proofs.pieces.write_three.Goals as goal

pub returns-in-Ok-clause-run : goal.returns-in-Ok-clause-run
returns-in-Ok-clause-run g c =
    rw (writes-cons c.args.first.now (c.args.second.now ∷ c.args.third.now ∷ [])) (runs_then c.in-Ok.ensures.run c.write_two.ensures.run)

pub returns-in-Err-clause-run : goal.returns-in-Err-clause-run
returns-in-Err-clause-run g c =
    rw (writes-cons c.args.first.now (c.args.second.now ∷ c.args.third.now ∷ []))
    (runs_stopped (writes (c.args.second.now ∷ c.args.third.now ∷ [])) c.in-Err.ensures.run)

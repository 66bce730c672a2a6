use Rattle.std.proofs.Common.{rules, ◌∙◌, ◌∷◌, ◌++◌, [], ℤ, subst, Err}
use Rattle.std.specs.Int.{w64}
use Rattle.std.proofs.lemmas.Int.{to_z-of_z}
use mir.Val.{SFits}
use Rattle.rmx_edge.specs.Shelf.{Close}
use Rattle.rmx_edge.specs.Pieces.{writes}
use Rattle.rmx_edge.specs.Run.{Runs}
use Rattle.rmx_edge.proofs.Run.{runs_one, runs_then, runs_stopped}
use Rattle.flv_mux.specs.Flv.{tail_pieces_at}
use Rattle.flv_mux.proofs.mux.FlvMux.end.Goals as goal

pub returns-in-Ok-clause-run : goal.returns-in-Ok-clause-run
returns-in-Ok-clause-run g c = λ all shows.
    let fits : SFits w64 c.args.self.now.video_time = search rules in
    let time = to_z-of_z w64 c.args.self.now.video_time fits ∙ shows.time in
    subst (λ (t : ℤ). Runs (writes (tail_pieces_at c.args.self.now.streams t) ++ Close ∷ []) c.close.result (g.S.Shelf.state c.args.shelf.now) (g.S.Shelf.state c.close.new.self)) time
    (runs_then c.in-Ok.ensures.run (runs_one c.close.ensures.made))

pub returns-in-Err-clause-run : goal.returns-in-Err-clause-run
returns-in-Err-clause-run g c = λ all shows.
    let fits : SFits w64 c.args.self.now.video_time = search rules in
    let time = to_z-of_z w64 c.args.self.now.video_time fits ∙ shows.time in
    subst (λ (t : ℤ). Runs {T = Unit {0}} (writes (tail_pieces_at c.args.self.now.streams t) ++ Close ∷ []) (Err c.in-Err.fault) (g.S.Shelf.state c.args.shelf.now) (g.S.Shelf.state c.write_tail.new.shelf)) time
    (runs_stopped (Close ∷ []) c.in-Err.ensures.run)

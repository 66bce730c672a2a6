use Rattle.std.proofs.Common.{[], ◌∷◌, ap, ◌∙◌, sym, subst, Ok, Bool, false}
use Rattle.std.specs.Prelude.{if◌then◌else◌}
use Rattle.rmx_edge.specs.Pieces.{writes}
use Rattle.rmx_edge.specs.Run.{Runs}
use Rattle.rmx_edge.proofs.Writing.{no_pieces}
use Rattle.flv_mux.specs.Flv.{has_video, sequence_end}
use Rattle.flv_mux.proofs.packet.write_tail.Goals as goal

pub returns-clause-run : goal.returns-clause-run
returns-clause-run g c =
    let s = g.S.Shelf.state c.args.shelf.now in
    let none = sym c.if-has_video.false ∙ c.has_video.ensures ∙ ap has_video c.as_slice.ensures in
    subst (λ (b : Bool). Runs (writes (if b then sequence_end c.args.time ∷ [] else [])) (Ok (tt {0})) s s) none (no_pieces s)

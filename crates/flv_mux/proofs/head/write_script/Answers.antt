use Rattle.std.proofs.Common.{sym, subst, Option, List, ℕ, Ok}
use Rattle.rmx_edge.specs.Pieces.{writes}
use Rattle.rmx_edge.specs.Run.{Runs}
use Rattle.rmx_edge.proofs.Writing.{no_pieces}
use Rattle.flv_mux.specs.Flv.{script_pieces}
use Rattle.flv_mux.proofs.head.write_script.Goals as goal

pub returns-in-None-clause-run : goal.returns-in-None-clause-run
returns-in-None-clause-run g c =
    let s = g.S.Shelf.state c.args.shelf.now in
    subst (λ (o : Option (List ℕ)). Runs (writes (script_pieces o)) (Ok (tt {0})) s s) (sym c.in-None.is) (no_pieces s)

use Rattle.std.proofs.Common.{ℕ, List, [], ◌∷◌, ap, sym, subst}
use Rattle.rmx_edge.specs.Shelf.{Write}
use Rattle.rmx_edge.specs.Run.{Runs}
use Rattle.rmx_edge.proofs.Run.{runs_one}
use Rattle.ts_mux.specs.Tables.{with_counter}
use Rattle.ts_mux.proofs.RunLemmas.{write_last, write_more}
use Rattle.ts_mux.proofs.tables.Tables.write.Goals as goal

pub returns-in-Err-clause-run : goal.returns-in-Err-clause-run
returns-in-Err-clause-run g c =
    let counter : ℕ = c.args.self.now.counter in
    let one : List ℕ = with_counter c.args.self.now.programs counter in
    let two : List ℕ = with_counter c.args.self.now.program_map counter in
    write_last (one ∷ two ∷ []) (two ∷ []) c.numbered.result c.in-Err.fault (g.S.Shelf.state c.args.shelf.now) (g.S.Shelf.state c.write.new.self)
    (ap (λ x. x ∷ two ∷ []) (sym c.numbered.ensures)) c.in-Err.ensures.made

pub returns-clause-run : goal.returns-clause-run
returns-clause-run g c =
    let counter : ℕ = c.args.self.now.counter in
    let one : List ℕ = with_counter c.args.self.now.programs counter in
    let two : List ℕ = with_counter c.args.self.now.program_map counter in
    let a = g.S.Shelf.state c.write.new.self in
    let b = g.S.Shelf.state c.write-2.new.self in
    write_more (one ∷ two ∷ []) (two ∷ []) c.numbered.result c.in-Ok.field-0 c.write-2.result (g.S.Shelf.state c.args.shelf.now) a b
    (ap (λ x. x ∷ two ∷ []) (sym c.numbered.ensures)) c.in-Ok.ensures.made
    (subst (λ (x : List ℕ). Runs (Write x ∷ []) c.write-2.result a b) c.numbered-2.ensures (runs_one c.write-2.ensures.made))

-- Cells written one by one.
use Rattle.std.proofs.Common.{◌≡◌, List, ℕ, [], ◌∷◌, sym, subst, Ok, Err, Result}
use Rattle.std.specs.Prelude.{map}
use Rattle.rmx_edge.specs.declared.shelf.ShelfFault.{ShelfFault}
use Rattle.rmx_edge.specs.Shelf.{Write, Makes, ShelfState}
use Rattle.rmx_edge.specs.Run.{Runs}
use Rattle.rmx_edge.proofs.Run.{runs_one, runs_then, runs_stopped, runs_none}

pub write_none : (cells : List (List ℕ)) (s : ShelfState) → cells ≡ [] → Runs (map Write cells) (Ok (tt {0})) s s
write_none cells s e = subst (λ (xs : List (List ℕ)). Runs (map Write xs) (Ok (tt {0})) s s) (sym e) (runs_none s)

pub write_last : (cells rest : List (List ℕ)) (x : List ℕ) (e : ShelfFault) (a b : ShelfState) → cells ≡ x ∷ rest
    → Makes {T = Unit {0}} (Write x) (Err e) a b → Runs {T = Unit {0}} (map Write cells) (Err e) a b
write_last cells rest x e a b h m =
    subst (λ (xs : List (List ℕ)). Runs {T = Unit {0}} (map Write xs) (Err e) a b) (sym h) (runs_stopped (map Write rest) (runs_one m))

pub write_more : (cells rest : List (List ℕ)) (x : List ℕ) (u : Unit {0}) (r : Result (Unit {0}) ShelfFault) (a b c : ShelfState) → cells ≡ x ∷ rest
    → Makes {T = Unit {0}} (Write x) (Ok u) a b → Runs (map Write rest) r b c → Runs (map Write cells) r a c
write_more cells rest x u r a b c h m k =
    subst (λ (xs : List (List ℕ)). Runs (map Write xs) r a c) (sym h) (runs_then (runs_one m) k)

-- Runs that write pieces, one run after another.
use Rattle.std.proofs.Common.{ℕ, List, [], ◌∷◌, ◌++◌, sym, subst, Result, Ok, Err}
use Rattle.rmx_edge.specs.declared.shelf.ShelfFault.{ShelfFault}
use Rattle.rmx_edge.specs.Shelf.{ShelfCall, ShelfState}
use Rattle.rmx_edge.specs.Pieces.{writes}
use Rattle.rmx_edge.specs.Run.{Runs}
use Rattle.rmx_edge.proofs.Run.{runs_none, runs_then, runs_stopped}
use Rattle.rmx_edge.proofs.PieceLemmas.{writes-cons}
use Rattle.rmx_edge.proofs.FileTakes.{writes-append}

pub no_pieces : {T : Type 0} {x : T} (s : ShelfState) → Runs (writes []) (Ok x) s s
unfolding writes
no_pieces s = runs_none s

-- pieces that were written, and then more
pub pieces_then : {T : Type 0} {x : T} {r : Result T ShelfFault} (xs ys : List (List ℕ)) {a b c : ShelfState} → Runs (writes xs) (Ok x) a b → Runs (writes ys) r b c → Runs (writes (xs ++ ys)) r a c
pieces_then {T} {x} {r} xs ys {a} {b} {c} p q = subst (λ (l : List ShelfCall). Runs l r a c) (sym (writes-append xs ys)) (runs_then p q)

pub pieces_stopped : {T : Type 0} {e : ShelfFault} (xs ys : List (List ℕ)) {a b : ShelfState} → Runs {T = T} (writes xs) (Err e) a b → Runs {T = T} (writes (xs ++ ys)) (Err e) a b
pieces_stopped {T} {e} xs ys {a} {b} p = subst (λ (l : List ShelfCall). Runs {T = T} l (Err e) a b) (sym (writes-append xs ys)) (runs_stopped (writes ys) p)

-- a piece that was written, and then more
pub piece_then : {T : Type 0} {x : T} {r : Result T ShelfFault} (piece : List ℕ) (pieces : List (List ℕ)) {a b c : ShelfState} → Runs (writes (piece ∷ [])) (Ok x) a b → Runs (writes pieces) r b c → Runs (writes (piece ∷ pieces)) r a c
piece_then {T} {x} {r} piece pieces {a} {b} {c} p q = subst (λ (l : List ShelfCall). Runs l r a c) (sym (writes-cons piece pieces)) (runs_then p q)

pub piece_stopped : {T : Type 0} {e : ShelfFault} (piece : List ℕ) (pieces : List (List ℕ)) {a b : ShelfState} → Runs {T = T} (writes (piece ∷ [])) (Err e) a b → Runs {T = T} (writes (piece ∷ pieces)) (Err e) a b
piece_stopped {T} {e} piece pieces {a} {b} p = subst (λ (l : List ShelfCall). Runs {T = T} l (Err e) a b) (sym (writes-cons piece pieces)) (runs_stopped (writes pieces) p)

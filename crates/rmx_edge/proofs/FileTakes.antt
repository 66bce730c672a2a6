-- What whole files leave on a shelf.
use Rattle.std.proofs.Common.{◌≡◌, ℕ, Bool, true, false, List, [], ◌∷◌, ◌++◌, length, ap, ◌∙◌, sym, refl, append_assoc, append-nil}
use Rattle.std.specs.Prelude.{◌==◌, if◌then◌else◌}
use Rattle.std.proofs.lemmas.Bool.{eqb-true}
use Rattle.std.proofs.lemmas.List.{nil_from_length}
use Rattle.rmx_edge.specs.Shelf.{ShelfTake, ShelfCall, Write, Close, change_last, with_piece, as_closed, new_take, after}
use Rattle.rmx_edge.specs.Pieces.{write_of, writes, joined}
use Rattle.rmx_edge.specs.FileCalls.{calls_over}
use Rattle.rmx_edge.specs.Laws.{FilesAreTakes}
use Rattle.rmx_edge.proofs.Run.{after-append}

pub change_last-append : (f : ShelfTake → ShelfTake) (old : List ShelfTake) (t : ShelfTake) → change_last f (old ++ t ∷ []) ≡ old ++ f t ∷ []
change_last-append f [] t = refl
change_last-append f (x ∷ []) t = refl
change_last-append f (x ∷ y ∷ old) t = ap (λ (l : List ShelfTake). x ∷ l) (change_last-append f (y ∷ old) t)

add_none : (t : ShelfTake) (piece : List ℕ) → piece ≡ [] → with_piece piece t ≡ t
add_none t piece e = rw e (rw append-nil refl)

add_add : (t : ShelfTake) (a b : List ℕ) → with_piece b (with_piece a t) ≡ with_piece (a ++ b) t
add_add t a b = rw append_assoc refl

one_piece : (b : Bool) (piece : List ℕ) (old : List ShelfTake) (t : ShelfTake) → (b ≡ true → piece ≡ []) → after (if b then [] else Write piece ∷ []) (old ++ t ∷ []) ≡ old ++ with_piece piece t ∷ []
one_piece true piece old t h = ap (λ (u : ShelfTake). old ++ u ∷ []) (sym (add_none t piece (h refl)))
one_piece false piece old t h = change_last-append (with_piece piece) old t

no_bytes : (piece : List ℕ) → (length piece == 0) ≡ true → piece ≡ []
no_bytes piece e = nil_from_length piece (eqb-true (length piece) 0 e)

-- pieces come at the end of the last take
pub after-writes : (pieces : List (List ℕ)) (old : List ShelfTake) (t : ShelfTake) → after (writes pieces) (old ++ t ∷ []) ≡ old ++ with_piece (joined pieces) t ∷ []
unfolding writes
after-writes [] old t = ap (λ (u : ShelfTake). old ++ u ∷ []) (sym (add_none t [] refl))
after-writes (piece ∷ pieces) old t =
    after-append (write_of piece) (writes pieces) (old ++ t ∷ [])
    ∙ ap (after (writes pieces)) (one_piece (length piece == 0) piece old t (no_bytes piece))
    ∙ after-writes pieces old (with_piece piece t)
    ∙ ap (λ (u : ShelfTake). old ++ u ∷ []) (add_add t piece (joined pieces))

pub writes-append : (xs ys : List (List ℕ)) → writes (xs ++ ys) ≡ writes xs ++ writes ys
unfolding writes
writes-append [] ys = refl
writes-append (x ∷ xs) ys = ap (λ (l : List ShelfCall). write_of x ++ l) (writes-append xs ys) ∙ sym (append_assoc (write_of x) (writes xs) (writes ys))

-- the pieces of items, where an item's may go by those before it
abbrev pub pieces_over : {A : Type 0} → (List A → A → List (List ℕ)) → List A → List A → List (List ℕ)
pieces_over pieces before [] = []
pieces_over pieces before (x ∷ xs) = pieces before x ++ pieces_over pieces (before ++ x ∷ []) xs

pub writes-calls_over : {A : Type 0} (pieces : List A → A → List (List ℕ)) (before xs : List A) → calls_over (λ (bs : List A) (x : A). writes (pieces bs x)) before xs ≡ writes (pieces_over pieces before xs)
unfolding writes
writes-calls_over pieces before [] = refl
writes-calls_over {A} pieces before (x ∷ xs) =
    ap (λ (l : List ShelfCall). writes (pieces before x) ++ l) (writes-calls_over pieces (before ++ x ∷ []) xs)
    ∙ sym (writes-append (pieces before x) (pieces_over pieces (before ++ x ∷ []) xs))

-- a file that is written in pieces is one closed take of all their bytes
pub files_are_takes : FilesAreTakes
files_are_takes name pieces old =
    after-append (writes pieces) (Close ∷ []) (old ++ new_take name ∷ [])
    ∙ ap (change_last as_closed) (after-writes pieces old (new_take name))
    ∙ change_last-append as_closed old (with_piece (joined pieces) (new_take name))

-- Stuffing, in the field and in the payload's place.
use Rattle.std.proofs.Common.{◌≡◌, ℕ, ◌+◌, ◌-◌, List, [], ◌∷◌, ◌++◌, length, take, min, sym, ap, ◌∙◌, append_assoc, replicate}
use Rattle.std.proofs.lemmas.List.{replicate-append-replicate, take_min}
use Rattle.ts_psi.specs.Cell.{stuffing}

stuffing_split : (a b n : ℕ) → n ≡ a + b → stuffing n ≡ stuffing a ++ stuffing b
unfolding stuffing
stuffing_split a b n e = ap (λ k. replicate k 255) e ∙ sym (replicate-append-replicate a b 255)

pub padded : (head flags : List ℕ) (m k count n : ℕ) → k ≡ min m (length flags) → n ≡ (m - length flags) + count
    → ((head ++ m ∷ []) ++ take k flags) ++ stuffing n ≡ (head ++ (m ∷ take m flags ++ stuffing (m - length flags))) ++ stuffing count
padded head flags m k count n ke ne =
    let a : List ℕ = take m flags in
    let s : List ℕ = stuffing (m - length flags) in
    ap (λ x. ((head ++ m ∷ []) ++ x) ++ stuffing n) (ap (λ j. take j flags) ke ∙ take_min m flags)
    ∙ ap (λ x. ((head ++ m ∷ []) ++ a) ++ x) (stuffing_split (m - length flags) count n ne)
    ∙ simp append_assoc

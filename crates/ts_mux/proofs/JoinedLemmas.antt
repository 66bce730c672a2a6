-- A part filled from pieces, step by step.
use Rattle.std.proofs.Common.{◌≡◌, ℕ, ◌+◌, ◌≤◌, List, ◌++◌, length, take, drop, sym, ap, ◌∙◌, arith, append_assoc, length-append}
use Rattle.std.proofs.lemmas.List.{take_at, length-take-le, length-drop}
use Rattle.std.proofs.Math.Seq.{take-add}
use Rattle.std.proofs.lemmas.Grind.{common_steps}

pub fill_more : (all left out new : List ℕ) (at n : ℕ) → left ≡ drop at all → at + n ≤ length out → at + n ≤ length all
    → take at out ≡ take at all → new ≡ take at out ++ (take n left ++ drop (at + n) out) → take (at + n) new ≡ take (at + n) all
fill_more all left out new at n l ho ha t e =
    let start : at ≤ length all = omega arith in
    let rest : n ≤ length (drop at all) = omega (arith, length-drop at all) in
    let size : length (take at all ++ take n (drop at all)) ≡ at + n =
    length-append (take at all) (take n (drop at all)) ∙ ap (λ k. k + length (take n (drop at all))) (length-take-le at all start)
    ∙ ap (λ k. at + k) (length-take-le n (drop at all) rest) in
    ap (take (at + n)) (e ∙ ap (λ x. x ++ (take n left ++ drop (at + n) out)) t ∙ ap (λ x. take at all ++ (take n x ++ drop (at + n) out)) l
    ∙ sym (append_assoc (take at all) (take n (drop at all)) (drop (at + n) out)))
    ∙ take_at (take at all ++ take n (drop at all)) (drop (at + n) out) (at + n) size
    ∙ sym (take-add at n all)

pub rest_more : (all left new : List ℕ) (at n : ℕ) → left ≡ drop at all → new ≡ drop n left → new ≡ drop (at + n) all
rest_more all left new at n l e = e ∙ ap (drop n) l ∙ grind (arith, common_steps)

-- Reading a piece one character after the other, as a loop does.
use Rattle.std.proofs.Common.{◌≡◌, ◌∷◌, ◌++◌, [], ℕ, List, false, Result, Ok, Err, refl, sym, ◌∙◌, ap, append_assoc, arith, subst}
use Rattle.std.specs.Prelude.{◌==◌, ◌≢◌}
use Rattle.std.specs.Str.{chars}
use Rattle.std.proofs.lemmas.Str.{chars-nil}
use Rattle.std.proofs.lemmas.Bool.Decides.{nat_tests}
use Rattle.options.specs.declared.fault.WordKind.{WordKind}
use Rattle.options.specs.declared.escape.Place.{Place}
use Rattle.options.specs.declared.escape.Place.TheVariants.{Bare}
use Rattle.options.specs.Escape.{piece, is_among, with_front}

pub nothing_before : (read : Result (List ℕ × List ℕ) WordKind) → with_front [] read ≡ read
nothing_before (Ok x) = refl
nothing_before (Err e) = refl

pub regroup : (front : List ℕ) (c : ℕ) (read : Result (List ℕ × List ℕ) WordKind) → with_front front (with_front (c ∷ []) read) ≡ with_front (front ++ c ∷ []) read
regroup front c (Ok x) = ap (λ (t : List ℕ). Ok (t, x.1)) (sym (append_assoc front (c ∷ []) x.0))
regroup front c (Err e) = refl

pub from_empty : (old : List ℕ) (read : Result (List ℕ × List ℕ) WordKind) → old ≡ [] → with_front (chars old) read ≡ read
from_empty old read e = ap (λ (t : List ℕ). with_front (chars t) read) e ∙ ap (λ (t : List ℕ). with_front t read) chars-nil ∙ nothing_before read

-- a character that stays
pub bare_kept : (stops out new rest after : List ℕ) (c : ℕ) (place : Place) (whole : Result (List ℕ × List ℕ) WordKind) → place ≡ Bare → is_among stops c ≡ false → c ≢ 92 → c ≢ 39 → rest ≡ c ∷ after → new ≡ out ++ c ∷ [] → with_front out (piece stops place rest) ≡ whole → with_front new (piece stops place after) ≡ whole
unfolding piece
bare_kept stops out new rest after c place whole p b n m e k h =
    let e1 : (c == 92) ≡ false = grind (arith, nat_tests) in
    let e2 : (c == 39) ≡ false = grind (arith, nat_tests) in
    let step : piece stops Bare (c ∷ after) ≡ with_front (c ∷ []) (piece stops Bare after) = rw (b, e1, e2) refl in
    let g : with_front out (piece stops Bare (c ∷ after)) ≡ whole = subst (λ (q : Place). with_front out (piece stops q (c ∷ after)) ≡ whole) p (subst (λ (t : List ℕ). with_front out (piece stops place t) ≡ whole) e h) in
    rw (k, p) (sym (regroup out c (piece stops Bare after)) ∙ ap (with_front out) (sym step) ∙ g)

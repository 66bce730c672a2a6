-- The mark of a number.
use Rattle.std.proofs.Common.{◌≡◌, ℕ, List, [], ◌∷◌, false, None, refl, ap, arith}
use Rattle.std.specs.Prelude.{◌==◌, ◌≢◌}
use Rattle.std.proofs.lemmas.Bool.Decides.{nat_tests}
use Rattle.playlist.specs.Template.{mark}

-- neither d nor 0 in front
pub none_of_both : (text : List ℕ) → ((rest : List ℕ) → text ≢ 100 ∷ rest) → ((rest : List ℕ) → text ≢ 48 ∷ rest) → None ≡ mark text
none_of_both [] h k = refl
none_of_both (c ∷ cs) h k =
    let n : c ≢ 100 = λ e. h cs (ap (λ (x : ℕ). x ∷ cs) e) in
    let m : c ≢ 48 = λ e. k cs (ap (λ (x : ℕ). x ∷ cs) e) in
    let e1 : (c == 100) ≡ false = grind (arith, nat_tests) in
    let e2 : (c == 48) ≡ false = grind (arith, nat_tests) in
    rw (e1, e2) refl

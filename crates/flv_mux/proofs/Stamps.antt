-- Times as stamps, and the first piece of a tag.
use Rattle.std.proofs.Common.{◌≡◌, ℕ, ◌+◌, ◌-◌, arith, List, ◌++◌, length, take, ap, ◌∙◌, refl, length-append, ℤ, pos}
use Rattle.std.specs.Prelude.{unsigned_abs}
use Rattle.std.specs.Int.{w32, w64, int_wrap, int_rem_euclid}
use Rattle.std.proofs.lemmas.Int.{to_z-of_z}
use Rattle.std.proofs.lemmas.List.{take-append-le, take_all}
use Rattle.std.proofs.lemmas.Slice.{take-put_mid}
use borrow.Rule.Slice.PartMut.{put_mid}
use mir.Val.{SFits, of_z, to_z}

pub stamp_is : (t r s : ℤ) (u : ℕ) → SFits w64 t → SFits w64 r → SFits w32 s → r ≡ int_rem_euclid (to_z w64 (of_z w64 t)) (pos 4294967296) → u ≡ unsigned_abs (to_z w64 (of_z w64 r)) → s ≡ to_z w32 u → to_z w32 (of_z w32 s) ≡ int_wrap w32 t
unfolding int_wrap
stamp_is t r s u ft fr fs er eu es =
    to_z-of_z w32 s fs
    ∙ es
    ∙ ap (λ (n : ℕ). to_z w32 n)
    (eu ∙ ap unsigned_abs (to_z-of_z w64 r fr ∙ er ∙ ap (λ (z : ℤ). int_rem_euclid z (pos 4294967296)) (to_z-of_z w64 t ft)))

-- a head of 11 bytes and a lead, as they are put into a buffer
pub front_is : (head rest lead : List ℕ) → length head ≡ 11 → take (11 + length lead) (put_mid 11 ((11 + length lead) - 11) (head ++ rest) lead) ≡ head ++ lead
front_is head rest lead h =
    take-put_mid 11 ((11 + length lead) - 11) (head ++ rest) lead (11 + length lead) refl (omega (arith, length-append head rest))
    ∙ ap (λ (l : List ℕ). l ++ lead) (take-append-le 11 head rest (omega arith) ∙ take_all 11 head (omega arith))

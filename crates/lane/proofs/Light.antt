-- Sizes of less than 4 GiB each, and their sum.
use Rattle.std.proofs.Common.{◌≡◌, ℕ, zero, suc, ◌+◌, ◌*◌, ◌^◌, ◌<◌, ◌≤◌, List, [], ◌∷◌, ◌++◌, map, length, refl, sym, ap, ◌∙◌, subst, arith}
use Rattle.std.specs.Prelude.{sum_by, slice_get}
use Rattle.std.proofs.lemmas.List.Sums.{sum_by-cons, sum_by_push}
use Rattle.lane.specs.Total.{total, AreSmall}

pub total_small : (zs : List ℕ) → AreSmall zs → total zs ≤ 4294967296 * length zs
total_small [] small = omega arith
total_small (z ∷ zs) small = let one : z < 2 ^ 32 = small 0 z refl in let rest = total_small zs (λ i x e. small (suc i) x e) in let s = sum_by-cons (λ (z : ℕ). z) z zs in omega arith

pub small_more : (zs : List ℕ) (z : ℕ) → AreSmall zs → z < 2 ^ 32 → AreSmall (zs ++ z ∷ [])
small_more [] z small one zero x e = subst (λ (y : ℕ). y < 2 ^ 32) (let s : z ≡ x = cc in s) one
small_more [] z small one (suc i) x e = absurd (cc)
small_more (y ∷ ys) z small one zero x e = small zero x e
small_more (y ∷ ys) z small one (suc i) x e = small_more ys z (λ i x e. small (suc i) x e) one i x e

pub total_more : (zs : List ℕ) (z : ℕ) → total (zs ++ z ∷ []) ≡ total zs + z
total_more zs z = sum_by_push (λ (z : ℕ). z) zs z

pub total_map : {T : Type 0} (size : T → ℕ) (xs : List T) → total (map size xs) ≡ sum_by size xs
total_map size [] = refl
total_map size (x ∷ xs) = sum_by-cons (λ (z : ℕ). z) (size x) (map size xs) ∙ (ap (λ n. size x + n) (total_map size xs) ∙ sym (sum_by-cons size x xs))

pub small_rest : (all rest : List ℕ) (z : ℕ) → all ≡ z ∷ rest → AreSmall all → AreSmall rest
small_rest all rest z cut small i x e = small (suc i) x (ap (λ y. slice_get y (suc i)) cut ∙ e)

pub total_rest : (all rest : List ℕ) (z : ℕ) → all ≡ z ∷ rest → total all ≡ z + total rest
total_rest all rest z cut = ap total cut ∙ sum_by-cons (λ (z : ℕ). z) z rest

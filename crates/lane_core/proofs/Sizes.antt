-- Messages of less than 4 GiB each.
use Rattle.std.proofs.Common.{◌≡◌, zero, suc, ◌*◌, ◌^◌, ◌<◌, ◌≤◌, List, [], ◌∷◌, ◌++◌, length, refl, ap, ◌∙◌, subst, arith}
use Rattle.std.specs.Prelude.{sum_by, slice_get}
use Rattle.std.proofs.lemmas.List.Sums.{sum_by-cons}
use Rattle.lane_core.specs.declared.event.Held.{Held}
use Rattle.lane_core.specs.Size.{size_of, AreSmall}

pub sum_small : (hs : List Held) → AreSmall hs → sum_by size_of hs ≤ 4294967296 * length hs
sum_small [] small = omega arith
sum_small (h ∷ hs) small = let one : h.size < 2 ^ 32 = small 0 h refl in let rest = sum_small hs (λ i x e. small (suc i) x e) in let s = sum_by-cons size_of h hs in omega arith

pub small_rest : (all rest : List Held) (h : Held) → all ≡ h ∷ rest → AreSmall all → AreSmall rest
small_rest all rest h cut small i x e = small (suc i) x (ap (λ z. slice_get z (suc i)) cut ∙ e)

pub small_more : (hs : List Held) (h : Held) → AreSmall hs → h.size < 2 ^ 32 → AreSmall (hs ++ h ∷ [])
small_more [] h small one zero x e = subst (λ (z : Held). z.size < 2 ^ 32) (let s : h ≡ x = cc in s) one
small_more [] h small one (suc i) x e = absurd (cc)
small_more (y ∷ ys) h small one zero x e = small zero x e
small_more (y ∷ ys) h small one (suc i) x e = small_more ys h (λ i x e. small (suc i) x e) one i x e

-- Room that stays where more was taken, and readings of lists.
use Rattle.std.proofs.Common.{◌≡◌, ℕ, zero, suc, ◌+◌, ◌≤◌, List, [], ◌∷◌, length, drop, Some, false, sym, ap, arith}
use Rattle.std.specs.Prelude.{sum_by, slice_get}
use mathlib.Core.Option.{some}
use mathlib.Core.Option as maybe
use lib.ListN.{get_elem?}
use Rattle.std.proofs.lemmas.List.Sums.{sum_by-cons}
use Rattle.lane_core.specs.Machine.{Bounds, is_full}
use Rattle.lane_core.proofs.Full.{room_tells, room_of}

drop_less : {T : Type 0} (size : T → ℕ) (xs : List T) (i : ℕ) → sum_by size (drop i xs) ≤ sum_by size xs
drop_less size [] zero = omega arith
drop_less size [] (suc i) = omega arith
drop_less size (x ∷ xs) zero = omega arith
drop_less size (x ∷ xs) (suc i) = let rest = drop_less size xs i in let s = sum_by-cons size x xs in omega arith

-- less waits where more was taken
pub drop_falls : {T : Type 0} (size : T → ℕ) (xs : List T) (i j : ℕ) → i ≤ j → sum_by size (drop j xs) ≤ sum_by size (drop i xs)
drop_falls size xs zero j le = drop_less size xs j
drop_falls size xs (suc i) zero le = absurd (omega arith)
drop_falls size [] (suc i) (suc j) le = omega arith
drop_falls size (x ∷ xs) (suc i) (suc j) le = drop_falls size xs i j (omega arith)

pub still_room : {T : Type 0} (size : T → ℕ) (b : Bounds) (given : List T) (seen taken z : ℕ) → seen ≤ taken → length given ≤ seen + b.cap → is_full size b given seen z ≡ false → is_full size b given taken z ≡ false
still_room size b given seen taken z more near room = let was = room_tells b.cap b.limit (length given) seen (sum_by size (drop seen given) + z) room in let ne = was.0 in
    room_of b.cap b.limit (length given) taken (sum_by size (drop taken given) + z) (λ e. let same : length given ≡ seen + b.cap = omega arith in ne same)
    (λ p l. let light = was.1 p (omega arith) in let less = drop_falls size given seen taken more in omega arith)

pub elem_of : {A : Type 0} (xs : List A) (i : ℕ) (x : A) → get_elem? xs i ≡ some x → slice_get xs i ≡ Some x
elem_of [] i x e = absurd (maybe.some-ne-none x (sym e))
elem_of (y ∷ ys) zero x e = ap Some (maybe.some-injective y x e)
elem_of (y ∷ ys) (suc i) x e = elem_of ys i x e

pub got_elem : {A : Type 0} (xs : List A) (i : ℕ) (x : A) → slice_get xs i ≡ Some x → get_elem? xs i ≡ some x
got_elem [] i x e = absurd (cc)
got_elem (y ∷ ys) zero x e = ap some (let s : y ≡ x = cc in s)
got_elem (y ∷ ys) (suc i) x e = got_elem ys i x e

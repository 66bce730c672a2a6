-- The number nearest to a quotient.
use Rattle.std.proofs.Common.{◌≡◌, ℕ, zero, suc, ◌+◌, ◌*◌, ◌/◌, ◌<◌, ◌≤◌, Bool, true, false, refl, sym, ap, ◌∙◌, arith, Option, None, Some, subst}
use Rattle.std.specs.Prelude.{ℤ, pos, negsuc, neg_ℤ, ◌-ℤ◌, ◌*ℤ◌, unsigned_abs, int_lt, IfNone, FitsSigned}
use Rattle.std.specs.Option.{SomeIff}
use Rattle.std.specs.Int.{w64}
use Rattle.std.proofs.lemmas.Int.{ints}
use Rattle.std.proofs.Math.Nat.{mul_left_comm, suc-mul, div-eq_of_lt-le}
use Rattle.std.proofs.lemmas.Bool.{cases_lt}
use Rattle.std.proofs.lemmas.Bool.Decides.{nat_tests}
use Rattle.std.proofs.Common.{inl, inr}
use Rattle.std.specs.Prelude.{◌⊎◌}
use borrow.Author.Differences.{up, down, sum_is_lem, neg_is}
use Rattle.rmx_media.specs.Time.{IsNearest, with_sign}

twice : (k c : ℕ) → k * (2 * c) ≡ 2 * (k * c)
twice k c = mul_left_comm k 2 c

-- by what lies between, the quotient is known
quotient : (m c k : ℕ) → 2 * (k * c) ≤ 2 * m + c → 2 * m < 2 * (k * c) + c → (2 * m + c) / (2 * c) ≡ k
quotient m c k low high =
    let e : k * (2 * c) ≡ 2 * (k * c) = twice k c in
    let s : suc k * (2 * c) ≡ k * (2 * c) + 2 * c = suc-mul k (2 * c) in
    let a : k * (2 * c) ≤ 2 * m + c = omega arith in
    let b : 2 * m + c < (k + 1) * (2 * c) = omega arith in
    div-eq_of_lt-le (2 * c) a b

-- how far apart two numbers are
apart : (a b : ℤ) → up (a -ℤ b) + down a + up b ≡ down (a -ℤ b) + up a + down b
apart a b = omega (arith, sum_is_lem a (neg_ℤ b), neg_is b)

-- nearer than a half, or rounded away from zero
tie : (d c m x : ℕ) → d ≤ c → (d ≡ c → m < x) → (d < c) ⊎ (m < x)
tie d c m x h k = elim (cases_lt d c) [ inl l ↦ inl l | inr g ↦ inr (k (omega arith)) ]

pub unique : (negative : Bool) (m c : ℕ) (q : ℤ) → 0 < c → IsNearest (with_sign negative m) c q → with_sign negative ((2 * m + c) / (2 * c)) ≡ q
unique false m c (pos k) c0 h =
    let near : 2 * unsigned_abs (pos m -ℤ pos (k * c)) ≤ c = h.near in
    let low : 2 * (k * c) ≤ 2 * m + c = omega (arith, ints, apart (pos m) (pos (k * c))) in
    let high : 2 * m < 2 * (k * c) + c =
    elim (tie (2 * unsigned_abs (pos m -ℤ pos (k * c))) c m (k * c) near h.away) [
      | inl less ↦ omega (arith, ints, apart (pos m) (pos (k * c)))
      | inr less ↦ omega (arith, ints, apart (pos m) (pos (k * c)))
    ] in
    ap pos (quotient m c k low high)
unique false m c (negsuc k) c0 h =
    let near : 2 * unsigned_abs (pos m -ℤ neg_ℤ (pos (suc k * c))) ≤ c = h.near in
    let s : suc k * c ≡ k * c + c = suc-mul k c in
    absurd (omega (arith, ints, apart (pos m) (neg_ℤ (pos (suc k * c))), neg_is (pos (suc k * c))))
unique true m c (pos zero) c0 h =
    let near : 2 * unsigned_abs (neg_ℤ (pos m) -ℤ pos (zero * c)) ≤ c = h.near in
    let none : zero * c ≡ 0 = omega arith in
    let less : 2 * m < c =
    elim (tie (2 * unsigned_abs (neg_ℤ (pos m) -ℤ pos (zero * c))) c (unsigned_abs (neg_ℤ (pos m))) (zero * c) near h.away) [
      | inl less ↦ omega (arith, ints, apart (neg_ℤ (pos m)) (pos (zero * c)), neg_is (pos m))
      | inr less ↦ absurd (omega arith)
    ] in
    ap (λ n. neg_ℤ (pos n)) (quotient m c zero (omega arith) (omega arith))
unique true m c (pos (suc k)) c0 h =
    let near : 2 * unsigned_abs (neg_ℤ (pos m) -ℤ pos (suc k * c)) ≤ c = h.near in
    let s : suc k * c ≡ k * c + c = suc-mul k c in
    absurd (omega (arith, ints, apart (neg_ℤ (pos m)) (pos (suc k * c)), neg_is (pos m)))
unique true m c (negsuc k) c0 h =
    let near : 2 * unsigned_abs (neg_ℤ (pos m) -ℤ neg_ℤ (pos (suc k * c))) ≤ c = h.near in
    let size : unsigned_abs (neg_ℤ (pos m)) ≡ m = omega (arith, ints, neg_is (pos m)) in
    let low : 2 * (suc k * c) ≤ 2 * m + c = omega (arith, ints, apart (neg_ℤ (pos m)) (neg_ℤ (pos (suc k * c))), neg_is (pos m), neg_is (pos (suc k * c))) in
    let high : 2 * m < 2 * (suc k * c) + c =
    elim (tie (2 * unsigned_abs (neg_ℤ (pos m) -ℤ neg_ℤ (pos (suc k * c)))) c (unsigned_abs (neg_ℤ (pos m))) (suc k * c) near h.away) [
      | inl less ↦ omega (arith, ints, apart (neg_ℤ (pos m)) (neg_ℤ (pos (suc k * c))), neg_is (pos m), neg_is (pos (suc k * c)))
      | inr less ↦ omega (arith, ints, apart (neg_ℤ (pos m)) (neg_ℤ (pos (suc k * c))), neg_is (pos m), neg_is (pos (suc k * c)))
    ] in
    ap (λ n. neg_ℤ (pos n)) (quotient m c (suc k) low high)

not_less : (a : ℕ) → int_lt (pos a) (pos 0) ≡ false
not_less a = grind (arith, ints, nat_tests)

-- the size and sign of a product
product_of : (a : ℤ) (b : ℕ) → a *ℤ pos b ≡ with_sign (int_lt a (pos 0)) (unsigned_abs a * b)
product_of (pos a) b = ap (λ t. with_sign t (a * b)) (sym (not_less a))
product_of (negsuc a) b = refl

-- a number that isn't answered is no i64
pub none_left : (r : Option ℤ) (a x : ℤ) (b c n : ℕ) → x ≡ a → 0 < c → n ≡ (2 * (unsigned_abs a * b) + c) / (2 * c)
    → SomeIff r (FitsSigned w64 (with_sign (int_lt x (pos 0)) n)) (with_sign (int_lt x (pos 0)) n)
    → IfNone r ((q : ℤ) → IsNearest (a *ℤ pos b) c q → FitsSigned w64 q → ⊥)
none_left (Some y) a x b c n e c0 v h = tt
none_left None a x b c n e c0 v h = λ q near fits.
    let negative : Bool = int_lt a (pos 0) in
    let m : ℕ = unsigned_abs a * b in
    let is : with_sign negative ((2 * m + c) / (2 * c)) ≡ q =
    unique negative m c q c0 (subst (λ (p : ℤ). IsNearest p c q) (product_of a b) near) in
    let there : with_sign (int_lt x (pos 0)) n ≡ q =
    ap (λ (y : ℤ). with_sign (int_lt y (pos 0)) n) e ∙ ap (with_sign negative) v ∙ is in
    h (subst (FitsSigned w64) (sym there) fits)

-- Times in ticks of a base, and their text.
use Rattle.std.specs.Prelude.{◌≡◌, ℕ, ◌+◌, ◌*◌, ◌/◌, ◌%◌, ◌<◌, ◌≤◌, Bool, true, false, if◌then◌else◌, List, [], ◌∷◌, ◌++◌, ℤ, pos, neg_ℤ, ◌-ℤ◌, ◌*ℤ◌, int_lt, unsigned_abs, decimal}
use Rattle.std.specs.Ordering.{int_cmp}
use Rattle.std.specs.declared.cmp.Ordering.{Ordering}
use Rattle.rmx_media.specs.declared.time.Base.{Base}

-- the order of two times, by cross product
abbrev pub order_of : ℤ → Base → ℤ → Base → Ordering
order_of a one b other = int_cmp (a *ℤ pos (one.num * other.den)) (b *ℤ pos (other.num * one.den))

-- q is the whole number nearest to product / c, and of two that are equally near the one away from zero
pub record IsNearest (product : ℤ) (c : ℕ) (q : ℤ) : Type 0 where
  pub near : 2 * unsigned_abs (product -ℤ (q *ℤ pos c)) ≤ c
  pub away : 2 * unsigned_abs (product -ℤ (q *ℤ pos c)) ≡ c → unsigned_abs product < unsigned_abs q * c

-- a number of that size and sign
abbrev pub with_sign : Bool → ℕ → ℤ
with_sign false n = pos n
with_sign true n = neg_ℤ (pos n)

-- six digits
abbrev pub six_digits : ℕ → List ℕ
six_digits n =
    (48 + n / 100000 % 10) ∷ (48 + n / 10000 % 10) ∷ (48 + n / 1000 % 10) ∷ (48 + n / 100 % 10) ∷ (48 + n / 10 % 10) ∷ (48 + n % 10) ∷ []

-- so many microseconds as seconds
abbrev pub seconds_of : ℕ → List ℕ
seconds_of us = decimal (us / 1000000) ++ 46 ∷ six_digits (us % 1000000)

-- the same behind a sign, where there is one
abbrev pub seconds_text : ℤ → List ℕ
seconds_text us = (if int_lt us (pos 0) then 45 ∷ [] else []) ++ seconds_of (unsigned_abs us)

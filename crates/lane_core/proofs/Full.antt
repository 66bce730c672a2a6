-- What it means that a lane has room.
use Rattle.std.proofs.Common.{◌≡◌, ◌≢◌, ℕ, ◌+◌, ◌<◌, ◌≤◌, Bool, true, false, ◌&&◌, ◌||◌, nat_lt, ◌==◌, refl, ap₂}
use Rattle.std.proofs.lemmas.Bool.{ltb-true, lt-ltb, ltb-false, le-ltb, eqb-false, ne_eqb}

or_neither : (a b : Bool) → (a || b) ≡ false → (a ≡ false) × (b ≡ false)
or_neither true b e = absurd (cc)
or_neither false b e = (refl, e)

and_both : (a b : Bool) → (a && b) ≡ true → (a ≡ true) × (b ≡ true)
and_both true b e = (refl, e)
and_both false b e = absurd (cc)

and_not : (a b : Bool) → (a && b) ≡ false → a ≡ true → b ≡ false
and_not true b e h = e
and_not false b e h = absurd (cc)

and_of : (a b : Bool) → a ≡ true → b ≡ true → (a && b) ≡ true
and_of true b e h = h
and_of false b e h = e

false_and : (a b : Bool) → (a ≡ true → b ≡ false) → (a && b) ≡ false
false_and true b h = h refl
false_and false b h = refl

-- `given` were given and `taken` of them taken; `bytes` is what waits with what is new
abbrev test : ℕ → ℕ → ℕ → ℕ → ℕ → Bool
test cap limit given taken bytes = (given == taken + cap) || ((nat_lt 0 limit && nat_lt taken given) && nat_lt limit bytes)

pub room_tells : (cap limit given taken bytes : ℕ) → test cap limit given taken bytes ≡ false → (given ≢ taken + cap) × (0 < limit → taken < given → bytes ≤ limit)
room_tells cap limit given taken bytes e = let x = or_neither (given == taken + cap) _ e in (
  eqb-false given (taken + cap) x.0,
  λ a b. ltb-false limit bytes (and_not (nat_lt 0 limit && nat_lt taken given) (nat_lt limit bytes) x.1 (and_of _ _ (lt-ltb 0 limit a) (lt-ltb taken given b))),
)

pub room_of : (cap limit given taken bytes : ℕ) → given ≢ taken + cap → (0 < limit → taken < given → bytes ≤ limit) → test cap limit given taken bytes ≡ false
room_of cap limit given taken bytes ne light = ap₂ (λ (a b : Bool). a || b) (ne_eqb given (taken + cap) ne)
    (false_and (nat_lt 0 limit && nat_lt taken given) (nat_lt limit bytes) (λ h. let x = and_both (nat_lt 0 limit) (nat_lt taken given) h in le-ltb limit bytes (light (ltb-true 0 limit x.0) (ltb-true taken given x.1))))

-- The units of a payload have bytes, and their lengths fit the length fields.
use Rattle.std.proofs.Common.{◌≡◌, ℕ, zero, suc, ◌+◌, ◌^◌, ◌<◌, ◌≤◌, Bool, true, false, cond, List, [], ◌∷◌, length, take, drop, get_or, refl, arith, Option, None, Some, lit<}
use Rattle.std.specs.Prelude.{nat_lt, filter, unwrap_or, if◌then◌else◌}
use Rattle.std.specs.Option.{option_map}
use Rattle.std.proofs.lemmas.List.{length-take}
use Rattle.std.proofs.lemmas.Bool.Decides.{nat_tests}
use Rattle.rmx_media.specs.Units.{is_filled, size_in, parts_by, parts_of, units_of, AreFilled}
use Rattle.avc_units.specs.UnitList.{AreShort}

-- each is a byte
abbrev pub IsBytes : List ℕ → Type 0
IsBytes bytes = (i : ℕ) → get_or bytes i 0 < 256

small : (width : ℕ) (bytes : List ℕ) → width ≤ 4 → width ≤ length bytes → IsBytes bytes → size_in width bytes < 256 ^ width
small zero bytes w l h = lit< tt
small (suc zero) [] w l h = absurd (omega (arith, l))
small (suc zero) (a ∷ xs) w l h = let p : a < 256 = h 0 in omega arith
small (suc (suc zero)) [] w l h = absurd (omega (arith, l))
small (suc (suc zero)) (a ∷ []) w l h = absurd (omega (arith, l))
small (suc (suc zero)) (a ∷ b ∷ xs) w l h =
    let p : a < 256 = h 0 in
    let q : b < 256 = h 1 in
    omega arith
small (suc (suc (suc zero))) [] w l h = absurd (omega (arith, l))
small (suc (suc (suc zero))) (a ∷ []) w l h = absurd (omega (arith, l))
small (suc (suc (suc zero))) (a ∷ b ∷ []) w l h = absurd (omega (arith, l))
small (suc (suc (suc zero))) (a ∷ b ∷ c ∷ xs) w l h =
    let p : a < 256 = h 0 in
    let q : b < 256 = h 1 in
    let r : c < 256 = h 2 in
    omega arith
small (suc (suc (suc (suc zero)))) [] w l h = absurd (omega (arith, l))
small (suc (suc (suc (suc zero)))) (a ∷ []) w l h = absurd (omega (arith, l))
small (suc (suc (suc (suc zero)))) (a ∷ b ∷ []) w l h = absurd (omega (arith, l))
small (suc (suc (suc (suc zero)))) (a ∷ b ∷ c ∷ []) w l h = absurd (omega (arith, l))
small (suc (suc (suc (suc zero)))) (a ∷ b ∷ c ∷ d ∷ xs) w l h =
    let p : a < 256 = h 0 in
    let q : b < 256 = h 1 in
    let r : c < 256 = h 2 in
    let s : d < 256 = h 3 in
    omega arith
small (suc (suc (suc (suc (suc width))))) bytes w l h = absurd (omega (arith, w))

drop_bytes : (n : ℕ) (bytes : List ℕ) → IsBytes bytes → IsBytes (drop n bytes)
drop_bytes zero bytes h = h
drop_bytes (suc n) [] h = h
drop_bytes (suc n) (x ∷ xs) h = drop_bytes n xs (λ i. h (suc i))

abbrev Short : ℕ → Option (List (List ℕ)) → Type 0
Short width None = Unit {0}
Short width (Some parts) = AreShort width parts

short_with : (cut : Bool) (width : ℕ) (part : List ℕ) (parts : Option (List (List ℕ))) → Short width parts → (cut ≡ false → length part < 256 ^ width)
    → Short width (if cut then None else option_map (λ ps. part ∷ ps) parts)
short_with true width part parts h k = tt
short_with false width part None h k = tt
short_with false width part (Some parts) h k = (k refl, h)

not_short : (m n : ℕ) → nat_lt m n ≡ false → n ≤ m
not_short m n h = grind (arith, nat_tests)

short_by : (steps width : ℕ) (bytes : List ℕ) → width ≤ 4 → IsBytes bytes → Short width (parts_by steps width bytes)
short_by zero width [] w h = tt
short_by (suc steps) width [] w h = tt
short_by zero width (x ∷ xs) w h = tt
short_by (suc steps) width (x ∷ xs) w h =
    let bytes : List ℕ = x ∷ xs in
    short_with (nat_lt (length bytes) (width + size_in width bytes)) width (take (size_in width bytes) (drop width bytes))
    (parts_by steps width (drop (width + size_in width bytes) bytes))
    (short_by steps width (drop (width + size_in width bytes) bytes) w (drop_bytes (width + size_in width bytes) bytes h))
    (λ cut.
    let long : width + size_in width bytes ≤ length bytes = not_short (length bytes) (width + size_in width bytes) cut in
    let fits : size_in width bytes < 256 ^ width = small width bytes w (omega arith) h in
    omega (arith, length-take (size_in width bytes) (drop width bytes)))

-- a part of short units is short
pub filter_short : (width : ℕ) (parts : List (List ℕ)) (test : List ℕ → Bool) → AreShort width parts → AreShort width (filter test parts)
filter_short width [] test h = tt
filter_short width (part ∷ parts) test h = by (test part) (filter_short width parts test h.1)
  where
    by : (b : Bool) → AreShort width (filter test parts) → AreShort width (cond b (part ∷ filter test parts) (filter test parts))
    by true k = (h.0, k)
    by false k = k

some_short : (width : ℕ) (parts : Option (List (List ℕ))) → Short width parts → AreShort width (filter is_filled (unwrap_or parts []))
some_short width None h = tt
some_short width (Some parts) h = filter_short width parts is_filled h

pub units_short : (width : ℕ) (payload : List ℕ) → width ≤ 4 → IsBytes payload → AreShort width (units_of width payload)
unfolding units_of parts_of
units_short width payload w h = some_short width (parts_by (length payload) width payload) (short_by (length payload) width payload w h)

filled_by : (b : Bool) (part : List ℕ) (parts : List (List ℕ)) → is_filled part ≡ b → AreFilled parts → AreFilled (cond b (part ∷ parts) parts)
filled_by true part parts e h = (not_empty part e, h)
  where
    not_empty : (part : List ℕ) → is_filled part ≡ true → 0 < length part
    not_empty part e = grind (arith, nat_tests)
filled_by false part parts e h = h

-- what a filter of empty ones leaves
pub all_filled : (parts : List (List ℕ)) → AreFilled (filter is_filled parts)
all_filled [] = tt
all_filled (part ∷ parts) = filled_by (is_filled part) part (filter is_filled parts) refl (all_filled parts)

pub units_filled : (width : ℕ) (payload : List ℕ) → AreFilled (units_of width payload)
unfolding units_of
units_filled width payload = all_filled (unwrap_or (parts_of width payload) [])

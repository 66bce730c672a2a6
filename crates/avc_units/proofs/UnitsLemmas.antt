-- Units, one after another.
use Rattle.std.proofs.Common.{◌≡◌, ℕ, zero, suc, ◌+◌, ◌-◌, ◌<◌, ◌≤◌, Bool, true, false, List, [], ◌∷◌, length, take, drop, refl, sym, ap, ◌∙◌, arith, Option, None, Some, cond}
use Rattle.std.specs.Prelude.{nat_lt, is_some, if◌then◌else◌, ◌||◌, ◌&&◌, filter, unwrap_or}
use Rattle.std.specs.Option.{option_map}
use Rattle.std.proofs.lemmas.List.{length-drop}
use Rattle.std.proofs.lemmas.Bool.Decides.{nat_tests}
use Rattle.rmx_media.specs.Units.{is_filled, size_in, parts_by, parts_of, units_of, is_valid}

pub is_short : (m n : ℕ) → m < n → nat_lt m n ≡ true
is_short m n h = grind (arith, nat_tests)

pub is_long : (m n : ℕ) → n ≤ m → nat_lt m n ≡ false
is_long m n h = grind (arith, nat_tests)

-- the first part, and those after it
abbrev front : ℕ → List ℕ → Option (List (List ℕ)) → Option (List (List ℕ))
front width bytes parts =
    if nat_lt (length bytes) (width + size_in width bytes) then None
    else option_map (λ ps. take (size_in width bytes) (drop width bytes) ∷ ps) parts

-- any number of steps that is large enough does
enough : (n m width : ℕ) (bytes : List ℕ) → 1 ≤ width → length bytes ≤ n → length bytes ≤ m → parts_by n width bytes ≡ parts_by m width bytes
enough n m width [] w h k = by_none n m width
  where
    by_none : (n m width : ℕ) → parts_by n width [] ≡ parts_by m width []
    by_none zero zero width = refl
    by_none zero (suc m) width = refl
    by_none (suc n) zero width = refl
    by_none (suc n) (suc m) width = refl
enough zero m width (x ∷ xs) w h k = absurd (omega (arith, h))
enough (suc n) zero width (x ∷ xs) w h k = absurd (omega (arith, k))
enough (suc n) (suc m) width (x ∷ xs) w h k =
    let bytes : List ℕ = x ∷ xs in
    let rest : List ℕ = drop (width + size_in width bytes) bytes in
    let size : length rest ≡ length bytes - (width + size_in width bytes) = length-drop (width + size_in width bytes) bytes in
    let a : length rest ≤ n = omega arith in
    let b : length rest ≤ m = omega arith in
    ap (front width bytes) (enough n m width rest w a b)

pub parts_none : (width : ℕ) → parts_of width [] ≡ Some []
unfolding parts_of
parts_none width = refl

-- one part
pub parts_one : (width : ℕ) (bytes : List ℕ) → 1 ≤ width → 0 < length bytes
    → parts_of width bytes ≡ front width bytes (parts_of width (drop (width + size_in width bytes) bytes))
unfolding parts_of
parts_one width [] w h = absurd (omega (arith, h))
parts_one width (x ∷ xs) w h =
    let bytes : List ℕ = x ∷ xs in
    let rest : List ℕ = drop (width + size_in width bytes) bytes in
    let size : length rest ≡ length bytes - (width + size_in width bytes) = length-drop (width + size_in width bytes) bytes in
    let a : length rest ≤ length xs = omega arith in
    let b : length rest ≤ length rest = omega arith in
    ap (front width bytes) (enough (length xs) (length rest) width rest w a b)

pub parts_cut : (width : ℕ) (bytes : List ℕ) → 1 ≤ width → 0 < length bytes → length bytes < width + size_in width bytes → parts_of width bytes ≡ None
parts_cut width bytes w h s =
    parts_one width bytes w h
    ∙ ap (λ (t : Bool). if t then None else option_map (λ ps. take (size_in width bytes) (drop width bytes) ∷ ps) (parts_of width (drop (width + size_in width bytes) bytes)))
    (is_short (length bytes) (width + size_in width bytes) s)

pub parts_more : (width : ℕ) (bytes : List ℕ) → 1 ≤ width → 0 < length bytes → width + size_in width bytes ≤ length bytes
    → parts_of width bytes ≡ option_map (λ ps. take (size_in width bytes) (drop width bytes) ∷ ps) (parts_of width (drop (width + size_in width bytes) bytes))
parts_more width bytes w h s =
    parts_one width bytes w h
    ∙ ap (λ (t : Bool). if t then None else option_map (λ ps. take (size_in width bytes) (drop width bytes) ∷ ps) (parts_of width (drop (width + size_in width bytes) bytes)))
    (is_long (length bytes) (width + size_in width bytes) s)

-- whether a unit was found, or one is among the parts that are left
abbrev pub good : Bool → Option (List (List ℕ)) → Bool
good found None = false
good found (Some parts) = found || nat_lt 0 (length (filter is_filled parts))

good_none : (parts : Option (List (List ℕ))) → nat_lt 0 (length (filter is_filled (unwrap_or parts []))) ≡ good false parts
good_none None = refl
good_none (Some parts) = refl

pub good_begin : (width : ℕ) (bytes : List ℕ) → is_valid width bytes ≡ good false (parts_of width bytes)
unfolding units_of
good_begin width bytes = good_none (parts_of width bytes)

good_by : (found filled : Bool) (part : List ℕ) (parts : List (List ℕ)) → is_filled part ≡ filled
    → (found || nat_lt 0 (length (filter is_filled (part ∷ parts)))) ≡ ((found || filled) || nat_lt 0 (length (filter is_filled parts)))
good_by true filled part parts e = refl
good_by false true part parts e =
    ap (λ (b : Bool). nat_lt 0 (length (cond b (part ∷ filter is_filled parts) (filter is_filled parts)))) e
    ∙ is_short 0 (length (part ∷ filter is_filled parts)) (omega arith)
good_by false false part parts e = ap (λ (b : Bool). nat_lt 0 (length (cond b (part ∷ filter is_filled parts) (filter is_filled parts)))) e

good_with : (found : Bool) (part : List ℕ) (parts : Option (List (List ℕ))) → good found (option_map (λ ps. part ∷ ps) parts) ≡ good (found || is_filled part) parts
good_with found part None = refl
good_with found part (Some parts) = good_by found (is_filled part) part parts refl

-- one step over a payload
pub good_more : (found : Bool) (width : ℕ) (bytes : List ℕ) → 1 ≤ width → 0 < length bytes → width + size_in width bytes ≤ length bytes
    → good found (parts_of width bytes)
    ≡ good (found || is_filled (take (size_in width bytes) (drop width bytes))) (parts_of width (drop (width + size_in width bytes) bytes))
good_more found width bytes w h s =
    ap (good found) (parts_more width bytes w h s)
    ∙ good_with found (take (size_in width bytes) (drop width bytes)) (parts_of width (drop (width + size_in width bytes) bytes))

-- the same, where the part is known
pub good_filled : (found : Bool) (width : ℕ) (bytes part rest : List ℕ) → 1 ≤ width → 0 < length bytes → width + size_in width bytes ≤ length bytes
    → part ≡ take (size_in width bytes) (drop width bytes) → rest ≡ drop (width + size_in width bytes) bytes → 0 < length part
    → good found (parts_of width bytes) ≡ good true (parts_of width rest)
good_filled found width bytes part rest w h s p r l =
    good_more found width bytes w h s
    ∙ ap (λ (x : List ℕ). good (found || is_filled x) (parts_of width (drop (width + size_in width bytes) bytes))) (sym p)
    ∙ ap (λ (x : List ℕ). good (found || is_filled part) (parts_of width x)) (sym r)
    ∙ ap (λ (b : Bool). good (found || b) (parts_of width rest)) (is_short 0 (length part) l)
    ∙ ap (λ (b : Bool). good b (parts_of width rest)) (or_true found)
  where
    or_true : (b : Bool) → (b || true) ≡ true
    or_true true = refl
    or_true false = refl

pub good_empty : (found : Bool) (width : ℕ) (bytes part rest : List ℕ) → 1 ≤ width → 0 < length bytes → width + size_in width bytes ≤ length bytes
    → part ≡ take (size_in width bytes) (drop width bytes) → rest ≡ drop (width + size_in width bytes) bytes → length part ≤ 0
    → good found (parts_of width bytes) ≡ good found (parts_of width rest)
good_empty found width bytes part rest w h s p r l =
    good_more found width bytes w h s
    ∙ ap (λ (x : List ℕ). good (found || is_filled x) (parts_of width (drop (width + size_in width bytes) bytes))) (sym p)
    ∙ ap (λ (x : List ℕ). good (found || is_filled part) (parts_of width x)) (sym r)
    ∙ ap (λ (b : Bool). good (found || b) (parts_of width rest)) (is_long 0 (length part) l)
    ∙ ap (λ (b : Bool). good b (parts_of width rest)) (or_false found)
  where
    or_false : (b : Bool) → (b || false) ≡ b
    or_false true = refl
    or_false false = refl

pub good_end : (found : Bool) (width : ℕ) (bytes : List ℕ) → length bytes ≡ 0 → good found (parts_of width bytes) ≡ found
good_end found width [] h = ap (good found) (parts_none width) ∙ or_false found
  where
    or_false : (b : Bool) → (b || false) ≡ b
    or_false true = refl
    or_false false = refl
good_end found width (x ∷ xs) h = absurd (omega (arith, h))

some_good : (parts : Option (List (List ℕ))) → good false parts ≡ true → is_some parts ≡ true
some_good None h = cc
some_good (Some parts) h = refl

pub valid_whole : (width : ℕ) (bytes : List ℕ) → is_valid width bytes ≡ true → is_some (parts_of width bytes) ≡ true
valid_whole width bytes h = some_good (parts_of width bytes) (sym (good_begin width bytes) ∙ h)

-- nothing is cut off
pub not_cut : (width : ℕ) (bytes : List ℕ) → 1 ≤ width → 0 < length bytes → is_some (parts_of width bytes) ≡ true → length bytes < width + size_in width bytes → ⊥
not_cut width bytes w h s c =
    let e : parts_of width bytes ≡ None = parts_cut width bytes w h c in
    let f : false ≡ true = sym (ap (λ (p : Option (List (List ℕ))). is_some p) e) ∙ s in
    cc

some_with : (part : List ℕ) (parts : Option (List (List ℕ))) → is_some (option_map (λ ps. part ∷ ps) parts) ≡ true → is_some parts ≡ true
some_with part None h = h
some_with part (Some parts) h = refl

pub rest_whole : (width : ℕ) (bytes : List ℕ) → 1 ≤ width → 0 < length bytes → is_some (parts_of width bytes) ≡ true → width + size_in width bytes ≤ length bytes
    → is_some (parts_of width (drop (width + size_in width bytes) bytes)) ≡ true
rest_whole width bytes w h s l =
    some_with (take (size_in width bytes) (drop width bytes)) (parts_of width (drop (width + size_in width bytes) bytes))
    (sym (ap (λ (p : Option (List (List ℕ))). is_some p) (parts_more width bytes w h l)) ∙ s)

-- an empty part is no unit, another one is the first
units_by : (part : List ℕ) (parts : Option (List (List ℕ))) (filled : Bool) → is_filled part ≡ filled
    → filter is_filled (unwrap_or (option_map (λ ps. part ∷ ps) parts) [])
    ≡ (if is_some parts && filled then part ∷ filter is_filled (unwrap_or parts []) else filter is_filled (unwrap_or parts []))
units_by part None true e = refl
units_by part None false e = refl
units_by part (Some parts) true e = ap (λ (b : Bool). cond b (part ∷ filter is_filled parts) (filter is_filled parts)) e
units_by part (Some parts) false e = ap (λ (b : Bool). cond b (part ∷ filter is_filled parts) (filter is_filled parts)) e

pub units_filled : (width same : ℕ) (bytes rest : List ℕ) (part : List ℕ) → parts_of width bytes ≡ option_map (λ ps. part ∷ ps) (parts_of same rest)
    → is_some (parts_of same rest) ≡ true → 0 < length part → units_of width bytes ≡ part ∷ units_of same rest
unfolding units_of
units_filled width same bytes rest part e s h =
    ap (λ (p : Option (List (List ℕ))). filter is_filled (unwrap_or p [])) e
    ∙ units_by part (parts_of same rest) true (is_short 0 (length part) h)
    ∙ ap (λ (b : Bool). if b && true then part ∷ filter is_filled (unwrap_or (parts_of same rest) []) else filter is_filled (unwrap_or (parts_of same rest) [])) s

pub units_empty : (width same : ℕ) (bytes rest : List ℕ) (part : List ℕ) → parts_of width bytes ≡ option_map (λ ps. part ∷ ps) (parts_of same rest)
    → is_some (parts_of same rest) ≡ true → length part ≡ 0 → units_of width bytes ≡ units_of same rest
unfolding units_of
units_empty width same bytes rest part e s h =
    ap (λ (p : Option (List (List ℕ))). filter is_filled (unwrap_or p [])) e
    ∙ units_by part (parts_of same rest) false (is_long 0 (length part) (omega arith))
    ∙ ap (λ (b : Bool). if b && false then part ∷ filter is_filled (unwrap_or (parts_of same rest) []) else filter is_filled (unwrap_or (parts_of same rest) [])) s

pub units_none : (width : ℕ) (bytes : List ℕ) → length bytes ≡ 0 → units_of width bytes ≡ []
unfolding units_of
units_none width [] h = ap (λ (p : Option (List (List ℕ))). filter is_filled (unwrap_or p [])) (parts_none width)
units_none width (x ∷ xs) h = absurd (omega (arith, h))

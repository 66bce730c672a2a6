-- How long the Annex B form is.
use Rattle.std.proofs.Common.{◌≡◌, ℕ, zero, suc, ◌+◌, ◌-◌, ◌*◌, ◌<◌, ◌≤◌, Bool, true, false, cond, List, [], ◌∷◌, ◌++◌, length, take, drop, refl, ap, ◌∙◌, arith, Option, None, Some, length-append}
use Rattle.std.specs.Prelude.{nat_lt, filter, unwrap_or, not, slice_index, if◌then◌else◌, ◌==◌, ◌%◌}
use Rattle.std.specs.Option.{option_map}
use Rattle.std.proofs.lemmas.List.{length-drop, length-take}
use Rattle.std.proofs.lemmas.Bool.Decides.{nat_tests}
use Rattle.rmx_media.specs.declared.avc.AvcConfig.{AvcConfig}
use Rattle.rmx_media.specs.Avc.{Run, run_of, with_set, sets_after, with_sets as after_sets, sets_in, some_sets, all_sets, sets_of}
use Rattle.rmx_media.specs.Bits.{number_of}
use Rattle.rmx_media.specs.Units.{is_filled, type_of, annexb, size_in, parts_by, parts_of, units_of}
use Rattle.avc_units.specs.UnitList.{has_type, before_idr, where_due, with_sets}

abbrev pub size : List (List ℕ) → ℕ
size units = length (annexb units)

pub size_none : size [] ≡ 0
unfolding annexb
size_none = refl

pub size_one : (unit : List ℕ) (units : List (List ℕ)) → size (unit ∷ units) ≡ 4 + length unit + size units
unfolding annexb
size_one unit units = omega (arith, length-append unit (annexb units))

pub size_append : (xs ys : List (List ℕ)) → size (xs ++ ys) ≡ size xs + size ys
size_append [] ys = omega (arith, size_none)
size_append (x ∷ xs) ys = omega (arith, size_one x (xs ++ ys), size_one x xs, size_append xs ys)

-- a part that is left out, or costs at most five times its length
filtered_by : (filled : Bool) (part : List ℕ) (parts : List (List ℕ)) → is_filled part ≡ filled → size (cond filled (part ∷ filter is_filled parts) (filter is_filled parts)) ≤ 5 * length part + size (filter is_filled parts)
filtered_by false part parts e = omega arith
filtered_by true part parts e =
    let long : 0 < length part = not_empty part e in
    omega (arith, size_one part (filter is_filled parts))
  where
    not_empty : (part : List ℕ) → is_filled part ≡ true → 0 < length part
    not_empty part e = grind (arith, nat_tests)

filtered : (part : List ℕ) (parts : List (List ℕ)) → size (filter is_filled (part ∷ parts)) ≤ 5 * length part + size (filter is_filled parts)
filtered part parts = filtered_by (is_filled part) part parts refl

payload_with : (short : Bool) (part : List ℕ) (parts : Option (List (List ℕ))) (m r : ℕ) → size (filter is_filled (unwrap_or parts [])) ≤ 5 * r
    → (short ≡ false → length part + r ≤ m) → size (filter is_filled (unwrap_or (if short then None else option_map (λ ps. part ∷ ps) parts) [])) ≤ 5 * m
payload_with true part parts m r h k = omega (arith, size_none)
payload_with false part None m r h k = omega (arith, size_none)
payload_with false part (Some parts) m r h k =
    let within : length part + r ≤ m = k refl in
    omega (arith, filtered part parts)

not_short : (m n : ℕ) → nat_lt m n ≡ false → n ≤ m
not_short m n h = grind (arith, nat_tests)

within : (width n : ℕ) (bytes : List ℕ) → width + n ≤ length bytes → length (take n (drop width bytes)) + length (drop (width + n) bytes) ≤ length bytes
within width n bytes h =
    let a : length (drop (width + n) bytes) ≡ length bytes - (width + n) = length-drop (width + n) bytes in
    omega (arith, length-take n (drop width bytes))

payload_by : (steps width : ℕ) (bytes : List ℕ) → size (filter is_filled (unwrap_or (parts_by steps width bytes) [])) ≤ 5 * length bytes
payload_by zero width [] = omega (arith, size_none)
payload_by (suc steps) width [] = omega (arith, size_none)
payload_by zero width (x ∷ xs) = omega (arith, size_none)
payload_by (suc steps) width (x ∷ xs) =
    let bytes : List ℕ = x ∷ xs in
    let rest : List ℕ = drop (width + size_in width bytes) bytes in
    payload_with (nat_lt (length bytes) (width + size_in width bytes)) (take (size_in width bytes) (drop width bytes)) (parts_by steps width rest) (length bytes) (length rest)
    (payload_by steps width rest) (λ h. within width (size_in width bytes) bytes (not_short (length bytes) (width + size_in width bytes) h))

-- the units of a payload
pub size_units : (width : ℕ) (payload : List ℕ) → size (units_of width payload) ≤ 5 * length payload
unfolding units_of parts_of
size_units width payload = payload_by (length payload) width payload

abbrev Bounded : Option Run → ℕ → Type 0
Bounded None m = Unit {0}
Bounded (Some run) m = size (filter is_filled run.sets) + 5 * length run.rest ≤ 5 * m

run_with : (short : Bool) (set : List ℕ) (run : Option Run) (m r : ℕ) → Bounded run r → (short ≡ false → length set + r ≤ m) → Bounded (if short then None else with_set set run) m
run_with true set run m r h k = tt
run_with false set None m r h k = tt
run_with false set (Some run) m r h k =
    let within : length set + r ≤ m = k refl in
    omega (arith, filtered set run.sets)

run_by : (count : ℕ) (bytes : List ℕ) → Bounded (run_of count bytes) (length bytes)
run_by zero bytes = omega (arith, size_none)
run_by (suc count) bytes =
    let n : ℕ = number_of (take 2 bytes) in
    run_with (nat_lt (length bytes) (2 + n)) (take n (drop 2 bytes)) (run_of count (drop (2 + n) bytes)) (length bytes) (length (drop (2 + n) bytes))
    (run_by count (drop (2 + n) bytes)) (λ h. within 2 n bytes (not_short (length bytes) (2 + n) h))

filter-append : (xs ys : List (List ℕ)) → filter is_filled (xs ++ ys) ≡ filter is_filled xs ++ filter is_filled ys
filter-append [] ys = refl
filter-append (x ∷ xs) ys = by (is_filled x) (filter-append xs ys)
  where
    by : (b : Bool) → filter is_filled (xs ++ ys) ≡ filter is_filled xs ++ filter is_filled ys
        → cond b (x ∷ filter is_filled (xs ++ ys)) (filter is_filled (xs ++ ys)) ≡ cond b (x ∷ filter is_filled xs) (filter is_filled xs) ++ filter is_filled ys
    by true h = ap (λ (zs : List (List ℕ)). x ∷ zs) h
    by false h = h

after_by : (short : Bool) (sets : List (List ℕ)) (run : Option Run) (m r : ℕ) → Bounded run r → size (filter is_filled sets) + 5 * r ≤ 5 * m
    → size (filter is_filled (some_sets (if short then None else after_sets sets run))) ≤ 5 * m
after_by true sets run m r h k = omega (arith, size_none)
after_by false sets None m r h k = omega (arith, size_none)
after_by false sets (Some run) m r h k =
    let e : size (filter is_filled (sets ++ run.sets)) ≡ size (filter is_filled sets) + size (filter is_filled run.sets) =
    ap size (filter-append sets run.sets) ∙ size_append (filter is_filled sets) (filter is_filled run.sets) in
    omega arith

after : (run : Option Run) (m : ℕ) → Bounded run m → size (filter is_filled (some_sets (sets_after run))) ≤ 5 * m
after None m h = omega (arith, size_none)
after (Some run) m h =
    let rest : length (drop 1 run.rest) ≡ length run.rest - 1 = length-drop 1 run.rest in
    after_by (nat_lt (length run.rest) 1) run.sets (run_of (slice_index run.rest 0) (drop 1 run.rest)) m (length (drop 1 run.rest))
    (run_by (slice_index run.rest 0) (drop 1 run.rest)) (omega arith)

sets_by : (short : Bool) (sets : Option (List (List ℕ))) (m : ℕ) → size (filter is_filled (some_sets sets)) ≤ m → size (filter is_filled (some_sets (if short then None else sets))) ≤ m
sets_by true sets m h = omega (arith, size_none)
sets_by false sets m h = h

-- the sets of a configuration
pub size_sets : (config : AvcConfig) → size (sets_of config) ≤ 5 * length config.raw
unfolding all_sets sets_in
size_sets config =
    let rest : length (drop 6 config.raw) ≡ length config.raw - 6 = length-drop 6 config.raw in
    let some : size (filter is_filled (some_sets (sets_after (run_of (slice_index config.raw 5 % 32) (drop 6 config.raw))))) ≤ 5 * length (drop 6 config.raw) =
    after (run_of (slice_index config.raw 5 % 32) (drop 6 config.raw)) (length (drop 6 config.raw)) (run_by (slice_index config.raw 5 % 32) (drop 6 config.raw)) in
    sets_by (nat_lt (length config.raw) 6) (sets_after (run_of (slice_index config.raw 5 % 32) (drop 6 config.raw))) (5 * length config.raw) (omega arith)

before_by : (idr : Bool) (sets units : List (List ℕ)) (unit : List ℕ) → size (before_idr sets units) ≤ size sets + size units
    → size (if idr then sets ++ unit ∷ units else unit ∷ before_idr sets units) ≤ size sets + size (unit ∷ units)
before_by true sets units unit h = omega (arith, size_append sets (unit ∷ units))
before_by false sets units unit h = omega (arith, size_one unit units, size_one unit (before_idr sets units))

before : (sets units : List (List ℕ)) → size (before_idr sets units) ≤ size sets + size units
before sets [] = omega (arith, size_none)
before sets (unit ∷ units) = before_by (type_of unit == 5) sets units unit (before sets units)

due : (b : Bool) (sets units : List (List ℕ)) → size (where_due b sets units) ≤ size sets + size units
due true sets units = before sets units
due false sets units = omega arith

-- the sets at their place
pub size_with_sets : (sets units : List (List ℕ)) → size (with_sets sets units) ≤ size sets + size units
unfolding with_sets
size_with_sets sets units = due (not (has_type 7 units)) sets units

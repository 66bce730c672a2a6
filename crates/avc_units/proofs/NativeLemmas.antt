-- Units that were printed behind length fields are read again.
use Rattle.std.proofs.Common.{◌≡◌, ℕ, ◌+◌, ◌<◌, ◌≤◌, Bool, true, List, [], ◌∷◌, ◌++◌, length, take, drop, refl, sym, ap, ◌∙◌, arith, Option, Some, append_assoc, length-append, cond}
use Rattle.std.specs.Prelude.{filter, unwrap_or, nat_lt}
use Rattle.std.specs.Option.{option_map}
use Rattle.rmx_media.specs.Bits.{number_of, bytes_of}
use Rattle.rmx_media.specs.Units.{is_filled, native, size_in, parts_of, units_of, is_valid, AreFilled}
use Rattle.rmx_media.proofs.BitsLemmas.{length-bytes_of, number_of-bytes_of}
use Rattle.avc_units.specs.UnitList.{AreShort}
use Rattle.avc_units.proofs.UnitsLemmas.{parts_none, parts_more, is_short}

take_front : (xs ys : List ℕ) → take (length xs) (xs ++ ys) ≡ xs
take_front [] ys = refl
take_front (x ∷ xs) ys = ap (λ zs. x ∷ zs) (take_front xs ys)

drop_front : (xs ys : List ℕ) → drop (length xs) (xs ++ ys) ≡ ys
drop_front [] ys = refl
drop_front (x ∷ xs) ys = drop_front xs ys

-- a part in front is read
front_back : (width : ℕ) (field unit rest : List ℕ) → 1 ≤ width → length field ≡ width → number_of field ≡ length unit
    → parts_of width ((field ++ unit) ++ rest) ≡ option_map (λ ps. unit ∷ ps) (parts_of width rest)
front_back width field unit rest w l n =
    let bytes : List ℕ = (field ++ unit) ++ rest in
    let long : length bytes ≡ length field + length unit + length rest =
    length-append (field ++ unit) rest ∙ ap (λ k. k + length rest) (length-append field unit) in
    let front : take width bytes ≡ field =
    ap (λ (xs : List ℕ). take width xs) (append_assoc field unit rest)
    ∙ ap (λ k. take k (field ++ (unit ++ rest))) (sym l)
    ∙ take_front field (unit ++ rest) in
    let size : size_in width bytes ≡ length unit = ap number_of front ∙ n in
    let back : drop width bytes ≡ unit ++ rest =
    ap (λ (xs : List ℕ). drop width xs) (append_assoc field unit rest)
    ∙ ap (λ k. drop k (field ++ (unit ++ rest))) (sym l)
    ∙ drop_front field (unit ++ rest) in
    let body : take (size_in width bytes) (drop width bytes) ≡ unit =
    ap (λ k. take k (drop width bytes)) size ∙ ap (take (length unit)) back ∙ take_front unit rest in
    let both : width + size_in width bytes ≡ length (field ++ unit) = omega (arith, size, l, length-append field unit) in
    let left : drop (width + size_in width bytes) bytes ≡ rest =
    ap (λ k. drop k bytes) both ∙ drop_front (field ++ unit) rest in
    parts_more width bytes w (omega (arith, long, l, w)) (omega (arith, long, l, size))
    ∙ ap (λ (u : List ℕ). option_map (λ (ps : List (List ℕ)). u ∷ ps) (parts_of width (drop (width + size_in width bytes) bytes))) body
    ∙ ap (λ (r : List ℕ). option_map (λ (ps : List (List ℕ)). unit ∷ ps) (parts_of width r)) left

pub parts_back : (width : ℕ) (units : List (List ℕ)) → 1 ≤ width → width ≤ 4 → AreShort width units → parts_of width (native width units) ≡ Some units
unfolding native
parts_back width [] w h s = parts_none width
parts_back width (unit ∷ units) w h s =
    front_back width (bytes_of width (length unit)) unit (native width units) w (length-bytes_of width (length unit))
    (number_of-bytes_of width (length unit) w h s.0)
    ∙ ap (λ (p : Option (List (List ℕ))). option_map (λ (ps : List (List ℕ)). unit ∷ ps) p) (parts_back width units w h s.1)

filter_all : (units : List (List ℕ)) → AreFilled units → filter is_filled units ≡ units
filter_all [] h = refl
filter_all (unit ∷ units) h =
    ap (λ (b : Bool). cond b (unit ∷ filter is_filled units) (filter is_filled units)) (is_short 0 (length unit) h.0)
    ∙ ap (λ (us : List (List ℕ)). unit ∷ us) (filter_all units h.1)

pub units_back : (width : ℕ) (units : List (List ℕ)) → 1 ≤ width → width ≤ 4 → AreShort width units → AreFilled units → units_of width (native width units) ≡ units
unfolding units_of
units_back width units w h s f =
    ap (λ (p : Option (List (List ℕ))). filter is_filled (unwrap_or p [])) (parts_back width units w h s) ∙ filter_all units f

-- printed units are a valid payload
pub valid_back : (width : ℕ) (units : List (List ℕ)) → 1 ≤ width → width ≤ 4 → AreShort width units → AreFilled units → 0 < length units
    → is_valid width (native width units) ≡ true
valid_back width units w h s f l =
    ap (λ (us : List (List ℕ)). nat_lt 0 (length us)) (units_back width units w h s f) ∙ is_short 0 (length units) l

-- Lists of slices, and the units that they show.
use Rattle.std.proofs.Common.{◌≡◌, ℕ, zero, suc, ◌+◌, ◌-◌, ◌^◌, ◌<◌, ◌≤◌, Bool, true, false, cond, List, [], ◌∷◌, ◌++◌, length, drop, get_or, refl, sym, ap, ◌∙◌, arith, append_assoc, add-one, drop-cons, eq-eqb, subst}
use Rattle.std.proofs.lemmas.Bool.Decides.{nat_tests}
use Rattle.std.specs.Prelude.{◌==◌, ◌&&◌, filter, not, nat_eq, unwrap_or, if◌then◌else◌}
use denote.Ref.{Bor}
use Rattle.rmx_media.specs.Bits.{bytes_of}
use Rattle.rmx_media.specs.Units.{type_of, is_filled, annexb, native, sized, started, units_of, parts_of}
use Rattle.avc_units.specs.Placed.{behind}
use Rattle.std.specs.Cmp.Lexicographic.{pointwise}
use Rattle.avc_units.proofs.UnitsLemmas.{is_long}
use Rattle.avc_units.specs.UnitList.{shown, has_type, before_idr, where_due, begins, AreShort}

shown_filter_by : (keep : Bool) (x : Bor (List ℕ)) (xs : List (Bor (List ℕ)))
    → shown (cond keep (x ∷ xs) xs) ≡ cond keep (x.now ∷ shown xs) (shown xs)
shown_filter_by true x xs = refl
shown_filter_by false x xs = refl

pub shown_filter : (test : List ℕ → Bool) (xs : List (Bor (List ℕ))) → shown (filter (λ (x : Bor (List ℕ)). test x.now) xs) ≡ filter test (shown xs)
shown_filter test [] = refl
shown_filter test (x ∷ xs) =
    shown_filter_by (test x.now) x (filter (λ (y : Bor (List ℕ)). test y.now) xs)
    ∙ ap (λ (us : List (List ℕ)). cond (test x.now) (x.now ∷ us) us) (shown_filter test xs)

-- what is read past the end
abbrev pub nothing : Bor (List ℕ)
nothing = record { ref_ptr = (0, 0); now = [] }

-- the unit at an index, and those behind it
pub shown_drop : (xs : List (Bor (List ℕ))) (i : ℕ) → i < length xs → shown (drop i xs) ≡ (get_or xs i nothing).now ∷ shown (drop (i + 1) xs)
shown_drop xs i h =
    ap shown (drop-cons xs i nothing h)
    ∙ ap (λ k. (get_or xs i nothing).now ∷ shown (drop k xs)) (sym (add-one i))

pub drop_all : (xs : List (Bor (List ℕ))) (i : ℕ) → length xs ≤ i → shown (drop i xs) ≡ []
drop_all [] zero h = refl
drop_all [] (suc i) h = refl
drop_all (x ∷ xs) zero h = absurd (omega (arith, h))
drop_all (x ∷ xs) (suc i) h = drop_all xs i (omega (arith, h))

pub end : (xs : List (List ℕ)) → xs ++ [] ≡ xs
end [] = refl
end (x ∷ xs) = ap (λ (ys : List (List ℕ)). x ∷ ys) (end xs)

-- one more slice, in front of what is left
pub shown_more : (xs : List (Bor (List ℕ))) (list more : List (List ℕ)) (i : ℕ) → i < length xs → more ≡ list ++ (get_or xs i nothing).now ∷ []
    → more ++ shown (drop (i + 1) xs) ≡ list ++ shown (drop i xs)
shown_more xs list more i h e =
    ap (λ (us : List (List ℕ)). us ++ shown (drop (i + 1) xs)) e
    ∙ append_assoc list ((get_or xs i nothing).now ∷ []) (shown (drop (i + 1) xs))
    ∙ ap (λ (us : List (List ℕ)). list ++ us) (sym (shown_drop xs i h))

pub shown_end : (xs : List (Bor (List ℕ))) (list : List (List ℕ)) (i : ℕ) → length xs ≤ i → list ++ shown (drop i xs) ≡ list
shown_end xs list i h = ap (λ (us : List (List ℕ)). list ++ us) (drop_all xs i h) ∙ end list

-- the first of what a filter keeps
first_by : (filled : Bool) (part unit : List ℕ) (parts units : List (List ℕ)) → is_filled part ≡ filled
    → cond filled (part ∷ filter is_filled parts) (filter is_filled parts) ≡ unit ∷ units
    → (filter is_filled parts ≡ unit ∷ units → 0 < length unit) → 0 < length unit
first_by true part unit parts units e h k =
    let same : part ≡ unit = cc in
    let long : 0 < length part = not_empty part e in
    subst (λ (u : List ℕ). 0 < length u) same long
  where
    not_empty : (part : List ℕ) → is_filled part ≡ true → 0 < length part
    not_empty part e = grind (arith, nat_tests)
first_by false part unit parts units e h k = k h

pub first_filled : (parts : List (List ℕ)) (unit : List ℕ) (units : List (List ℕ)) → filter is_filled parts ≡ unit ∷ units → 0 < length unit
first_filled [] unit units h = cc
first_filled (part ∷ parts) unit units h = first_by (is_filled part) part unit parts units refl h (first_filled parts unit units)

-- the first unit is of the type, or the others may have one
pub has_first : (type : ℕ) (unit : List ℕ) (units all : List (List ℕ)) → all ≡ unit ∷ units → type_of unit ≡ type → has_type type all ≡ true
has_first type unit units all e h =
    ap (has_type type) e ∙ ap (λ (b : Bool). if b then true else has_type type units) (eq-eqb (type_of unit) type h)

pub has_later : (type : ℕ) (unit : List ℕ) (units all : List (List ℕ)) → all ≡ unit ∷ units → (type_of unit ≡ type → ⊥) → has_type type all ≡ has_type type units
has_later type unit units all e h =
    ap (has_type type) e ∙ ap (λ (b : Bool). if b then true else has_type type units) (other (type_of unit) type h)
  where
    other : (m n : ℕ) → (m ≡ n → ⊥) → (m == n) ≡ false
    other m n h = grind (arith, nat_tests)

pub has_none : (type : ℕ) (xs : List (Bor (List ℕ))) (i : ℕ) → length xs ≤ i → has_type type (shown (drop i xs)) ≡ false
has_none type xs i h = ap (has_type type) (drop_all xs i h)

-- sets and units side by side
pub begins_short : (left sets : List (List ℕ)) (set : List ℕ) (xs : List (Bor (List ℕ))) (i : ℕ) → left ≡ set ∷ sets → length xs ≤ i
    → begins left (shown (drop i xs)) ≡ false
begins_short left sets set xs i e h =
    ap (λ (ss : List (List ℕ)). begins ss (shown (drop i xs))) e ∙ ap (begins (set ∷ sets)) (drop_all xs i h)

pub begins_both : (left sets : List (List ℕ)) (set : List ℕ) (xs : List (Bor (List ℕ))) (i : ℕ) → left ≡ set ∷ sets → i < length xs
    → begins left (shown (drop i xs)) ≡ (pointwise nat_eq (get_or xs i nothing).now set && begins sets (shown (drop (i + 1) xs)))
begins_both left sets set xs i e h =
    ap (λ (ss : List (List ℕ)). begins ss (shown (drop i xs))) e ∙ ap (begins (set ∷ sets)) (shown_drop xs i h)

pub begins_other : (same : Bool) (left sets : List (List ℕ)) (set : List ℕ) (xs : List (Bor (List ℕ))) (i : ℕ) → left ≡ set ∷ sets → i < length xs
    → same ≡ not (pointwise nat_eq (get_or xs i nothing).now set) → same ≡ true → begins left (shown (drop i xs)) ≡ false
begins_other same left sets set xs i e h n t =
    begins_both left sets set xs i e h
    ∙ ap (λ (b : Bool). b && begins sets (shown (drop (i + 1) xs))) (unlike (pointwise nat_eq (get_or xs i nothing).now set) (sym n ∙ t))
  where
    unlike : (b : Bool) → not b ≡ true → b ≡ false
    unlike true h = sym h
    unlike false h = refl

pub begins_more : (other : Bool) (left sets : List (List ℕ)) (set : List ℕ) (xs : List (Bor (List ℕ))) (i : ℕ) → left ≡ set ∷ sets → i < length xs
    → other ≡ not (pointwise nat_eq (get_or xs i nothing).now set) → other ≡ false → begins left (shown (drop i xs)) ≡ begins sets (shown (drop (i + 1) xs))
begins_more other left sets set xs i e h n t =
    begins_both left sets set xs i e h
    ∙ ap (λ (b : Bool). b && begins sets (shown (drop (i + 1) xs))) (alike (pointwise nat_eq (get_or xs i nothing).now set) (sym n ∙ t))
  where
    alike : (b : Bool) → not b ≡ false → b ≡ true
    alike true h = refl
    alike false h = sym h

-- printing
pub annexb_more : (xs : List (Bor (List ℕ))) (out code more : List ℕ) (i : ℕ) → i < length xs → code ≡ out ++ (0 ∷ 0 ∷ 0 ∷ 1 ∷ []) → more ≡ code ++ (get_or xs i nothing).now
    → more ++ annexb (shown (drop (i + 1) xs)) ≡ out ++ annexb (shown (drop i xs))
unfolding annexb
annexb_more xs out code more i h c m =
    let unit : List ℕ = (get_or xs i nothing).now in
    let rest : List (List ℕ) = shown (drop (i + 1) xs) in
    ap (λ (b : List ℕ). b ++ annexb rest) (m ∙ ap (λ (b : List ℕ). b ++ unit) c ∙ append_assoc out (0 ∷ 0 ∷ 0 ∷ 1 ∷ []) unit)
    ∙ append_assoc out (started unit) (annexb rest)
    ∙ ap (λ (us : List (List ℕ)). out ++ annexb us) (sym (shown_drop xs i h))

pub native_more : (width : ℕ) (xs : List (Bor (List ℕ))) (out more : List ℕ) (i : ℕ) → i < length xs → more ≡ out ++ sized width (get_or xs i nothing).now
    → more ++ native width (shown (drop (i + 1) xs)) ≡ out ++ native width (shown (drop i xs))
unfolding native
native_more width xs out more i h m =
    let unit : List ℕ = (get_or xs i nothing).now in
    let rest : List (List ℕ) = shown (drop (i + 1) xs) in
    ap (λ (b : List ℕ). b ++ native width rest) m
    ∙ append_assoc out (sized width unit) (native width rest)
    ∙ ap (λ (us : List (List ℕ)). out ++ native width us) (sym (shown_drop xs i h))

all_of : (out : List ℕ) → out ++ [] ≡ out
all_of [] = refl
all_of (x ∷ xs) = ap (λ (ys : List ℕ). x ∷ ys) (all_of xs)

pub annexb_end : (xs : List (Bor (List ℕ))) (out : List ℕ) (i : ℕ) → length xs ≤ i → out ++ annexb (shown (drop i xs)) ≡ out
unfolding annexb
annexb_end xs out i h = ap (λ (us : List (List ℕ)). out ++ annexb us) (drop_all xs i h) ∙ all_of out

pub native_end : (width : ℕ) (xs : List (Bor (List ℕ))) (out : List ℕ) (i : ℕ) → length xs ≤ i → out ++ native width (shown (drop i xs)) ≡ out
unfolding native
native_end width xs out i h = ap (λ (us : List (List ℕ)). out ++ native width us) (drop_all xs i h) ∙ all_of out

-- the first unit that is left is short, and so are the others
pub short_first : (width : ℕ) (xs : List (Bor (List ℕ))) (i : ℕ) → i < length xs → AreShort width (shown (drop i xs))
    → AreShort width ((get_or xs i nothing).now ∷ shown (drop (i + 1) xs))
short_first width xs i h s = subst (λ (us : List (List ℕ)). AreShort width us) (shown_drop xs i h) s

-- of a field of four bytes, as many as a length field has
pub field_tail : (width size : ℕ) → 1 ≤ width → width ≤ 4 → drop (4 - width) (bytes_of 4 size) ≡ bytes_of width size
field_tail zero size l h = absurd (omega (arith, l))
field_tail (suc zero) size l h = refl
field_tail (suc (suc zero)) size l h = refl
field_tail (suc (suc (suc zero))) size l h = refl
field_tail (suc (suc (suc (suc zero)))) size l h = refl
field_tail (suc (suc (suc (suc (suc width))))) size l h = absurd (omega (arith, h))

pub field_fits : (width size : ℕ) → 1 ≤ width → width ≤ 4 → size < 256 ^ width → size < 4294967296
field_fits zero size l h f = absurd (omega (arith, l))
field_fits (suc zero) size l h f = let g : size < 256 = f in omega arith
field_fits (suc (suc zero)) size l h f = let g : size < 65536 = f in omega arith
field_fits (suc (suc (suc zero))) size l h f = let g : size < 16777216 = f in omega arith
field_fits (suc (suc (suc (suc zero)))) size l h f = f
field_fits (suc (suc (suc (suc (suc width))))) size l h f = absurd (omega (arith, h))

-- the sets at their place
pub due_begin : (there : Bool) (sets units : List (List ℕ))
    → (if not there then where_due true sets units else behind sets [] units) ≡ where_due (not there) sets units
due_begin true sets units = refl
due_begin false sets units = refl

-- the first unit of a payload has a byte
pub unit_filled : (width : ℕ) (bytes unit : List ℕ) (units : List (List ℕ)) → units_of width bytes ≡ unit ∷ units → 0 < length unit
unfolding units_of
unit_filled width bytes unit units h = first_filled (unwrap_or (parts_of width bytes) []) unit units h

-- a unit that is given as it is
pub skip_given : (due : Bool) (held unit : List ℕ) (sets before after : List (List ℕ)) → length held ≤ 0 → before ≡ unit ∷ after → due ≡ false
    → (if due then where_due true sets before else behind sets held before) ≡ unit ∷ (if due then where_due true sets after else behind sets held after)
skip_given true held unit sets before after h e d = cc
skip_given false held unit sets before after h e d =
    ap (λ (b : Bool). if b then sets ++ held ∷ before else before) (is_long 0 (length held) h)
    ∙ e
    ∙ ap (λ (b : Bool). unit ∷ (if b then sets ++ held ∷ after else after)) (sym (is_long 0 (length held) h))

pub skip_other : (due : Bool) (held unit : List ℕ) (sets before after : List (List ℕ)) → before ≡ unit ∷ after → due ≡ true → (type_of unit ≡ 5 → ⊥)
    → (if due then where_due true sets before else behind sets held before) ≡ unit ∷ (if due then where_due true sets after else behind sets held after)
skip_other false held unit sets before after e d t = cc
skip_other true held unit sets before after e d t =
    ap (before_idr sets) e ∙ ap (λ (b : Bool). if b then sets ++ unit ∷ after else unit ∷ before_idr sets after) (other (type_of unit) t)
  where
    other : (m : ℕ) → (m ≡ 5 → ⊥) → (m == 5) ≡ false
    other m h = grind (arith, nat_tests)

-- The tags of a longer text begin with those of a shorter one.
use Rattle.std.proofs.Common.{◌≡◌, ℕ, ◌+◌, ◌<◌, ◌≤◌, Bool, true, false, List, [], ◌∷◌, ◌++◌, length, take, drop, zero, suc, arith, ap, ◌∙◌, sym, refl, length-append, nat_lt, Some}
use Rattle.std.specs.Prelude.{◌&&◌, if◌then◌else◌}
use Rattle.std.specs.Str.{bytes_eq}
use Rattle.std.proofs.lemmas.List.{take-append-le, drop-append-le}
use Rattle.std.proofs.lemmas.Bool.{ltb-false, le-ltb, ltb-true, lt-ltb}
use Rattle.rmx_media.specs.Bits.{number_of}
use Rattle.flv_tags.specs.declared.tag.Tag.{Tag}
use Rattle.flv_tags.specs.declared.tag.TagFault.TheVariants.{NotFlv, BadOffset, CutTag}
use Rattle.flv_tags.specs.Front.{Front, Nothing, Part, One, front_of}
use Rattle.flv_tags.specs.Tags.{Reading, reading_by, reading_of_tags, reading_of, is_flv, offset_of}
use Rattle.flv_tags.proofs.Walk.{reading_of_tags-step, front_shorter}
use Rattle.flv_tags.proofs.More.{front_of_more, window}

by_front : (n : ℕ) (text more : List ℕ) (f : Front) → length text < suc n → front_of text ≡ f →
    ((r : List ℕ) → length r < n → (rest : List Tag) × ((reading_of_tags (r ++ more)).tags ≡ (reading_of_tags r).tags ++ rest)) →
    (rest : List Tag) × ((reading_of_tags (text ++ more)).tags ≡ (reading_by f reading_of_tags).tags ++ rest)
by_front n text more Nothing h e ih = ((reading_of_tags (text ++ more)).tags, refl)
by_front n text more Part h e ih = ((reading_of_tags (text ++ more)).tags, refl)
by_front n text more (One tag r) h e ih =
    let s : length r < length text = front_shorter text tag r e in
    let k = ih r (omega arith) in
    (k.0, ap (λ (x : Reading). x.tags) (reading_of_tags-step (text ++ more)) ∙ ap (λ (g : Front). (reading_by g reading_of_tags).tags) (front_of_more text more tag r e) ∙ ap (λ (ts : List Tag). tag ∷ ts) k.1)

grow : (n : ℕ) (text more : List ℕ) → length text < n → (rest : List Tag) × ((reading_of_tags (text ++ more)).tags ≡ (reading_of_tags text).tags ++ rest)
grow zero text more h = absurd (omega arith)
grow (suc n) text more h =
    let k = by_front n text more (front_of text) h refl (λ r l. grow n r more l) in
    (k.0, k.1 ∙ ap (λ (x : Reading). x.tags ++ k.0) (sym (reading_of_tags-step text)))

pub tags_grow_tags : (text more : List ℕ) → (rest : List Tag) × ((reading_of_tags (text ++ more)).tags ≡ (reading_of_tags text).tags ++ rest)
tags_grow_tags text more = grow (suc (length text)) text more (omega arith)

-- a text that reads no tag
nothing_yet : (a b : List Tag) → a ≡ [] → (rest : List Tag) × (b ≡ a ++ rest)
nothing_yet a b e = (b, ap (λ (x : List Tag). x ++ b) (sym e))

head_more : (text more : List ℕ) → is_flv text ≡ true → (is_flv (text ++ more) ≡ true) × (offset_of (text ++ more) ≡ offset_of text) × (8 < length text)
head_more text more e = head (nat_lt 8 (length text)) (bytes_eq (take 4 text) (70 ∷ 76 ∷ 86 ∷ 1 ∷ [])) refl refl e
  where
    head : (l q : Bool) → nat_lt 8 (length text) ≡ l → bytes_eq (take 4 text) (70 ∷ 76 ∷ 86 ∷ 1 ∷ []) ≡ q → (l && q) ≡ true → (is_flv (text ++ more) ≡ true) × (offset_of (text ++ more) ≡ offset_of text) × (8 < length text)
    head true true el eq e =
        let long : 8 < length text = ltb-true 8 (length text) el in
        let len : length (text ++ more) ≡ length text + length more = length-append text more in
        let a : nat_lt 8 (length (text ++ more)) ≡ true = lt-ltb 8 (length (text ++ more)) (omega arith) in
        (rw (a, take-append-le 4 text more (omega arith), eq) refl, ap number_of (window 5 4 text more (omega arith)), long)
    head true false el eq e = absurd (no e)
      where
        no : false ≡ true → ⊥
        no h = cc
    head false q el eq e = absurd (no e)
      where
        no : false ≡ true → ⊥
        no h = cc

-- the tags of a text by its head
by_tests : (f o l : Bool) (text : List ℕ) → List Tag
by_tests f o l text = (if f then (if o then record { tags = []; verdict = Some BadOffset } else if l then record { tags = []; verdict = Some CutTag } else reading_of_tags (drop (offset_of text) text)) else record { tags = []; verdict = Some NotFlv }).tags

tests : (text : List ℕ) (f o l : Bool) → is_flv text ≡ f → nat_lt (offset_of text) 9 ≡ o → nat_lt (length text) (offset_of text) ≡ l → (reading_of text).tags ≡ by_tests f o l text
unfolding by_tests
tests text f o l ef eo el =
    ap (λ (b : Bool). by_tests b (nat_lt (offset_of text) 9) (nat_lt (length text) (offset_of text)) text) ef
    ∙ ap (λ (b : Bool). by_tests f b (nat_lt (length text) (offset_of text)) text) eo
    ∙ ap (λ (b : Bool). by_tests f o b text) el

no_flv : (text : List ℕ) → is_flv text ≡ false → (reading_of text).tags ≡ []
unfolding by_tests
no_flv text e = tests text false _ _ e refl refl

low : (text : List ℕ) → is_flv text ≡ true → nat_lt (offset_of text) 9 ≡ true → (reading_of text).tags ≡ []
unfolding by_tests
low text e o = tests text true true _ e o refl

short : (text : List ℕ) → is_flv text ≡ true → nat_lt (offset_of text) 9 ≡ false → nat_lt (length text) (offset_of text) ≡ true → (reading_of text).tags ≡ []
unfolding by_tests
short text e o l = tests text true false true e o l

past : (text : List ℕ) → is_flv text ≡ true → nat_lt (offset_of text) 9 ≡ false → nat_lt (length text) (offset_of text) ≡ false → (reading_of text).tags ≡ (reading_of_tags (drop (offset_of text) text)).tags
unfolding by_tests
past text e o l = tests text true false false e o l

-- the tags of a prefix come first
pub tags_grow : (text more : List ℕ) → (rest : List Tag) × ((reading_of (text ++ more)).tags ≡ (reading_of text).tags ++ rest)
tags_grow text more = cases (is_flv text) (nat_lt (offset_of text) 9) (nat_lt (length text) (offset_of text)) refl refl refl
  where
    cases : (f o l : Bool) → is_flv text ≡ f → nat_lt (offset_of text) 9 ≡ o → nat_lt (length text) (offset_of text) ≡ l → (rest : List Tag) × ((reading_of (text ++ more)).tags ≡ (reading_of text).tags ++ rest)
    cases false o l ef eo el = nothing_yet (reading_of text).tags (reading_of (text ++ more)).tags (no_flv text ef)
    cases true true l ef eo el = nothing_yet (reading_of text).tags (reading_of (text ++ more)).tags (low text ef eo)
    cases true false true ef eo el = nothing_yet (reading_of text).tags (reading_of (text ++ more)).tags (short text ef eo el)
    cases true false false ef eo el =
        let h = head_more text more ef in
        let off : offset_of text ≤ length text = ltb-false (length text) (offset_of text) el in
        let len : length (text ++ more) ≡ length text + length more = length-append text more in
        let o' : nat_lt (offset_of (text ++ more)) 9 ≡ false = ap (λ (n : ℕ). nat_lt n 9) h.1 ∙ eo in
        let l' : nat_lt (length (text ++ more)) (offset_of (text ++ more)) ≡ false = ap (λ (n : ℕ). nat_lt (length (text ++ more)) n) h.1 ∙ le-ltb (length (text ++ more)) (offset_of text) (omega arith) in
        let k = tags_grow_tags (drop (offset_of text) text) more in
        (k.0, past (text ++ more) h.0 o' l' ∙ ap (λ (n : ℕ). (reading_of_tags (drop n (text ++ more))).tags) h.1 ∙ ap (λ (t : List ℕ). (reading_of_tags t).tags) (drop-append-le (offset_of text) text more off) ∙ k.1 ∙ ap (λ (ts : List Tag). ts ++ k.0) (sym (past text ef eo el)))

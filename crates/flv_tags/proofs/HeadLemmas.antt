-- The head of a text, with more behind it.
use Rattle.std.proofs.Common.{◌≡◌, ℕ, ◌+◌, ◌-◌, ◌<◌, ◌≤◌, Bool, true, false, ◌&&◌, List, [], ◌∷◌, ◌++◌, length, take, drop, arith, ap, ◌∙◌, sym, refl, Some, length-append, length-drop, nat_lt}
use Rattle.std.specs.Prelude.{if◌then◌else◌}
use Rattle.std.proofs.lemmas.Bool.{le-ltb, lt-ltb, ltb-true, ltb-false}
use Rattle.std.proofs.lemmas.List.{drop-drop}
use Rattle.std.specs.Str.{bytes_eq}
use Rattle.rmx_media.specs.Bits.{number_of}
use Rattle.flv_tags.specs.declared.tag.TagFault.TheVariants.{NotFlv, BadOffset, CutTag}
use Rattle.flv_tags.specs.Tags.{Reading, only, is_flv, offset_of, reading_of, reading_of_tags, reading_past}
use Rattle.flv_tags.proofs.More.{window}

both : (a b : Bool) → (a && b) ≡ true → a ≡ true
both true b e = refl
both false b e = cc

pub flv_is_long : (text : List ℕ) → is_flv text ≡ true → 9 ≤ length text
flv_is_long text e = let h : 8 < length text = ltb-true 8 (length text) (both (nat_lt 8 (length text)) (bytes_eq (take 4 text) (70 ∷ 76 ∷ 86 ∷ 1 ∷ [])) e) in omega arith

pub is_flv_more : (text more : List ℕ) → 9 ≤ length text → is_flv (text ++ more) ≡ is_flv text
is_flv_more text more h =
    let a : nat_lt 8 (length text) ≡ true = lt-ltb 8 (length text) (omega arith) in
    let b : nat_lt 8 (length (text ++ more)) ≡ true = lt-ltb 8 (length (text ++ more)) (omega (arith, length-append text more)) in
    rw (a, b, window 0 4 text more (omega arith)) refl

pub short_is_no_flv : (text : List ℕ) → length text < 9 → is_flv text ≡ false
short_is_no_flv text h = let a : nat_lt 8 (length text) ≡ false = le-ltb 8 (length text) (omega arith) in rw a refl

pub offset_of_more : (text more : List ℕ) → 9 ≤ length text → offset_of (text ++ more) ≡ offset_of text
offset_of_more text more h = ap number_of (window 5 4 text more (omega arith))

pub reading_not_flv : (text : List ℕ) → is_flv text ≡ false → reading_of text ≡ only (Some NotFlv)
reading_not_flv text e = rw e refl

pub reading_not_flv_more : (text more : List ℕ) → is_flv text ≡ false → 9 ≤ length text → reading_of (text ++ more) ≡ only (Some NotFlv)
reading_not_flv_more text more e h = reading_not_flv (text ++ more) (is_flv_more text more h ∙ e)

pub reading_bad_offset : (text : List ℕ) → is_flv text ≡ true → offset_of text < 9 → reading_of text ≡ only (Some BadOffset)
reading_bad_offset text e h = let a : nat_lt (offset_of text) 9 ≡ true = lt-ltb (offset_of text) 9 h in rw (e, a) refl

pub reading_bad_offset_more : (text more : List ℕ) → is_flv text ≡ true → offset_of text < 9 → reading_of (text ++ more) ≡ only (Some BadOffset)
reading_bad_offset_more text more e h =
    let l : 9 ≤ length text = flv_is_long text e in
    let o : offset_of (text ++ more) ≡ offset_of text = offset_of_more text more l in
    reading_bad_offset (text ++ more) (is_flv_more text more l ∙ e) (omega arith)

by_tests : (f o : Bool) → Reading → Reading
by_tests f o later = if f then (if o then only (Some BadOffset) else later) else only (Some NotFlv)

reading_tests : (text : List ℕ) (f o : Bool) → is_flv text ≡ f → nat_lt (offset_of text) 9 ≡ o → reading_of text ≡ by_tests f o (reading_past (offset_of text) text)
unfolding by_tests
reading_tests text f o e h =
    ap (λ (b : Bool). by_tests b (nat_lt (offset_of text) 9) (reading_past (offset_of text) text)) e
    ∙ ap (λ (b : Bool). by_tests f b (reading_past (offset_of text) text)) h

pub reading_at_offset : (text : List ℕ) → is_flv text ≡ true → 9 ≤ offset_of text → reading_of text ≡ reading_past (offset_of text) text
unfolding by_tests
reading_at_offset text e h = reading_tests text true false e (le-ltb (offset_of text) 9 h)

-- what is behind the head doesn't change where it ends
pub reading_past_more : (text more : List ℕ) → is_flv text ≡ true → 9 ≤ offset_of text → reading_of (text ++ more) ≡ reading_past (offset_of text) (text ++ more)
reading_past_more text more e h =
    let l : 9 ≤ length text = flv_is_long text e in
    let o : offset_of (text ++ more) ≡ offset_of text = offset_of_more text more l in
    reading_at_offset (text ++ more) (is_flv_more text more l ∙ e) (omega arith) ∙ ap (λ (n : ℕ). reading_past n (text ++ more)) o

past_by : Bool → Reading → Reading
past_by b later = if b then only (Some CutTag) else later

pub past_short : (offset : ℕ) (text : List ℕ) → length text < offset → reading_past offset text ≡ only (Some CutTag)
unfolding past_by
past_short offset text h = ap (λ (b : Bool). past_by b (reading_of_tags (drop offset text))) (lt-ltb (length text) offset h)

pub past_long : (offset : ℕ) (text : List ℕ) → offset ≤ length text → reading_past offset text ≡ reading_of_tags (drop offset text)
unfolding past_by
past_long offset text h = ap (λ (b : Bool). past_by b (reading_of_tags (drop offset text))) (le-ltb (length text) offset h)

-- a part of what stands before the offset is dropped
pub past_dropped : (k offset : ℕ) (text : List ℕ) → k ≤ offset → k ≤ length text → reading_past (offset - k) (drop k text) ≡ reading_past offset text
unfolding past_by
past_dropped k offset text h l = by_length (nat_lt (length text) offset) refl
  where
    by_length : (b : Bool) → nat_lt (length text) offset ≡ b → reading_past (offset - k) (drop k text) ≡ reading_past offset text
    by_length true e =
        let n : length text < offset = ltb-true (length text) offset e in
        past_short (offset - k) (drop k text) (omega (arith, length-drop k text)) ∙ sym (past_short offset text n)
    by_length false e =
        let n : offset ≤ length text = ltb-false (length text) offset e in
        let m : k + (offset - k) ≡ offset = omega arith in
        past_long (offset - k) (drop k text) (omega (arith, length-drop k text))
        ∙ ap reading_of_tags (drop-drop (offset - k) k text ∙ ap (λ (i : ℕ). drop i text) m)
        ∙ sym (past_long offset text n)

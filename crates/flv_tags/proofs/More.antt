-- What is whole at the front of a text stays so when more comes behind.
use Rattle.std.proofs.Common.{◌≡◌, ℕ, ◌+◌, ◌≤◌, Bool, true, false, ◌||◌, List, ◌++◌, length, take, drop, arith, ap, ◌∙◌, refl, length-drop, length-append, nat_lt}
use Rattle.std.specs.Prelude.{if◌then◌else◌, ◌==◌}
use Rattle.std.proofs.lemmas.Bool.{ltb-false, le-ltb}
use Rattle.std.proofs.lemmas.List.{take-append-le, drop-append-le, get_or_append_left}
use Rattle.rmx_media.specs.Bits.{number_of}
use Rattle.flv_tags.specs.declared.tag.Tag.{Tag}
use Rattle.flv_tags.specs.Front.{Front, Nothing, Part, One, front_of, front_of_tags, body_size, stamp_number, tag_by, tag_of}
use Rattle.flv_tags.proofs.Walk.{past_nothing, past_part}

pub window : (i n : ℕ) (text more : List ℕ) → i + n ≤ length text → take n (drop i (text ++ more)) ≡ take n (drop i text)
window i n text more h =
    let a : i ≤ length text = omega arith in
    let b : n ≤ length (drop i text) = omega (arith, length-drop i text) in
    ap (take n) (drop-append-le i text more a) ∙ take-append-le n (drop i text) more b

pub body_size_more : (text more : List ℕ) → 4 ≤ length text → body_size (text ++ more) ≡ body_size text
body_size_more text more h = ap number_of (window 1 3 text more (omega arith))

pub stamp_more : (text more : List ℕ) → 8 ≤ length text → stamp_number (text ++ more) ≡ stamp_number text
stamp_more text more h = rw (window 7 1 text more (omega arith), window 4 3 text more (omega arith)) refl

with_more : Front → List ℕ → Front
with_more Nothing more = Nothing
with_more Part more = Part
with_more (One tag rest) more = One tag (rest ++ more)

tag_by_same : (a b s t : ℕ) (x y : List ℕ) → a ≡ b → s ≡ t → x ≡ y → tag_by a s x ≡ tag_by b t y
tag_by_same a b s t x y p q r = rw (p, q, r) refl

pub tag_of_more : (text more : List ℕ) → 11 ≤ length text → 11 + body_size text ≤ length text → tag_of (text ++ more) ≡ tag_of text
tag_of_more text more h k =
    tag_by_same _ _ _ _ _ _
    (get_or_append_left text more 0 0 (omega arith))
    (stamp_more text more (omega arith))
    (ap (λ (n : ℕ). take n (drop 11 (text ++ more))) (body_size_more text more (omega arith)) ∙ window 11 (body_size text) text more k)

one_same : (a b : Tag) (x y : List ℕ) → a ≡ b → x ≡ y → One a x ≡ One b y
one_same a b x y p q = rw (p, q) refl

one_more : (a b : Tag) (x y more : List ℕ) → One a x ≡ One b y → One a (x ++ more) ≡ One b (y ++ more)
unfolding with_more
one_more a b x y more e = ap (λ (f : Front). with_more f more) e

or_false : (a b : Bool) → (a || b) ≡ false → (a ≡ false) × (b ≡ false)
or_false true b e = cc
or_false false b e = (refl, e)

pub front_one : (text : List ℕ) → 11 ≤ length text → 11 + body_size text ≤ length text → front_of_tags text ≡ One (tag_of text) (drop (11 + body_size text) text)
front_one text h k =
    let a : (length text == 0) ≡ false = grind arith in
    let b : nat_lt (length text) 11 ≡ false = le-ltb (length text) 11 h in
    let d : nat_lt (length text) (11 + body_size text) ≡ false = le-ltb (length text) (11 + body_size text) k in
    rw (a, b, d) refl

pub front_of_tags_more : (text more : List ℕ) (tag : Tag) (rest : List ℕ) → front_of_tags text ≡ One tag rest → front_of_tags (text ++ more) ≡ One tag (rest ++ more)
front_of_tags_more text more tag rest e =
    let p = past_nothing (length text == 0) (if nat_lt (length text) 11 || nat_lt (length text) (11 + body_size text) then Part else One (tag_of text) (drop (11 + body_size text) text)) tag rest e in
    let q = past_part (nat_lt (length text) 11 || nat_lt (length text) (11 + body_size text)) (One (tag_of text) (drop (11 + body_size text) text)) tag rest p.1 in
    let f = or_false (nat_lt (length text) 11) (nat_lt (length text) (11 + body_size text)) q.0 in
    let h : 11 ≤ length text = ltb-false (length text) 11 f.0 in
    let k : 11 + body_size text ≤ length text = ltb-false (length text) (11 + body_size text) f.1 in
    let s : body_size (text ++ more) ≡ body_size text = body_size_more text more (omega arith) in
    let longer : length (text ++ more) ≡ length text + length more = length-append text more in
    let h' : 11 ≤ length (text ++ more) = omega arith in
    let k' : 11 + body_size (text ++ more) ≤ length (text ++ more) = omega arith in
    let t : One (tag_of (text ++ more)) (drop (11 + body_size (text ++ more)) (text ++ more)) ≡ One (tag_of text) (drop (11 + body_size text) text ++ more) =
    one_same _ _ _ _ (tag_of_more text more h k) (ap (λ (n : ℕ). drop (11 + n) (text ++ more)) s ∙ drop-append-le (11 + body_size text) text more k) in
    front_one (text ++ more) h' k' ∙ t ∙ one_more _ _ _ _ more q.1

pub front_of_more : (text more : List ℕ) (tag : Tag) (rest : List ℕ) → front_of text ≡ One tag rest → front_of (text ++ more) ≡ One tag (rest ++ more)
front_of_more text more tag rest e =
    let p = past_nothing (length text == 0) (if nat_lt (length text) 4 then Part else front_of_tags (drop 4 text)) tag rest e in
    let q = past_part (nat_lt (length text) 4) (front_of_tags (drop 4 text)) tag rest p.1 in
    let h : 4 ≤ length text = ltb-false (length text) 4 q.0 in
    let longer : length (text ++ more) ≡ length text + length more = length-append text more in
    let a : (length (text ++ more) == 0) ≡ false = grind arith in
    let b : nat_lt (length (text ++ more)) 4 ≡ false = le-ltb (length (text ++ more)) 4 (omega arith) in
    rw (a, b) (ap front_of_tags (drop-append-le 4 text more h) ∙ front_of_tags_more (drop 4 text) more tag rest q.1)

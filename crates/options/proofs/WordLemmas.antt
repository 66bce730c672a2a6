-- One option that was read, and the words behind it.
use Rattle.std.proofs.Common.{◌≡◌, ◌+◌, ℕ, List, [], ◌∷◌, length, Bool, false, cond, Option, Some, None, Ok, Err, sym, ◌∙◌, ap, subst, map, string_bytes, String, Global}
use Rattle.options.specs.declared.fault.WordKind.TheVariants.{UnknownWord}
use Rattle.std.proofs.lemmas.List.{length-map}
use Rattle.options.specs.declared.words.WordOption.{WordOption}
use Rattle.options.specs.Words.{Sayings, Placed, Planned, and_then, with_value, word_option_named, word_before, last_word, other_word, begins_with_dash, target, words_from}

pub option_step : (at : ℕ) (s t : Sayings) (word value : List ℕ) (words : List (List ℕ)) (o : WordOption) → word_option_named word ≡ Some o → with_value o at value s ≡ Ok t → words_from (at + 2) t words ≡ words_from at s (word ∷ value ∷ words)
unfolding words_from
option_step at s t word value words o a b =
    sym (ap (λ (x : Option WordOption). word_before x at (length (value ∷ words)) word value s (λ t. words_from (at + 2) t words)) a
    ∙ ap (λ (r : Placed Sayings). and_then r (λ t. words_from (at + 2) t words)) b)

pub option_preserved : (at : ℕ) (s t : Sayings) (o : WordOption) (rest behind behind2 : List (String Global)) (w v : String Global) (word value : List ℕ) (whole : Placed Planned) →
    rest ≡ w ∷ behind → behind ≡ v ∷ behind2 → word ≡ string_bytes w → value ≡ string_bytes v → Some o ≡ word_option_named word → with_value o at value s ≡ Ok t →
    words_from at s (map string_bytes rest) ≡ whole → words_from (at + 2) t (map string_bytes behind2) ≡ whole
option_preserved at s t o rest behind behind2 w v word value whole e f d d2 n b h =
    option_step at s t (string_bytes w) (string_bytes v) (map string_bytes behind2) o
    (ap word_option_named (sym d) ∙ sym n)
    (subst (λ (x : List ℕ). with_value o at x s ≡ Ok t) d2 b)
    ∙ ap (λ (ws : List (String Global)). words_from at s (map string_bytes ws)) (sym (e ∙ ap (λ (b : List (String Global)). w ∷ b) f)) ∙ h

other : (at : ℕ) (s : Sayings) (word : List ℕ) (behind : List (List ℕ)) → word_option_named word ≡ None → words_from at s (word ∷ behind) ≡ other_word at (length behind) word s
unfolding words_from
other at s word [] e = ap (λ (o : Option WordOption). last_word o at word s) e
other at s word (value ∷ words) e = ap (λ (o : Option WordOption). word_before o at (length (value ∷ words)) word value s (λ t. words_from (at + 2) t words)) e

-- the words behind the options
pub target_step : (at left : ℕ) (s : Sayings) (rest behind : List (String Global)) (w : String Global) (word1 word2 word3 : List ℕ) (dash : Bool) →
    rest ≡ w ∷ behind → word1 ≡ string_bytes w → word2 ≡ string_bytes w → word3 ≡ string_bytes w → None ≡ word_option_named word1 → dash ≡ begins_with_dash word2 → dash ≡ false → left ≡ length behind →
    words_from at s (map string_bytes rest) ≡ target at left word3 s
target_step at left s rest behind w word1 word2 word3 dash e d1 d2 d3 n b f l =
    let word : List ℕ = string_bytes w in
    let more : List (List ℕ) = map string_bytes behind in
    let plain : begins_with_dash word ≡ false = ap begins_with_dash (sym d2) ∙ sym b ∙ f in
    let count : length more ≡ left = length-map behind string_bytes ∙ sym l in
    ap (λ (ws : List (String Global)). words_from at s (map string_bytes ws)) e
    ∙ other at s word more (ap word_option_named (sym d1) ∙ sym n)
    ∙ ap (λ (c : Bool). cond c (Err (UnknownWord, at)) (target at (length more) word s)) plain
    ∙ ap (λ (k : ℕ). target at k word s) count
    ∙ ap (λ (t : List ℕ). target at left t s) (sym d3)

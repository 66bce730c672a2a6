-- The generated text from a place on.
use Rattle.std.proofs.Common.{◌≡◌, ◌≤◌, ◌<◌, ℕ, zero, suc, ◌+◌, ◌-◌, ◌*◌, nat_lt, Bool, false, List, [], ◌∷◌, ◌++◌, arith, refl, ap, ◌∙◌, append_assoc}
use Rattle.std.specs.Prelude.{◌&&◌, not, filter, flat_map, if◌then◌else◌}
use Rattle.std.specs.List.{range_with_len}
use Rattle.std.proofs.lemmas.Bool.{lt-ltb, le-ltb}
use Rattle.remux.specs.Generated.{generated, head_text, picture_text, sound_text, shown_text, sounds_with}
use Rattle.remux.specs.Making.{before, rest_from}

-- no number of a range passes
none_pass : (p : ℕ → Bool) (a n : ℕ) → ((x : ℕ) → a ≤ x → p x ≡ false) → filter p (range_with_len a n) ≡ []
none_pass p a zero h = refl
none_pass p a (suc n) h =
    ap (λ (b : Bool). if b then a ∷ filter p (range_with_len (a + 1) n) else filter p (range_with_len (a + 1) n)) (h a (omega arith))
    ∙ none_pass p (a + 1) n (λ x l. h x (omega (arith, l)))

-- the first numbers of a range don't pass
first_fail : (p : ℕ → Bool) (a k n m : ℕ) → m ≡ k + n → ((x : ℕ) → x < a + k → p x ≡ false) → filter p (range_with_len a m) ≡ filter p (range_with_len (a + k) n)
first_fail p a zero n m e h =
    ap (λ (b : ℕ). filter p (range_with_len a b)) (omega (arith, e)) ∙ ap (λ (b : ℕ). filter p (range_with_len b n)) (omega arith)
first_fail p a (suc k) n zero e h = absurd (omega (arith, e))
first_fail p a (suc k) n (suc m) e h =
    ap (λ (b : Bool). if b then a ∷ filter p (range_with_len (a + 1) m) else filter p (range_with_len (a + 1) m)) (h a (omega arith))
    ∙ first_fail p (a + 1) k n m (omega (arith, e)) (λ x l. h x (omega (arith, l)))
    ∙ ap (λ (b : ℕ). filter p (range_with_len b n)) (omega arith)

-- two tests agree from a number on
agreeing : (p q : ℕ → Bool) (a n : ℕ) → ((x : ℕ) → a ≤ x → p x ≡ q x) → filter p (range_with_len a n) ≡ filter q (range_with_len a n)
agreeing p q a zero h = refl
agreeing p q a (suc n) h =
    ap (λ (b : Bool). if b then a ∷ filter p (range_with_len (a + 1) n) else filter p (range_with_len (a + 1) n)) (h a (omega arith))
    ∙ ap (λ (l : List ℕ). if q a then a ∷ l else l) (agreeing p q (a + 1) n (λ x l. h x (omega (arith, l))))

sound_first : (j m k : ℕ) → 23 * m < 40 * j → 2 * j - m ≡ suc k → before j m ≡ m ∷ before j (m + 1)
sound_first j m k l e =
    ap (λ (n : ℕ). filter (λ x. nat_lt (23 * x) (40 * j)) (range_with_len m n)) e
    ∙ ap (λ (b : Bool). if b then m ∷ filter (λ x. nat_lt (23 * x) (40 * j)) (range_with_len (m + 1) k) else filter (λ x. nat_lt (23 * x) (40 * j)) (range_with_len (m + 1) k)) (lt-ltb (23 * m) (40 * j) l)
    ∙ ap (λ (n : ℕ). m ∷ filter (λ x. nat_lt (23 * x) (40 * j)) (range_with_len (m + 1) n)) (omega (arith, e))

pub sound_next : (count j m : ℕ) → 23 * m < 40 * j → rest_from count j m ≡ sound_text m ++ rest_from count j (m + 1)
sound_next count j m l =
    ap (λ (ms : List ℕ). flat_map sound_text ms ++ flat_map shown_text (range_with_len j (count - j))) (sound_first j m (2 * j - m - 1) l (omega (arith, l)))
    ∙ append_assoc (sound_text m) (flat_map sound_text (before j (m + 1))) (flat_map shown_text (range_with_len j (count - j)))

nothing_before : (j m : ℕ) → 40 * j ≤ 23 * m → before j m ≡ []
nothing_before j m l = none_pass (λ x. nat_lt (23 * x) (40 * j)) m (2 * j - m) (λ x h. le-ltb (23 * x) (40 * j) (omega (arith, l, h)))

abbrev within : ℕ → ℕ → Bool
within j x = not (nat_lt (23 * x) (40 * j)) && nat_lt (23 * x) (40 * (j + 1))

is_within : (j m x : ℕ) → 40 * j ≤ 23 * m → m ≤ x → within j x ≡ nat_lt (23 * x) (40 * (j + 1))
is_within j m x l h = ap (λ (b : Bool). not b && nat_lt (23 * x) (40 * (j + 1))) (le-ltb (23 * x) (40 * j) (omega (arith, l, h)))

too_early : (j m x : ℕ) → 23 * m < 40 * j + 23 → x < 0 + m → within j x ≡ false
too_early j m x l h = ap (λ (b : Bool). not b && nat_lt (23 * x) (40 * (j + 1))) (lt-ltb (23 * x) (40 * j) (omega (arith, l, h)))

sounds_are : (j m : ℕ) → 40 * j ≤ 23 * m → 23 * m < 40 * j + 23 → sounds_with j ≡ before (j + 1) m
sounds_are j m l h =
    first_fail (within j) 0 m (2 * (j + 1) - m) (2 * (j + 1)) (omega (arith, l, h)) (λ x. too_early j m x h)
    ∙ ap (λ (a : ℕ). filter (within j) (range_with_len a (2 * (j + 1) - m))) (omega arith)
    ∙ agreeing (within j) (λ x. nat_lt (23 * x) (40 * (j + 1))) m (2 * (j + 1) - m) (λ x. is_within j m x l)

pub picture_next : (count j m : ℕ) → j < count → 40 * j ≤ 23 * m → 23 * m < 40 * j + 23 → rest_from count j m ≡ picture_text j ++ rest_from count (j + 1) m
picture_next count j m n l h =
    let one : count - j ≡ suc (count - (j + 1)) = omega (arith, n) in
    ap (λ (ms : List ℕ). flat_map sound_text ms ++ flat_map shown_text (range_with_len j (count - j))) (nothing_before j m l)
    ∙ ap (λ (k : ℕ). flat_map shown_text (range_with_len j k)) one
    ∙ append_assoc (picture_text j) (flat_map sound_text (sounds_with j)) (flat_map shown_text (range_with_len (j + 1) (count - (j + 1))))
    ∙ ap (λ (ms : List ℕ). picture_text j ++ (flat_map sound_text ms ++ flat_map shown_text (range_with_len (j + 1) (count - (j + 1))))) (sounds_are j m l h)

pub nothing_left : (count j m : ℕ) → count ≤ j → 40 * j ≤ 23 * m → rest_from count j m ≡ []
nothing_left count j m n l =
    let none : count - j ≡ 0 = omega (arith, n) in
    ap (λ (ms : List ℕ). flat_map sound_text ms ++ flat_map shown_text (range_with_len j (count - j))) (nothing_before j m l)
    ∙ ap (λ (k : ℕ). flat_map shown_text (range_with_len j k)) none

pub whole_text : (count : ℕ) → generated count ≡ head_text ++ rest_from count 0 0
unfolding generated
whole_text count = let all : count ≡ count - 0 = omega arith in ap (λ (k : ℕ). head_text ++ flat_map shown_text (range_with_len 0 k)) all

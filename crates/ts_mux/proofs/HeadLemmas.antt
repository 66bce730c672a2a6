-- Heads, put together part by part.
use Rattle.std.proofs.Common.{◌≡◌, ℕ, ℤ, List, [], ◌∷◌, ◌++◌, ◌/◌, ◌%◌, ap, sym, ◌∙◌, refl, Bool, true, false, if◌then◌else◌, w64, of_z, to_z, SFits}
use Rattle.std.specs.Ordering.{int_eq}
use Rattle.std.proofs.lemmas.Bool.Decides.{Decides-int_eq}
use Rattle.std.proofs.lemmas.Int.{to_z-of_z}
use Rattle.ts_mux.specs.Pes.{head_of, times_of, time_field}
use Rattle.ts_mux.specs.Times.{ticks, time_value}

-- equal bits are equal times
same_bits : (a b : ℤ) → SFits w64 a → SFits w64 b → of_z w64 a ≡ of_z w64 b → a ≡ b
same_bits a b f g h = sym (to_z-of_z w64 a f) ∙ ap (to_z w64) h ∙ to_z-of_z w64 b g

pub same_time : (a b : ℤ) → SFits w64 a → SFits w64 b → of_z w64 a ≡ of_z w64 b → int_eq a b ≡ true
same_time a b f g h = (Decides-int_eq a b).1 (same_bits a b f g h)

not_true : (r : Bool) → (r ≡ true → ⊥) → r ≡ false
not_true true h = absurd (h refl)
not_true false h = refl

pub other_time : (a b : ℤ) → (of_z w64 a ≡ of_z w64 b → ⊥) → int_eq a b ≡ false
other_time a b h = not_true (int_eq a b) (λ e. h (ap (of_z w64) ((Decides-int_eq a b).0 e)))

one : (same : Bool) (a b : List ℕ) → same ≡ true → (if same then a else b) ≡ a
one same a b h = cc

two : (same : Bool) (a b : List ℕ) → same ≡ false → (if same then a else b) ≡ b
two same a b h = cc

pub one_time : (id size : ℕ) (pts dts : ℤ) → int_eq pts dts ≡ true
    → head_of id size pts dts ≡ (0 ∷ 0 ∷ 1 ∷ id ∷ size / 256 ∷ size % 256 ∷ 0x80 ∷ []) ++ (0x80 ∷ 5 ∷ []) ++ time_field 2 (time_value pts)
unfolding head_of times_of
one_time id size pts dts h =
    ap (λ (l : List ℕ). 0 ∷ 0 ∷ 1 ∷ id ∷ size / 256 ∷ size % 256 ∷ 0x80 ∷ l)
    (one (int_eq pts dts) (0x80 ∷ 5 ∷ time_field 2 (time_value pts)) (0xC0 ∷ 10 ∷ (time_field 3 (time_value pts) ++ time_field 1 (time_value dts))) h)

pub two_times : (id size : ℕ) (pts dts : ℤ) → int_eq pts dts ≡ false
    → head_of id size pts dts ≡ (0 ∷ 0 ∷ 1 ∷ id ∷ size / 256 ∷ size % 256 ∷ 0x80 ∷ []) ++ (0xC0 ∷ 10 ∷ []) ++ time_field 3 (time_value pts) ++ time_field 1 (time_value dts)
unfolding head_of times_of
two_times id size pts dts h =
    ap (λ (l : List ℕ). 0 ∷ 0 ∷ 1 ∷ id ∷ size / 256 ∷ size % 256 ∷ 0x80 ∷ l)
    (two (int_eq pts dts) (0x80 ∷ 5 ∷ time_field 2 (time_value pts)) (0xC0 ∷ 10 ∷ (time_field 3 (time_value pts) ++ time_field 1 (time_value dts))) h)

-- pieces put behind one another, from nothing on
pub three_put : (none x y z a b c : List ℕ) → none ≡ [] → x ≡ none ++ a → y ≡ x ++ b → z ≡ y ++ c → z ≡ a ++ b ++ c
three_put none x y z a b c e f g h = h ∙ ap (λ l. l ++ c) (g ∙ ap (λ l. l ++ b) (f ∙ ap (λ l. l ++ a) e))

-- the field of a time, of its value
pub field_is : (prefix value : ℕ) (z : ℤ) (field : List ℕ) → field ≡ time_field prefix value → value ≡ ticks (to_z w64 (of_z w64 z)) 126000 → SFits w64 z
    → field ≡ time_field prefix (time_value z)
field_is prefix value z field e f g = e ∙ ap (time_field prefix) (f ∙ ap (λ (y : ℤ). ticks y 126000) (to_z-of_z w64 z g))

-- Parsing digits.
use Rattle.std.proofs.Common.{◌≡◌, ◌<◌, ◌≤◌, ℕ, List, [], ◌∷◌, length, Bool, true, false, Result, Ok, rules, arith}
use Rattle.std.specs.Prelude.{◌&&◌, ◌==◌, not}
use Rattle.std.specs.Str.Parse.{ParsesUnsigned}
use Rattle.std.proofs.lemmas.Str.Parse.{IsNumeralModel, numerals_by_fold, parse_gives, digits_value_short}
use Rattle.options.specs.Number.{is_digits, is_number, value_on}

own : IsNumeralModel (λ ds. is_digits ds ≡ true) (value_on 0)
own = numerals_by_fold _ (search rules) value_on (search rules)

some : (bs : List ℕ) → is_number bs ≡ true → 0 < length bs
some [] h = cc
some (b ∷ bs) h = omega arith

second : (a b : Bool) → (a && b) ≡ true → b ≡ true
second true b h = h
second false b h = cc

digits : (bs : List ℕ) → is_number bs ≡ true → is_digits bs ≡ true
digits bs h = second (not (length bs == 0)) (is_digits bs) h

pub parsed : {E : Type 0} (bs : List ℕ) (r : Result ℕ E) → ParsesUnsigned 64 10 bs r → is_number bs ≡ true → length bs ≤ 19 → r ≡ Ok (value_on 0 bs)
parsed bs r h d few = parse_gives own 64 bs r h (digits bs d) (some bs d) (omega (arith, digits_value_short own bs 19 (digits bs d) few))

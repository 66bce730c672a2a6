-- Decimal numbers.
use Rattle.std.specs.Prelude.{ℕ, ◌+◌, ◌*◌, ◌-◌, List, [], ◌∷◌, length, Bool, Option, Some, None, ◌||◌, ◌&&◌, ◌==◌, not, nat_lt, if◌then◌else◌}
use Rattle.std.specs.List.{list_all}
use Rattle.std.specs.Char.{is_ascii_digit}

abbrev pub is_digits : List ℕ → Bool
is_digits text = list_all is_ascii_digit text

-- at least one digit, and nothing else
abbrev pub is_number : List ℕ → Bool
is_number text = not (length text == 0) && is_digits text

-- the value of digits, behind those that were read so far
abbrev pub value_on : ℕ → List ℕ → ℕ
value_on n [] = n
value_on n (d ∷ ds) = value_on (n * 10 + (d - 48)) ds

-- from 1 to 19 digits, and a value within the limits
abbrev pub number : ℕ → ℕ → List ℕ → Option ℕ
number least most text =
    if not (is_number text) || nat_lt 19 (length text) then None
    else if nat_lt (value_on 0 text) least || nat_lt most (value_on 0 text) then None
    else Some (value_on 0 text)

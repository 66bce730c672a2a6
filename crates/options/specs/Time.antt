-- Times in seconds.
use Rattle.std.specs.Prelude.{ℕ, ◌-◌, List, ◌++◌, length, replicate, Bool, Option, Some, None, ◌==◌, ◌||◌, not, nat_lt, if◌then◌else◌, codes}
use Rattle.std.specs.List.{list_any, before_first, after_first}
use Rattle.options.specs.Number.{is_number, value_on}

abbrev pub is_point : ℕ → Bool
is_point c = c == 46

-- from 0.000001 to 1000000 seconds
abbrev pub within_limits : ℕ → Option ℕ
within_limits micros = if nat_lt micros 1 || nat_lt 1000000000000 micros then None else Some micros

-- the microseconds: the digits with the point six places further
unfoldable pub micros_of : List ℕ → List ℕ → ℕ
micros_of whole decimals = value_on 0 (whole ++ decimals ++ replicate (6 - length decimals) 48)

unfoldable pub time_of_parts : List ℕ → List ℕ → Option ℕ
time_of_parts whole decimals =
    if not (is_number whole) || not (is_number decimals) || nat_lt 6 (length decimals) then None
    else within_limits (micros_of whole decimals)

-- digits, or digits, a point and 1 to 6 digits
abbrev pub time : List ℕ → Option ℕ
time text =
    if list_any is_point text then time_of_parts (before_first is_point text) (after_first is_point text)
    else time_of_parts text (codes "0")

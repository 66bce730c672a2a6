-- The text of a chain.
use Rattle.std.specs.Prelude.{ℕ, zero, suc, ◌+◌, ◌-◌, ◌*◌, ◌==◌, ◌||◌, ◌&&◌, not, Bool, true, false, if◌then◌else◌, List, [], ◌∷◌, length, nat_lt, nat_le, nat_eq, codes, fold, Option, None, Some, Result, Ok, Err, is_some}
use Rattle.std.specs.List.{list_any, list_all}
use Rattle.std.specs.Cmp.Lexicographic.{pointwise}
use Rattle.bsf_chain.specs.declared.filter.Filter.{Filter}
use Rattle.bsf_chain.specs.declared.filter.Filter.TheVariants.{ToAnnexB, FilterUnits, DumpExtra, Null, AacAdts}
use Rattle.bsf_chain.specs.declared.filter.BsfFault.{BsfFault}
use Rattle.bsf_chain.specs.declared.filter.BsfFault.TheVariants.{UnknownFilter, BadArgument}

abbrev pub is : List ℕ → List ℕ → Bool
is text word = pointwise nat_eq text word

-- what stands in front of the first separator
abbrev pub before : ℕ → List ℕ → List ℕ
before separator [] = []
before separator (c ∷ text) = if c == separator then [] else c ∷ before separator text

-- what stands behind it, if there is one
abbrev pub behind : ℕ → List ℕ → Option (List ℕ)
behind separator [] = None
behind separator (c ∷ text) = if c == separator then Some text else behind separator text

abbrev pub onto_first : ℕ → List (List ℕ) → List (List ℕ)
onto_first c [] = (c ∷ []) ∷ []
onto_first c (part ∷ parts) = (c ∷ part) ∷ parts

-- the parts between the separators
abbrev pub split_by : ℕ → List ℕ → List (List ℕ)
split_by separator [] = [] ∷ []
split_by separator (c ∷ text) = if c == separator then [] ∷ split_by separator text else onto_first c (split_by separator text)

abbrev pub is_digit : ℕ → Bool
is_digit c = nat_le 48 c && nat_le c 57

abbrev pub value_of : List ℕ → ℕ
value_of digits = fold (λ n c. 10 * n + (c - 48)) 0 digits

-- one to nineteen digits
unfoldable pub number_of : List ℕ → Option ℕ
number_of text =
    if (length text == 0) || nat_lt 19 (length text) then None
    else if list_all is_digit text then Some (value_of text) else None

abbrev pub to_type : Option ℕ → Option ℕ
to_type None = None
to_type (Some n) = if nat_le n 31 then Some n else None

-- a number from 0 to 31
unfoldable pub type_in : List ℕ → Option ℕ
type_in text = to_type (number_of text)

-- the least and the greatest of some types
pub record Range : Type 0 where
  pub low : ℕ
  pub high : ℕ

abbrev pub range_from : ℕ × ℕ → Range
range_from bounds = record { low = bounds.0; high = bounds.1 }

abbrev pub range_by : Option ℕ → Option ℕ → Option Range
range_by None high = None
range_by (Some low) None = None
range_by (Some low) (Some high) = if nat_le low high then Some (record { low = low; high = high }) else None

abbrev pub range_to : List ℕ → Option (List ℕ) → Option Range
range_to low None = range_by (type_in low) (type_in low)
range_to low (Some high) = range_by (type_in low) (type_in high)

-- a number from 0 to 31, or two with `-` between them, the first of which isn't the greater
unfoldable pub range_of : List ℕ → Option Range
range_of part = range_to (before 45 part) (behind 45 part)

abbrev pub in_range : ℕ → Option Range → Bool
in_range type None = false
in_range type (Some range) = nat_le range.low type && nat_le type range.high

-- whether each part between the `|` is a number or a range
unfoldable pub are_types : List ℕ → Bool
are_types value = list_all (λ part. is_some (range_of part)) (split_by 124 value)

-- whether one of them has the type
unfoldable pub has_type : ℕ → List ℕ → Bool
has_type type value = list_any (λ part. in_range type (range_of part)) (split_by 124 value)

-- the number whose bits these are, from the lowest type on
abbrev pub mask_from : ℕ → ℕ → (ℕ → Bool) → ℕ
mask_from zero type kept = 0
mask_from (suc count) type kept = (if kept type then 1 else 0) + 2 * mask_from count (type + 1) kept

-- bit t is set where t is kept, for t from 0 to 31
unfoldable pub mask_of : (ℕ → Bool) → ℕ
mask_of kept = mask_from 32 0 kept

-- an argument's value
abbrev pub types_by : (ℕ → Bool) → List ℕ → Result Filter BsfFault
types_by kept value = if are_types value then Ok (FilterUnits (mask_of kept)) else Err BadArgument

-- the argument of filter_units, by its key
abbrev pub units_argument : List ℕ → Option (List ℕ) → Result Filter BsfFault
units_argument key None = Err BadArgument
units_argument key (Some value) =
    if is key (codes "pass_types") then types_by (λ type. has_type type value) value
    else if is key (codes "remove_types") then types_by (λ type. not (has_type type value)) value
    else Err BadArgument

abbrev pub dump_by : List ℕ → Result Filter BsfFault
dump_by value =
    if is value (codes "keyframe") || is value (codes "k") then Ok (DumpExtra false)
    else if is value (codes "all") || is value (codes "e") then Ok (DumpExtra true)
    else Err BadArgument

-- the argument of dump_extra, by its key
abbrev pub dump_argument : List ℕ → Option (List ℕ) → Result Filter BsfFault
dump_argument key None = Err BadArgument
dump_argument key (Some value) = if is key (codes "freq") then dump_by value else Err BadArgument

-- a filter that takes no argument
abbrev pub alone : Filter → Option (List ℕ) → Result Filter BsfFault
alone filter None = Ok filter
alone filter (Some arguments) = Err BadArgument

abbrev pub units_filter : Option (List ℕ) → Result Filter BsfFault
units_filter None = Err BadArgument
units_filter (Some arguments) = units_argument (before 61 arguments) (behind 61 arguments)

abbrev pub dump_filter : Option (List ℕ) → Result Filter BsfFault
dump_filter None = Ok (DumpExtra false)
dump_filter (Some arguments) = dump_argument (before 61 arguments) (behind 61 arguments)

-- a filter of that name and with these arguments, if there are any
abbrev pub filter_named : List ℕ → Option (List ℕ) → Result Filter BsfFault
filter_named name arguments =
    if is name (codes "null") then alone Null arguments
    else if is name (codes "h264_mp4toannexb") then alone ToAnnexB arguments
    else if is name (codes "aac_adts") then alone AacAdts arguments
    else if is name (codes "filter_units") then units_filter arguments
    else if is name (codes "dump_extra") then dump_filter arguments
    else Err UnknownFilter

unfoldable pub filter_of : List ℕ → Result Filter BsfFault
filter_of text = filter_named (before 61 text) (behind 61 text)

abbrev pub with_filter : Filter → Result (List Filter) BsfFault → Result (List Filter) BsfFault
with_filter filter (Ok filters) = Ok (filter ∷ filters)
with_filter filter (Err fault) = Err fault

abbrev pub and_then : Result Filter BsfFault → Result (List Filter) BsfFault → Result (List Filter) BsfFault
and_then (Ok filter) others = with_filter filter others
and_then (Err fault) others = Err fault

-- the filters of these texts, where there is room for so many; or the first fault
abbrev pub filters_of : ℕ → List (List ℕ) → Result (List Filter) BsfFault
filters_of room [] = Ok []
filters_of zero (text ∷ texts) = Err BadArgument
filters_of (suc room) (text ∷ texts) = and_then (filter_of text) (filters_of room texts)

-- the filters of a chain's text, or the first fault from the left
unfoldable pub chain_of : List ℕ → Result (List Filter) BsfFault
chain_of text = filters_of 16 (split_by 44 text)

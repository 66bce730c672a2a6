-- Lists of units, as filters change them.
use Rattle.std.specs.Prelude.{ℕ, ◌<◌, ◌^◌, ◌/◌, ◌%◌, ◌==◌, ◌&&◌, Bool, true, false, not, if◌then◌else◌, List, [], ◌∷◌, ◌++◌, length, filter, map, nat_eq}
use Rattle.std.specs.Cmp.Lexicographic.{pointwise}
use Rattle.std.specs.List.{AllByRecursion}
use denote.Ref.{Bor}
use Rattle.rmx_media.specs.Units.{type_of}

-- what slices show
abbrev pub shown : List (Bor (List ℕ)) → List (List ℕ)
shown slices = map (λ (slice : Bor (List ℕ)). slice.now) slices

-- whether the bit of a unit's type is set
abbrev pub is_kept : ℕ → List ℕ → Bool
is_kept types unit = types / 2 ^ type_of unit % 2 == 1

-- the units whose type's bit is set
abbrev pub kept : ℕ → List (List ℕ) → List (List ℕ)
kept types units = filter (is_kept types) units

-- whether one of the units is of that type
abbrev pub has_type : ℕ → List (List ℕ) → Bool
has_type type [] = false
has_type type (unit ∷ units) = if type_of unit == type then true else has_type type units

-- the sets before the first IDR unit, if there is one
abbrev pub before_idr : List (List ℕ) → List (List ℕ) → List (List ℕ)
before_idr sets [] = []
before_idr sets (unit ∷ units) = if type_of unit == 5 then sets ++ unit ∷ units else unit ∷ before_idr sets units

-- the same, where the sets are still due
abbrev pub where_due : Bool → List (List ℕ) → List (List ℕ) → List (List ℕ)
where_due due sets units = if due then before_idr sets units else units

-- the sets before the first IDR unit, unless the units have a sequence parameter set of their own
unfoldable pub with_sets : List (List ℕ) → List (List ℕ) → List (List ℕ)
with_sets sets units = where_due (not (has_type 7 units)) sets units

-- whether the units begin with these
abbrev pub begins : List (List ℕ) → List (List ℕ) → Bool
begins [] units = true
begins (set ∷ sets) [] = false
begins (set ∷ sets) (unit ∷ units) = pointwise nat_eq unit set && begins sets units

-- the sets in front, unless the units begin with them
unfoldable pub in_front : List (List ℕ) → List (List ℕ) → List (List ℕ)
in_front sets units = if begins sets units then units else sets ++ units

-- each unit's length can stand in a length field of so many bytes
abbrev pub AreShort : ℕ → List (List ℕ) → Type 0
AreShort width units = AllByRecursion (λ unit. length unit < 256 ^ width) units

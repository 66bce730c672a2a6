-- NAL units (ISO/IEC 14496-10, 7.3.1), behind length fields (ISO/IEC 14496-15, 5.3) or behind start codes (ISO/IEC 14496-10, Annex B).
use Rattle.std.specs.Prelude.{◌≡◌, ℕ, zero, suc, ◌+◌, ◌<◌, ◌%◌, nat_lt, Bool, if◌then◌else◌, List, [], ◌∷◌, ◌++◌, length, take, drop, filter, Option, None, Some, unwrap_or, slice_index}
use Rattle.std.specs.Option.{option_map}
use Rattle.std.specs.List.{flat_map, AllByRecursion}
use Rattle.rmx_media.specs.Bits.{number_of, bytes_of}

-- whether a unit has a byte at all
abbrev pub is_filled : List ℕ → Bool
is_filled unit = nat_lt 0 (length unit)

-- the lower five bits of the first byte
abbrev pub type_of : List ℕ → ℕ
type_of unit = slice_index unit 0 % 32

-- the number in the length field in front, of so many bytes
abbrev pub size_in : ℕ → List ℕ → ℕ
size_in width bytes = number_of (take width bytes)

-- a unit behind its length field
abbrev pub sized : ℕ → List ℕ → List ℕ
sized width unit = bytes_of width (length unit) ++ unit

-- a unit behind its start code
abbrev pub started : List ℕ → List ℕ
started unit = 0 ∷ 0 ∷ 0 ∷ 1 ∷ unit

-- the units behind length fields of so many bytes
unfoldable pub native : ℕ → List (List ℕ) → List ℕ
native width units = flat_map (sized width) units

-- the units behind start codes
unfoldable pub annexb : List (List ℕ) → List ℕ
annexb units = flat_map started units

-- what stands behind the length fields, empty units among it, in at most so many steps; nothing where a field or a unit is cut off
abbrev pub parts_by : ℕ → ℕ → List ℕ → Option (List (List ℕ))
parts_by steps width [] = Some []
parts_by zero width (x ∷ xs) = None
parts_by (suc steps) width (x ∷ xs) =
    if nat_lt (length (x ∷ xs)) (width + size_in width (x ∷ xs)) then None
    else option_map
    (λ parts. take (size_in width (x ∷ xs)) (drop width (x ∷ xs)) ∷ parts)
    (parts_by steps width (drop (width + size_in width (x ∷ xs)) (x ∷ xs)))

unfoldable pub parts_of : ℕ → List ℕ → Option (List (List ℕ))
parts_of width payload = parts_by (length payload) width payload

-- the units of a payload whose length fields have so many bytes, empty ones left out; none where a field or a unit is cut off
unfoldable pub units_of : ℕ → List ℕ → List (List ℕ)
units_of width payload = filter is_filled (unwrap_or (parts_of width payload) [])

-- nothing is cut off, and there is a unit
abbrev pub is_valid : ℕ → List ℕ → Bool
is_valid width payload = nat_lt 0 (length (units_of width payload))

-- none of the units is empty
abbrev pub AreFilled : List (List ℕ) → Type 0
AreFilled units = AllByRecursion (λ unit. 0 < length unit) units

-- the bytes are some units behind start codes
pub record IsAnnexb (bytes : List ℕ) : Type 0 where
  pub units : List (List ℕ)
  pub some : 0 < length units
  pub filled : AreFilled units
  pub spelled : bytes ≡ annexb units

-- An iterator over the units of a payload.
use Rattle.std.specs.Prelude.{ℕ, List}
use Rattle.avc_units.specs.declared.iter.Units.{Units}
use Rattle.rmx_media.specs.Units.{units_of}

-- the units that are still to come
abbrev pub left_of : Units → List (List ℕ)
left_of s = units_of s.length_size s.rest.now

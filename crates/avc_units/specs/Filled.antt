-- An iterator over the parameter sets that are not empty.
use Rattle.std.specs.Prelude.{ℕ, List, filter}
use Rattle.avc_units.specs.declared.filled.Filled.{Filled}
use Rattle.rmx_media.specs.Sets.{left_of as sets_left}
use Rattle.rmx_media.specs.Units.{is_filled}

-- the sets that are still to come
abbrev pub left_of : Filled → List (List ℕ)
left_of f = filter is_filled (sets_left f.sets)

-- An iterator over the parameter sets of a configuration.
use Rattle.std.specs.Prelude.{ℕ, List}
use Rattle.rmx_media.specs.declared.sets.Sets.{Sets}
use Rattle.rmx_media.specs.Avc.{some_sets, sets_left}

-- the sets that are still to come
abbrev pub left_of : Sets → List (List ℕ)
left_of s = some_sets (sets_left s.last s.count s.rest.now)

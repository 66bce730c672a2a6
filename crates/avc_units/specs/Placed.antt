-- A cursor over units with the parameter sets at their place.
use Rattle.std.specs.Prelude.{ℕ, true, if◌then◌else◌, List, ◌∷◌, ◌++◌}
use Rattle.avc_units.specs.declared.placed.Placed.{Placed}
use Rattle.avc_units.specs.Filled.{left_of as sets_left}
use Rattle.avc_units.specs.UnitList.{where_due}
use Rattle.avc_units.specs.Units.{left_of as units_left}
use Rattle.rmx_media.specs.Units.{is_filled}

-- a unit that the sets go before, if there is one
abbrev pub behind : List (List ℕ) → List ℕ → List (List ℕ) → List (List ℕ)
behind sets held units = if is_filled held then sets ++ held ∷ units else units

-- the units that are still to come
abbrev pub left_of : Placed → List (List ℕ)
left_of p = if p.due then where_due true (sets_left p.sets) (units_left p.units) else behind (sets_left p.sets) p.held.now (units_left p.units)

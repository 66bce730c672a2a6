use Rattle.std.proofs.Common.{◌≡◌, drop}
use Rattle.avc_units.specs.UnitList.{shown, has_type}
use Rattle.avc_units.proofs.list.has_unit_of.Given as goal

abbrev pub invariant-loop-unit : goal.invariant-loop-unit
invariant-loop-unit l = has_type l.unit_type (shown l.units) ≡ has_type l.unit_type (shown (drop l.unit-index l.units))

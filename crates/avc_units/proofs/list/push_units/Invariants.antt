use Rattle.std.proofs.Common.{◌≡◌, ◌++◌, drop}
use Rattle.avc_units.specs.UnitList.{shown}
use Rattle.avc_units.proofs.list.push_units.Given as goal

abbrev pub invariant-loop-unit : goal.invariant-loop-unit
invariant-loop-unit l = shown l.list.items ++ shown (drop l.unit-index l.units) ≡ shown l.fn.list.items ++ shown l.units

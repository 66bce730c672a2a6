use Rattle.std.proofs.Common.{◌≡◌, ◌++◌, drop}
use Rattle.avc_units.specs.UnitList.{shown, where_due, with_sets}
use Rattle.rmx_media.specs.Avc.{sets_of}
use Rattle.avc_units.proofs.list.units_with_sets.Given as goal

abbrev pub invariant-loop-unit : goal.invariant-loop-unit
invariant-loop-unit l =
    shown l.list.items ++ where_due l.due (sets_of l.fn.config) (shown (drop l.unit-index l.units)) ≡ with_sets (sets_of l.fn.config) (shown l.units)

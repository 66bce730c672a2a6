use Rattle.std.proofs.Common.{◌≡◌, length}
use Rattle.avc_units.specs.UnitList.{has_type}
use Rattle.avc_units.specs.Units.{left_of}
use Rattle.avc_units.proofs.placed.has_parameters.Given as goal

abbrev pub invariant-loop-unit : goal.invariant-loop-unit
invariant-loop-unit l = has_type 7 (left_of l.fn.left) ≡ has_type 7 (left_of l.left)

abbrev pub decreases-loop-unit : goal.decreases-loop-unit
decreases-loop-unit l = length (left_of l.left)

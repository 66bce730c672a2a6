use Rattle.std.proofs.Common.{◌≡◌, ◌++◌, length}
use Rattle.avc_units.specs.UnitList.{shown}
use Rattle.avc_units.specs.Units.{left_of}
use Rattle.rmx_media.specs.Units.{units_of}
use Rattle.avc_units.proofs.list.read_units.Given as goal

abbrev pub invariant-loop-unit : goal.invariant-loop-unit
invariant-loop-unit l = shown l.list.items ++ left_of l.left ≡ units_of l.fn.config.length_size l.fn.payload

abbrev pub decreases-loop-unit : goal.decreases-loop-unit
decreases-loop-unit l = length (left_of l.left)

use Rattle.std.proofs.Common.{◌≡◌, ◌++◌, length}
use Rattle.avc_units.specs.UnitList.{shown}
use Rattle.avc_units.specs.Filled.{left_of}
use Rattle.rmx_media.specs.Avc.{sets_of}
use Rattle.avc_units.proofs.list.push_sets.Given as goal

abbrev pub invariant-loop-set : goal.invariant-loop-set
invariant-loop-set l = shown l.list.items ++ left_of l.sets ≡ shown l.fn.list.items ++ sets_of l.fn.config

abbrev pub decreases-loop-set : goal.decreases-loop-set
decreases-loop-set l = length (left_of l.sets)

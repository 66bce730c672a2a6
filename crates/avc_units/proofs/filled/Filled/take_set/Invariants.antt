use Rattle.std.proofs.Common.{◌≡◌, length}
use Rattle.avc_units.specs.Filled.{left_of}
use Rattle.rmx_media.specs.Sets.{left_of as sets_left}
use Rattle.avc_units.proofs.filled.Filled.take_set.Given as goal

abbrev pub invariant-loop-set : goal.invariant-loop-set
invariant-loop-set l = left_of l.fn.self ≡ left_of l.self

abbrev pub decreases-loop-set : goal.decreases-loop-set
decreases-loop-set l = length (sets_left l.self.sets)

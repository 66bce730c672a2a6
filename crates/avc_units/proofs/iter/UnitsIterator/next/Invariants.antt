use Rattle.std.proofs.Common.{◌≡◌, length}
use Rattle.avc_units.specs.Units.{left_of}
use Rattle.avc_units.proofs.iter.UnitsIterator.next.Given as goal

abbrev pub invariant-loop-self : goal.invariant-loop-self
invariant-loop-self l = left_of l.fn.self ≡ left_of l.self

abbrev pub decreases-loop-self : goal.decreases-loop-self
decreases-loop-self l = length l.self.rest.now

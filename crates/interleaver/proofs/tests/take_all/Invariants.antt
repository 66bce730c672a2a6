use Rattle.std.proofs.Common.{◌≡◌, length}
use Rattle.interleaver.proofs.tests.take_all.Given as goal

abbrev pub invariant-loop-packet : goal.invariant-loop-packet
invariant-loop-packet l = l.line ≡ record l.fn.line { pending = l.line.pending }

abbrev pub decreases-loop-packet : goal.decreases-loop-packet
decreases-loop-packet l = length l.line.pending

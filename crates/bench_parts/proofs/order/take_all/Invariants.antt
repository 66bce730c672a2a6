use Rattle.std.proofs.Common.{◌≡◌, length}
use Rattle.bench_parts.proofs.order.take_all.Given as goal

abbrev pub invariant-loop-taken : goal.invariant-loop-taken
invariant-loop-taken l = l.line ≡ record l.fn.line { pending = l.line.pending }

abbrev pub decreases-loop-taken : goal.decreases-loop-taken
decreases-loop-taken l = length l.line.pending

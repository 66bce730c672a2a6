use Rattle.std.proofs.Common.{◌≡◌}
use Rattle.lane.proofs.tests.take_slowly.Given as goal

abbrev pub invariant-loop : goal.invariant-loop
invariant-loop g l = l.taker.ring ≡ l.initial.taker.ring

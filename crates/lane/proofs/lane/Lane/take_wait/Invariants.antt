use Rattle.std.proofs.Common.{ℕ}
use Rattle.lane.proofs.Waits.{Looked}
use Rattle.lane.proofs.lane.Lane.take_wait.Given as goal

abbrev pub invariant-loop : goal.invariant-loop
invariant-loop g l = (n : ℕ) × Looked l.initial.taker l.taker n

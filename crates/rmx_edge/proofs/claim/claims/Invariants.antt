use Rattle.std.proofs.Common.{◌≡◌, length}
use Rattle.rmx_edge.proofs.claim.claims.Given as goal

abbrev pub invariant-loop : goal.invariant-loop
invariant-loop l = Unit {0}

abbrev pub invariant-loop-place : goal.invariant-loop-place
invariant-loop-place l = length l.all.items ≡ l.place

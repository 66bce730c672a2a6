use Rattle.std.proofs.Common.{◌≡◌, ◌≤◌}
use Rattle.lane.proofs.lane.Lane.put.Given as goal

abbrev pub invariant-loop : goal.invariant-loop
invariant-loop g l = record {
  msg : l.msg ≡ l.initial.msg;
  giver : l.giver ≡ record l.initial.giver { seen = l.giver.seen };
  more : l.initial.giver.seen ≤ l.giver.seen;
}

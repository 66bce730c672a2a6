use Rattle.std.proofs.Common.{◌≡◌, ◌≤◌, length, false}
use Rattle.lane.specs.Follows.{next_index}
use Rattle.slave.proofs.worker_tests.offer_all.Given as goal

abbrev pub invariant-loop-i : goal.invariant-loop-i
invariant-loop-i l = record {
  ring : l.giver.ring ≡ l.initial.giver.ring;
  about : l.giver.about ≡ l.initial.giver.about;
  open' : l.giver.closed ≡ false;
  few : length l.giver.given ≤ l.i;
  rare : length l.giver.refusals ≤ l.i;
  next : next_index l.giver.past ≤ l.i;
}

use Rattle.std.proofs.Common.{◌≡◌, ◌+◌, ◌≤◌, ◌++◌, length, drop}
use Rattle.slave.specs.Entered.{entered}
use Rattle.slave.proofs.refusals.merge.Given as goal

abbrev pub invariant-loop-k : goal.invariant-loop-k
invariant-loop-k l = record {
  within : l.next ≤ length l.receipts;
  places : length l.runs + length l.receipts ≤ (l.all.spare + l.k) + l.next;
  items : l.all.items ++ entered (drop l.k l.runs) (drop l.next l.receipts) ≡ entered l.runs l.receipts;
}

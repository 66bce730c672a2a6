use Rattle.std.proofs.Common.{◌≡◌, ◌+◌, ◌≤◌, drop}
use Rattle.slave.specs.Entered.{behind}
use Rattle.slave.proofs.refusals.leave_out.Given as goal

abbrev pub invariant-loop-k : goal.invariant-loop-k
invariant-loop-k l = record {
  low : l.next ≤ l.k;
  rest : behind (l.run.first + l.run.count) (drop l.k l.receipts) ≡ behind (l.run.first + l.run.count) (drop l.next l.receipts);
}

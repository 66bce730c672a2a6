use Rattle.std.proofs.Common.{◌≡◌, ◌+◌, ◌≤◌, ◌++◌, map, drop}
use Rattle.slave.specs.Entered.{below, behind, refusal}
use Rattle.slave.proofs.refusals.enter_before.Given as goal

abbrev pub invariant-loop-k : goal.invariant-loop-k
invariant-loop-k l = record {
  low : l.next ≤ l.k;
  items : l.all.items ++ map refusal (below l.run.first (drop l.k l.receipts)) ≡ l.initial.all.items ++ map refusal (below l.run.first (drop l.next l.receipts));
  rest : behind l.run.first (drop l.k l.receipts) ≡ behind l.run.first (drop l.next l.receipts);
  spare : l.all.spare + l.k ≡ l.initial.all.spare + l.next;
}

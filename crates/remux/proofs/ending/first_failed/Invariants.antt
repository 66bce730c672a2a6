use Rattle.std.proofs.Common.{◌≡◌}
use Rattle.std.specs.Prelude.{drop}
use Rattle.remux.specs.States.{first_failed}
use Rattle.remux.proofs.ending.first_failed.Given as goal

abbrev pub invariant-loop-k : goal.invariant-loop-k
invariant-loop-k g l = first_failed l.k (drop l.k l.slaves) (drop l.k l.ends) ≡ first_failed 0 l.slaves l.ends

use Rattle.std.proofs.Common.{ap, ◌∙◌, sym, arith}
use Rattle.std.specs.Prelude.{length}
use Rattle.remux.proofs.run.outcome_of.Goals as goal

pub failed_slave-failed-requires-clause-same : goal.failed_slave-failed-requires-clause-same
failed_slave-failed-requires-clause-same g c = ap length c.as_slice.ensures ∙ c.requires.same ∙ sym (ap length c.as_slice-2.ensures)

pub failed_slave-failed-requires-clause-few : goal.failed_slave-failed-requires-clause-few
failed_slave-failed-requires-clause-few g c = omega (arith, c.requires.few, ap length c.as_slice-2.ensures)

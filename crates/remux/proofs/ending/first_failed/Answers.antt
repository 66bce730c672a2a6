use Rattle.std.proofs.Common.{◌∙◌, sym, ap}
use Rattle.options.specs.declared.slave.SlavePlan.{SlavePlan}
use Rattle.slave.specs.declared.job.SlaveEnd.{SlaveEnd}
use Rattle.tee.specs.Fails.{is_failed}
use Rattle.remux.proofs.Endings.{past_calm, past_whole}
use Rattle.remux.proofs.ending.first_failed.Goals.{else-slaves-k-via-then-slaves-k+else-is_failed, else-slaves-k-via-else-slaves-k}
use Rattle.remux.proofs.ending.first_failed.Goals as goal

pub loop-k-preserved : goal.loop-k-preserved
loop-k-preserved g c = elim c.else-slaves-k.branch [
  | else-slaves-k-via-then-slaves-k+else-is_failed w ↦ past_whole c.loop-k.k c.args.slaves.now c.args.ends.now w.index-ends-k.result c.loop-k.invariant c.loop-k-test.true c.requires.same w.index-ends-k.is (ap (λ (e : SlaveEnd _). is_failed e.state) w.index-ends-k.is ∙ sym w.is_failed.ensures ∙ w.if-is_failed.false)
  | else-slaves-k-via-else-slaves-k w ↦ past_calm c.loop-k.k c.args.slaves.now c.args.ends.now c.index-slaves-k.result c.loop-k.invariant c.loop-k-test.true c.requires.same c.index-slaves-k.is (ap (λ (p : SlavePlan). p.abort) c.index-slaves-k.is ∙ w.if-slaves-k.false)
]

use Rattle.std.proofs.Common.{◌∙◌}
use Rattle.options.proofs.Capped.{next_zero}
use Rattle.options.proofs.time.with_zeros.Goals as goal

pub loop-preserved : goal.loop-preserved
loop-preserved c =
    (c.with_digit-value.ensures.bound, next_zero _ _ _ _ _ c.loop-test.true c.with_digit-value.ensures.value ∙ c.loop.invariant.1)

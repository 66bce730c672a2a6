use Rattle.std.proofs.Common.{arith, ◌∙◌, ◌<◌, length}
use Rattle.options.proofs.Capped.{next}
use Rattle.options.proofs.time.with_digits.Goals as goal

pub loop-digit-preserved : goal.loop-digit-preserved
loop-digit-preserved c =
    let lt : c.loop-digit.digit-index < length c.args.digits.now = omega (arith, c.as_bytes-digit-items.ensures.len) in
    (c.with_digit-value.ensures.bound, next _ _ _ _ _ lt (rw c.as_bytes-digit-items.ensures.value at c.with_digit-value.ensures.value) ∙ c.loop-digit.invariant.1)

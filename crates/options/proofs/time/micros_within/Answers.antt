use Rattle.std.proofs.Common.{◌∙◌}
use Rattle.options.proofs.Capped.{in_parts}
use Rattle.options.proofs.time.micros_within.Goals as goal

pub returns : goal.returns
returns c = c.within_limits.ensures ∙ in_parts c.args.whole.now c.args.decimals.now _ _ _ c.with_digits.ensures.value c.with_digits-micros.ensures.value c.with_zeros.ensures.value

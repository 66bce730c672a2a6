use Rattle.std.proofs.Common.{◌≡◌, ◌≤◌, min, drop}
use Rattle.options.specs.Number.{value_on}
use Rattle.options.proofs.time.with_digits.Given as goal

abbrev pub invariant-loop-digit : goal.invariant-loop-digit
invariant-loop-digit l = (l.value ≤ 1000000000001)
    × (min (value_on l.value (drop l.digit-index l.digits)) 1000000000001 ≡ min (value_on l.fn.micros l.digits) 1000000000001)

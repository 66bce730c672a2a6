use Rattle.std.proofs.Common.{◌≡◌, ◌≤◌, ◌-◌, min}
use Rattle.std.specs.Prelude.{replicate}
use Rattle.options.specs.Number.{value_on}
use Rattle.options.proofs.time.with_zeros.Given as goal

abbrev pub invariant-loop : goal.invariant-loop
invariant-loop l = (l.value ≤ 1000000000001)
    × (min (value_on l.value (replicate (l.count - l.counter) 48)) 1000000000001 ≡ min (value_on l.fn.micros (replicate l.count 48)) 1000000000001)

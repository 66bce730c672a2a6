use Rattle.std.proofs.Common.{◌≡◌, false, length, All}
use Rattle.std.specs.Option.{is_some}
use Rattle.remux.proofs.shelves.Given as goal

abbrev pub invariant-loop : goal.invariant-loop
invariant-loop g l = (length l.shelves.items ≡ l.counter) × All (λ s. is_some s.file ≡ false) l.shelves.items

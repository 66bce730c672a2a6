use Rattle.std.proofs.Common.{◌≡◌, false, length, All}
use Rattle.rmx_edge.specs.MemShelf.{state_of}
use Rattle.remux.proofs.worked.shelves.Given as goal

abbrev pub invariant-loop : goal.invariant-loop
invariant-loop l = (length l.shelves.items ≡ l.counter) × All (λ s. (state_of s).writing ≡ false) l.shelves.items

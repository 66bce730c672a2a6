use Rattle.std.proofs.Common.{◌≡◌, true}
use Rattle.rmx_edge.specs.MemShelf.{state_of}
use Rattle.ts_mux.proofs.tests.file_of.Given as goal

abbrev pub invariant-loop-sample : goal.invariant-loop-sample
invariant-loop-sample l = (state_of l.shelf).writing ≡ true

use Rattle.std.proofs.Common.{◌≡◌, true}
use Rattle.rmx_edge.specs.MemShelf.{state_of}
use Rattle.segmenter.specs.SegMux.{IsSegMuxOf}
use Rattle.segmenter.proofs.tests.written.Given as goal

abbrev pub invariant-loop-second : goal.invariant-loop-second
invariant-loop-second l = ((state_of l.shelf).writing ≡ true) × IsSegMuxOf (record { options = l.fn.options; streams = l.fn.streams }) l.mux

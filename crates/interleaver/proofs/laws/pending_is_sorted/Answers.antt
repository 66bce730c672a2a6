use Rattle.interleaver.proofs.Sorting.{pending_sorted, width_of_last}
use Rattle.interleaver.proofs.laws.pending_is_sorted.Goals as goal

pub returns-clause-sorted : goal.returns-clause-sorted
returns-clause-sorted c = pending_sorted

pub returns-clause-width : goal.returns-clause-width
returns-clause-width c = width_of_last

use Rattle.interleaver.proofs.Sorting.{sorts}
use Rattle.interleaver.proofs.laws.sorts_at_delta_nought.Goals as goal

pub returns : goal.returns
returns c = sorts

use Rattle.rmx_edge.proofs.Flush.{flushes_stop_writes}
use Rattle.rmx_edge.proofs.laws.flushes_stop_writes.Goals as goal

pub returns : goal.returns
returns c = flushes_stop_writes

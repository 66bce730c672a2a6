use Rattle.rmx_edge.proofs.Flush.{bytes_are_counted}
use Rattle.rmx_edge.proofs.laws.bytes_are_counted.Goals as goal

pub returns : goal.returns
returns c = bytes_are_counted

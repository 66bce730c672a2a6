use Rattle.rmx_edge.proofs.FileTakes.{files_are_takes}
use Rattle.rmx_edge.proofs.laws.files_are_takes.Goals as goal

pub returns : goal.returns
returns c = files_are_takes

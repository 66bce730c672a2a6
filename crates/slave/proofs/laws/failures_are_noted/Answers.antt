use Rattle.slave.proofs.Sound.{failures_noted}
use Rattle.slave.proofs.laws.failures_are_noted.Goals as goal

pub returns : goal.returns
returns c = failures_noted

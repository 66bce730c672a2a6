use Rattle.slave.proofs.LaneMet.{unrefused_follow as follows_so}
use Rattle.slave.proofs.laws.unrefused_follow.Goals as goal

pub returns : goal.returns
returns c = follows_so

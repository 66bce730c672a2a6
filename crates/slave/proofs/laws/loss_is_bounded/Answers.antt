use Rattle.slave.proofs.Losses.{loss_bounded}
use Rattle.slave.proofs.laws.loss_is_bounded.Goals as goal

pub returns : goal.returns
returns c = loss_bounded

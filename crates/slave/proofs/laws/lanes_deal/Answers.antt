use Rattle.slave.proofs.Dealing.{lanes_deal}
use Rattle.slave.proofs.laws.lanes_deal.Goals as goal

pub returns : goal.returns
returns c = lanes_deal

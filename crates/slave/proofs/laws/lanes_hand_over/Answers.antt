use Rattle.slave.proofs.Dealing.{hands_over}
use Rattle.slave.proofs.laws.lanes_hand_over.Goals as goal

pub returns : goal.returns
returns c = hands_over

use Rattle.slave.proofs.GivenUp.{stays_given_up}
use Rattle.slave.proofs.laws.given_up_stays_so.Goals as goal

pub returns : goal.returns
returns c = stays_given_up

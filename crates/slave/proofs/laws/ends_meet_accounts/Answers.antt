use Rattle.slave.proofs.Accounted.{accounts_met}
use Rattle.slave.proofs.laws.ends_meet_accounts.Goals as goal

pub returns : goal.returns
returns c = accounts_met

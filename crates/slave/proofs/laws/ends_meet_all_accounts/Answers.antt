use Rattle.slave.proofs.AccountedAll.{all_accounts_met}
use Rattle.slave.proofs.laws.ends_meet_all_accounts.Goals as goal

pub returns : goal.returns
returns c = all_accounts_met

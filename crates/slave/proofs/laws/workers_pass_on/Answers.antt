use Rattle.slave.proofs.Passing.{workers_pass_on as passed_on}
use Rattle.slave.proofs.laws.workers_pass_on.Goals as goal

pub returns : goal.returns
returns c = passed_on

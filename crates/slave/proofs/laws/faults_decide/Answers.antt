use Rattle.slave.proofs.Schedules.{faults_decide}
use Rattle.slave.proofs.laws.faults_decide.Goals as goal

pub returns : goal.returns
returns c = faults_decide

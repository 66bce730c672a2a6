use Rattle.slave.specs.Given.{sent_from}
use Rattle.slave.proofs.Direct.{keeps_all}
use Rattle.slave.proofs.job.SlaveJob.is_dead.Goals as goal

pub returns : goal.returns
returns g c = λ out o L k. c.is_given_up.ensures out o (sent_from 0 L) (keeps_all k)

use Rattle.slave.specs.Given.{sent_from}
use Rattle.slave.proofs.Direct.{keeps_all, ended_direct}
use Rattle.slave.proofs.job.SlaveJob.finish_direct.Goals as goal

pub finish_all-requires : goal.finish_all-requires
finish_all-requires g c = (c.requires.0, c.requires.1, sent_from 0 c.requires.2, keeps_all c.requires.3)

pub returns-clause-ended : goal.returns-clause-ended
returns-clause-ended g c = λ out o L k. ended_direct (c.finish_all.ensures.ended out o (sent_from 0 L) (keeps_all k))

pub returns-clause-given_up : goal.returns-clause-given_up
returns-clause-given_up g c = λ out o L k dead. c.finish_all.ensures.given_up out o (sent_from 0 L) (keeps_all k) dead

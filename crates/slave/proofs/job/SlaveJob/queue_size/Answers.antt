use Rattle.std.proofs.Common.{None}
use Rattle.slave.proofs.job.SlaveJob.queue_size.Goals as goal

pub returns : goal.returns
returns g c = λ out o T k. c.queue_size.ensures o k.history None k.stands.shows

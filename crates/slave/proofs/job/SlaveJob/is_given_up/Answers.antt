use Rattle.std.proofs.Common.{None}
use Rattle.slave.proofs.job.SlaveJob.is_given_up.Goals as goal

pub returns : goal.returns
returns g c = λ out o T k. c.is_dead.ensures o k.history None k.stands.shows

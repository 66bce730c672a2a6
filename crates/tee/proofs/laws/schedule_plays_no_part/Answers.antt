use Rattle.tee.proofs.Schedules.{plays_no_part}
use Rattle.tee.proofs.laws.schedule_plays_no_part.Goals as goal

pub returns : goal.returns
returns c = plays_no_part c.faults_decide.ensures

use Rattle.slave.proofs.TurnAt as law
use Rattle.slave.proofs.work_laws.turns_are_exact.Goals as goal

pub returns : goal.returns
returns c = law.turns_are_exact

use Rattle.slave.proofs.Sound.{sound_ends}
use Rattle.slave.proofs.laws.sound_never_fails.Goals as goal

pub returns : goal.returns
returns c = sound_ends

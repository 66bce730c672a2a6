use Rattle.interleaver.proofs.Steps.{emitted_begins}
use Rattle.interleaver.proofs.laws.emitted_only_grows.Goals as goal

pub returns : goal.returns
returns c = emitted_begins

use Rattle.interleaver.proofs.Steps.{nothing_carried}
use Rattle.interleaver.proofs.Interleaver.new.Goals as goal

pub returns-clause-carries : goal.returns-clause-carries
returns-clause-carries c = rw (c.new.ensures.items, c.new-2.ensures.items) (nothing_carried c.args.streams c.args.delta_us c.requires.some c.requires.most)

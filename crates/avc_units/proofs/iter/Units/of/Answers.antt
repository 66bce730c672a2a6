use Rattle.avc_units.proofs.UnitsLemmas.{valid_whole}
use Rattle.avc_units.proofs.iter.Units.of.Goals as goal

pub invariant_of-result-clause-whole : goal.invariant_of-result-clause-whole
invariant_of-result-clause-whole c = valid_whole c.args.length_size c.args.payload.now c.requires.valid

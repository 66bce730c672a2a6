use Rattle.rmx_media.proofs.AvcLemmas.{length_size}
use Rattle.bsf_chain.proofs.tests.left.Goals as goal

pub valid_units-requires-clause-low : goal.valid_units-requires-clause-low
valid_units-requires-clause-low c = (length_size c.in_ok-config.config c.in_ok-config.ensures.read).0

pub valid_units-requires-clause-high : goal.valid_units-requires-clause-high
valid_units-requires-clause-high c = (length_size c.in_ok-config.config c.in_ok-config.ensures.read).1

use Rattle.rmx_media.proofs.AvcLemmas.{length_size}
use Rattle.flv_demux.proofs.desk.is_valid.Goals as goal

pub valid_units-requires-clause-low : goal.valid_units-requires-clause-low
valid_units-requires-clause-low c = let r = rw c.in-Avc.is at c.requires in (length_size c.in-Avc.config r.read).0

pub valid_units-requires-clause-high : goal.valid_units-requires-clause-high
valid_units-requires-clause-high c = let r = rw c.in-Avc.is at c.requires in (length_size c.in-Avc.config r.read).1

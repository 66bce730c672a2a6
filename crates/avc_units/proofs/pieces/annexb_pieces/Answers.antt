use Rattle.std.proofs.Common.{ap, ◌∙◌}
use Rattle.rmx_media.specs.Units.{annexb}
use Rattle.avc_units.specs.Placed.{left_of}
use Rattle.avc_units.proofs.PiecesLemmas.{concat-pieces_of}
use Rattle.avc_units.proofs.pieces.annexb_pieces.Goals as goal

pub returns-clause-whole : goal.returns-clause-whole
returns-clause-whole c = concat-pieces_of (left_of c.of.result) ∙ ap annexb c.of.ensures

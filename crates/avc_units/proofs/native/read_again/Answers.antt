use Rattle.avc_units.proofs.NativeLemmas.{units_back, valid_back}
use Rattle.avc_units.proofs.native.read_again.Goals as goal

pub returns : goal.returns
returns c = λ width units low high short filled. (units_back width units low high short filled, λ some. valid_back width units low high short filled some)

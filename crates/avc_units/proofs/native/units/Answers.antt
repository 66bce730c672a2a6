use Rattle.std.proofs.Common.{List, ℕ, subst, sym}
use Rattle.rmx_media.specs.Units.{AreFilled}
use Rattle.avc_units.proofs.ShortLemmas.{units_filled}
use Rattle.avc_units.proofs.native.units.Goals as goal

pub returns-clause-filled : goal.returns-clause-filled
returns-clause-filled c = subst (λ (us : List (List ℕ)). AreFilled us) (sym c.of.ensures) (units_filled c.args.length_size c.args.payload.now)

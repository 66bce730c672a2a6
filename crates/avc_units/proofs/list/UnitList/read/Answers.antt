use Rattle.std.proofs.Common.{List, ℕ, subst, sym, arith}
use Rattle.rmx_media.proofs.AvcLemmas.{length_size}
use Rattle.rmx_media.specs.Units.{AreFilled}
use Rattle.avc_units.specs.UnitList.{AreShort}
use Rattle.avc_units.proofs.ShortLemmas.{units_short, units_filled}
use Rattle.avc_units.proofs.list.UnitList.read.Goals as goal

pub returns-in-Ok-clause-short : goal.returns-in-Ok-clause-short
returns-in-Ok-clause-short c =
    subst (λ (us : List (List ℕ)). AreShort c.args.config.now.length_size us) (sym c.in-Ok.ensures)
    (units_short c.args.config.now.length_size c.args.payload.now (length_size c.args.config.now c.requires.config.read).1 (λ i. omega (arith, c.type_inv.payload i)))

pub returns-in-Ok-clause-filled : goal.returns-in-Ok-clause-filled
returns-in-Ok-clause-filled c =
    subst (λ (us : List (List ℕ)). AreFilled us) (sym c.in-Ok.ensures) (units_filled c.args.config.now.length_size c.args.payload.now)

use Rattle.std.proofs.Common.{◌≡◌, ◌+◌, ◌*◌, ◌/◌, rules}
use Rattle.std.specs.Prelude.{unsigned_abs, FitsSigned}
use Rattle.std.specs.Int.{w64}
use Rattle.std.proofs.lemmas.Int.{to_z-of_z}
use mir.Val.{to_z, of_z}
use Rattle.rmx_media.proofs.TimeLemmas.{none_left}
use Rattle.rmx_media.proofs.time.rescale.Goals as goal

pub returns-clause-none : goal.returns-clause-none
returns-clause-none c =
    let fits : FitsSigned w64 c.args.a = search rules in
    let same : to_z w64 (of_z w64 c.args.a) ≡ c.args.a = to_z-of_z w64 c.args.a fits in
    let size : c.divided.result ≡ (2 * (unsigned_abs c.args.a * c.args.b) + c.args.c) / (2 * c.args.c) =
    cc (c.divided.ensures.value, c.from.ensures, c.from-2.ensures, c.unsigned_abs.ensures.value) in
    none_left c.signed.result c.args.a (to_z w64 (of_z w64 c.args.a)) c.args.b c.args.c c.divided.result same c.requires size c.signed.ensures

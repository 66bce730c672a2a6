use Rattle.std.proofs.Common.{◌≡◌, ◌^◌, ◌-◌, ◌≤◌, ap, ◌∙◌, arith, rules, lit<}
use Rattle.std.specs.Prelude.{pos, ◌*ℤ◌, FitsSigned, unsigned_abs}
use Rattle.std.specs.Int.{w64, w128}
use Rattle.std.proofs.lemmas.Int.{to_z-of_z, fits_signed_mul, ints}
use mir.Val.{to_z, of_z}
use Rattle.rmx_media.proofs.time.scaled.Goals as goal

pub returns : goal.returns
returns c =
    let fits_s : FitsSigned w64 c.args.a = search rules in
    let a : to_z w64 (of_z w64 c.args.a) ≡ c.args.a = to_z-of_z w64 c.args.a fits_s in
    let fits_a : FitsSigned w128 c.from.result = search rules in
    let fits_b : FitsSigned w128 c.from-2.result = search rules in
    let x : to_z w128 (of_z w128 c.from.result) ≡ c.from.result = to_z-of_z w128 c.from.result fits_a in
    let y : to_z w128 (of_z w128 c.from-2.result) ≡ c.from-2.result = to_z-of_z w128 c.from-2.result fits_b in
    let size : unsigned_abs c.args.a ≤ 2 ^ 63 = omega (arith, ints) in
    let whole : to_z w128 (of_z w128 c.from.result) *ℤ to_z w128 (of_z w128 c.from-2.result) ≡ c.args.a *ℤ pos c.args.factor = cc (c.from.ensures, c.from-2.ensures) in
    let fits : FitsSigned w128 (c.args.a *ℤ pos c.args.factor) =
    fits_signed_mul w128 c.args.a (pos c.args.factor) (2 ^ 63) (2 ^ 64 - 1) size (omega arith) (lit< tt) in
    ap (λ z. to_z w128 (of_z w128 z)) whole ∙ to_z-of_z w128 (c.args.a *ℤ pos c.args.factor) fits

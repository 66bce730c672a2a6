use Rattle.std.proofs.Common.{rules}
use Rattle.std.specs.Int.{w32, w64}
use mir.Val.{SFits}
use Rattle.flv_mux.proofs.Stamps.{stamp_is}
use Rattle.flv_mux.proofs.tags.stamp_of.Goals as goal

pub returns : goal.returns
returns c =
    let rest : SFits w64 c.rem_euclid.result = search rules in
    let stamp : SFits w32 c.cast_signed.result = search rules in
    stamp_is c.args.time c.rem_euclid.result c.cast_signed.result c.unsigned_abs-low.result c.ranges.time rest stamp
    c.rem_euclid.ensures.value c.unsigned_abs-low.ensures.value c.cast_signed.ensures

use Rattle.std.proofs.Common.{◌≡◌, arith, true}
use Rattle.std.proofs.lemmas.Int.{ints}
use Rattle.flv_demux.specs.Deal.{is_valid}
use Rattle.flv_demux.proofs.Sound.{sound_packet}
use Rattle.flv_demux.proofs.desk.media_outcome_of.Goals as goal

pub returns-in_ok-copy-in-Some-clause-sound : goal.returns-in_ok-copy-in-Some-clause-sound
returns-in_ok-copy-in-Some-clause-sound c =
    let k = rw c.in-Some.is at c.requires.seen.force in
    let v : is_valid c.in-Some.config c.args.media.payload ≡ true = cc (c.is_valid.ensures, c.as_slice.ensures, c.if-not-is_valid.false) in
    sound_packet c.args.media.kind c.args.stream c.dts_of-dts.result c.pts_of-pts.result _ _ c.args.media.composition c.args.media.key c.args.media.payload c.in-Some.config c.in_ok-copy-in-Some.field-0 c.args.seen.now.version
    k c.in_ok-copy-in-Some.ensures c.requires.media v (omega (arith, ints)) (omega (arith, ints)) c.dts_of-dts.ensures.low c.dts_of-dts.ensures.high c.pts_of-pts.ensures.early c.pts_of-pts.ensures.late

use Rattle.std.proofs.Common.{Some, [], ◌∷◌, ◌++◌, refl, arith, length-append}
use Rattle.std.specs.Prelude.{string_bytes}
use Rattle.rmx_edge.specs.Counted.{with_count}
use Rattle.rmx_edge.specs.MemShelf.{state_of}
use Rattle.rmx_media.specs.declared.packet.Format.TheVariants as format
use Rattle.slave.specs.Origin.{Origin}
use Rattle.slave.specs.Table.{Takes}
use Rattle.slave.proofs.tests.segmented.Goals as goal

pub loop-time-init : goal.loop-time-init
loop-time-init c =
    let out : Origin = record { shelf = with_count (state_of c.args.shelf) 0 0; name = string_bytes c.in_ok-name.name; format = format.Segment; seg = Some c.in_ok-seg.seg; streams = c.in_ok-streams.streams } in
    (out, _, [], c.start.ensures out _ c.in-Ok.ensures.fresh, refl, refl, c.in_ok-seg.ensures, c.in_ok-streams.ensures.1)

pub loop-time-preserved : goal.loop-time-preserved
loop-time-preserved c =
    let k = c.loop-time.invariant in
    let p = c.in_ok-p.p in
    let takes : Takes k.0 p = rw k.6 (c.in_ok-p.ensures k.0.streams k.7) in (
      k.0,
      k.1,
      k.2 ++ p ∷ [],
      (c.write_direct.ensures k.0 k.1 k.2 k.3 k.4 takes).keeps,
      omega (arith, length-append k.2 (p ∷ []), k.4),
      omega (arith, k.5),
      k.6,
      k.7,
    )

pub write_direct-requires-clause-ready : goal.write_direct-requires-clause-ready
write_direct-requires-clause-ready c =
    let k = c.loop-time.invariant in
    let takes : Takes k.0 c.in_ok-p.p = rw k.6 (c.in_ok-p.ensures k.0.streams k.7) in
    (k.0, k.1, k.2, k.3, k.4, takes)

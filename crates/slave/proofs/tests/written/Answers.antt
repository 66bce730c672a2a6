use Rattle.std.proofs.Common.{[], ◌∷◌, ◌++◌, None, refl, arith, length-append}
use Rattle.std.specs.Prelude.{string_bytes}
use Rattle.rmx_edge.specs.Counted.{with_count}
use Rattle.slave.specs.Origin.{Origin}
use Rattle.slave.specs.Table.{Takes}
use Rattle.slave.proofs.Samples.{takes_sample}
use Rattle.slave.proofs.tests.written.Goals as goal

pub loop-time-init : goal.loop-time-init
loop-time-init g c =
    let out : Origin = record { shelf = with_count (g.S.Shelf.state c.args.shelf) 0 0; name = string_bytes c.in_ok-name.name; format = c.format.result; seg = None; streams = c.in_ok-streams.streams } in
    (out, c.args.options, [], c.start.ensures out c.args.options c.in-Ok.ensures.fresh, refl, refl, c.format.ensures.format, c.in_ok-streams.ensures.1)

pub loop-time-preserved : goal.loop-time-preserved
loop-time-preserved g c =
    let k = c.loop-time.invariant in
    let p = c.in_ok-p.p in
    let takes : Takes k.0 p = takes_sample c.args.kind k.0 p k.6 (c.in_ok-p.ensures k.0.streams k.7) in (
      k.0,
      k.1,
      k.2 ++ p ∷ [],
      (c.write_direct.ensures k.0 k.1 k.2 k.3 k.4 takes).keeps,
      omega (arith, length-append k.2 (p ∷ []), k.4),
      omega (arith, k.5),
      k.6,
      k.7,
    )

pub write_direct-requires-clause-ready : goal.write_direct-requires-clause-ready
write_direct-requires-clause-ready g c =
    let k = c.loop-time.invariant in
    (k.0, k.1, k.2, k.3, k.4, takes_sample c.args.kind k.0 c.in_ok-p.p k.6 (c.in_ok-p.ensures k.0.streams k.7))

use Rattle.std.proofs.Common.{Option, subst}
use Rattle.tee.specs.LaneKits.{IsKitOf}
use Rattle.tee.specs.declared.lanes.LaneKit.{LaneKit}
use Rattle.tee.proofs.RunOpening.{here_open, no_kit, some_kit}
use Rattle.tee.proofs.starting.open.Goals as goal

pub open_there-requires-clause-ready : goal.open_there-requires-clause-ready
open_there-requires-clause-ready g c κs within =
    let r = c.requires.ready in
    let k = some_kit r.0 r.2 c.in-Some.kit r.2.fifo.use_fifo (subst (λ (o : Option (LaneKit g.row.G.Denot)). IsKitOf r.0 r.2 o) c.in-Some.is r.3.lane) in
    (r.0, r.1, r.2, r.3.draft, k.1, k.0)

pub returns-in-None-clause-open : goal.returns-in-None-clause-open
returns-in-None-clause-open g c = λ infos script s b.
    here_open g.row.G.Denot g.S.Shelf.state infos script s c.args.shelf c.open.result _ (c.open.ensures infos script s b.draft)
    (no_kit g.row.G.Denot infos s s.fifo.use_fifo (subst (λ (o : Option (LaneKit g.row.G.Denot)). IsKitOf infos s o) c.in-None.is b.lane))

pub returns-in-Some-clause-open : goal.returns-in-Some-clause-open
returns-in-Some-clause-open g c = λ infos script s b.
    let k = some_kit infos s c.in-Some.kit s.fifo.use_fifo (subst (λ (o : Option (LaneKit g.row.G.Denot)). IsKitOf infos s o) c.in-Some.is b.lane) in
    c.open_there.ensures.open infos script s b.draft k.1 k.0

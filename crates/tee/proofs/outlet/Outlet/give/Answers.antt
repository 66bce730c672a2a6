use Rattle.std.proofs.Common.{subst, ◌+◌, false}
use Rattle.tee.specs.Attends.{Attends, HasLeft}
use Rattle.tee.specs.declared.outlet.Outlet.{Outlet}
use Rattle.tee.proofs.Attending.{here_gave, here_sits, there_gave}
use Rattle.tee.proofs.outlet.Outlet.give.Goals as goal

pub write_left-requires : goal.write_left-requires
write_left-requires g c =
    let r = c.requires.ready in
    let h = here_sits g.row.G.Denot g.S.Shelf.state r.0 r.1 r.2 r.3 r.4 c.in-Here.slave c.in-Here.field-1 c.in-Here.left
    (subst (λ (o : Outlet g.row.S.Denot g.row.G.Denot g.S.Shelf). Attends g.S.Shelf.state r.0 r.1 r.2 false r.3 r.4 o) c.in-Here.is r.5.0) in
    record { ready = (r.0, r.1, r.3, h.0, h.1, subst (λ (o : Outlet g.row.S.Denot g.row.G.Denot g.S.Shelf). HasLeft c.args.p.now r.3 o) c.in-Here.is r.5.2, r.6) }

pub returns-in-Here : goal.returns-in-Here
returns-in-Here g c = λ infos given asked seat track ready.
    here_gave g.row.G.Denot g.S.Shelf.state infos given asked (asked + 1) c.args.p.now seat track c.in-Here.slave c.write_left.new.slave c.in-Here.field-1 c.in-Here.left c.write_left.new.left
    (subst (λ (o : Outlet g.row.S.Denot g.row.G.Denot g.S.Shelf). Attends g.S.Shelf.state infos given asked false seat track o) c.in-Here.is ready.0)
    (λ h sits. c.write_left.ensures infos given seat h sits (subst (λ (o : Outlet g.row.S.Denot g.row.G.Denot g.S.Shelf). HasLeft c.args.p.now seat o) c.in-Here.is ready.2))

pub returns-in-There : goal.returns-in-There
returns-in-There g c = λ infos given asked seat track ready.
    there_gave g.row.G.Denot g.S.Shelf g.S.Shelf.state infos given asked (asked + 1) c.args.p.now seat track c.in-There.sender c.give.new.self c.in-There.field-1
    (subst (λ (o : Outlet g.row.S.Denot g.row.G.Denot g.S.Shelf). Attends g.S.Shelf.state infos given asked false seat track o) c.in-There.is ready.0) c.give.ensures.same
    (λ told r. c.give.ensures.rides infos given asked seat told c.args.p.now r (subst (λ (o : Outlet g.row.S.Denot g.row.G.Denot g.S.Shelf). HasLeft c.args.p.now seat o) c.in-There.is ready.2))

use Rattle.std.proofs.Common.{refl, subst, length, true}
use Rattle.tee.specs.Attends.{Attends}
use Rattle.tee.specs.declared.outlet.Outlet.{Outlet}
use Rattle.tee.proofs.Closing.{here_ends, here_sat, there_ends, there_rode}
use Rattle.tee.proofs.outlet.Outlet.finish.Goals as goal

pub finish-end-requires : goal.finish-end-requires
finish-end-requires g c =
    let r = c.requires.ready in
    let h = here_sat g.row.G.Denot g.S.Shelf.state r.0 r.1 (length r.1) r.2 r.3 c.in-Here.slave c.in-Here.inline c.in-Here.field-2
    (subst (λ (o : Outlet g.row.S.Denot g.row.G.Denot g.S.Shelf). Attends g.S.Shelf.state r.0 r.1 (length r.1) true r.2 r.3 o) c.in-Here.is r.4) in
    record { ready = (r.0, r.1, r.2, h.0, h.1) }

pub returns-in-Here-clause-ends : goal.returns-in-Here-clause-ends
returns-in-Here-clause-ends g c = λ infos given seat track a.
    here_ends g.row.G.Denot g.S.Shelf.state infos given (length given) seat track c.in-Here.slave c.in-Here.inline c.in-Here.field-2 c.finish-end.result _
    (subst (λ (o : Outlet g.row.S.Denot g.row.G.Denot g.S.Shelf). Attends g.S.Shelf.state infos given (length given) true seat track o) c.in-Here.is a)
    (λ h sits. c.finish-end.ensures infos given seat h sits) refl

pub join-requires : goal.join-requires
join-requires g c =
    let r = c.requires.ready in
    let t = there_rode g.row.G.Denot g.S.Shelf g.S.Shelf.state r.0 r.1 (length r.1) r.2 r.3 c.in-There.sender c.in-There.running
    (subst (λ (o : Outlet g.row.S.Denot g.row.G.Denot g.S.Shelf). Attends g.S.Shelf.state r.0 r.1 (length r.1) true r.2 r.3 o) c.in-There.is r.4) in
    record { ready = (r.0, r.1, r.2, t.0, t.1, t.2) }

pub returns-clause-ends : goal.returns-clause-ends
returns-clause-ends g c = λ infos given seat track a.
    there_ends g.row.G.Denot g.S.Shelf g.S.Shelf.state infos given seat track c.in-There.sender c.in-There.running c.join.result.0 c.join.result.1
    (subst (λ (o : Outlet g.row.S.Denot g.row.G.Denot g.S.Shelf). Attends g.S.Shelf.state infos given (length given) true seat track o) c.in-There.is a)
    (λ told r st. c.join.ensures.ends infos given seat told r st)

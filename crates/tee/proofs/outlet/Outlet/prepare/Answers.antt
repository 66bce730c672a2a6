use Rattle.std.proofs.Common.{subst, false}
use Rattle.tee.specs.Attends.{Attends}
use Rattle.tee.specs.declared.outlet.Outlet.{Outlet}
use Rattle.tee.proofs.Attending.{here_placed, here_same, there_placed, there_same}
use Rattle.tee.proofs.outlet.Outlet.prepare.Goals as goal

pub returns-in-Ok-clause-same : goal.returns-in-Ok-clause-same
returns-in-Ok-clause-same g c = λ infos given asked seat track a.
    here_same g.row.G.Denot g.S.Shelf.state infos given asked seat track c.in-Here.slave c.in-Here.field-1 c.in-Here.left _
    (subst (λ (o : Outlet g.row.S.Denot g.row.G.Denot g.S.Shelf). Attends g.S.Shelf.state infos given asked false seat track o) c.in-Here.is a)

pub returns-in-Ok-clause-ready : goal.returns-in-Ok-clause-ready
returns-in-Ok-clause-ready g c = λ infos given asked seat track are i a.
    let here = subst (λ (o : Outlet g.row.S.Denot g.row.G.Denot g.S.Shelf). Attends g.S.Shelf.state infos given asked false seat track o) c.in-Here.is a in (
      here_same g.row.G.Denot g.S.Shelf.state infos given asked seat track c.in-Here.slave c.in-Here.field-1 c.in-Here.left _ here,
      tt,
      c.in-Ok.ensures infos seat are (here_placed g.row.G.Denot g.S.Shelf.state infos given asked seat track c.in-Here.slave c.in-Here.field-1 c.in-Here.left here) i,
    )

pub returns-in-Ok-prepare-clause-same : goal.returns-in-Ok-prepare-clause-same
returns-in-Ok-prepare-clause-same g c = λ infos given asked seat track a.
    there_same g.row.G.Denot g.S.Shelf g.S.Shelf.state infos given asked seat track c.in-There.sender c.prepare.new.self c.in-There.field-1
    (subst (λ (o : Outlet g.row.S.Denot g.row.G.Denot g.S.Shelf). Attends g.S.Shelf.state infos given asked false seat track o) c.in-There.is a) c.prepare.ensures.same
    (λ told r. c.prepare.ensures.rides infos given asked seat told r)

pub returns-in-Err-prepare-clause-same : goal.returns-in-Err-prepare-clause-same
returns-in-Err-prepare-clause-same g c = λ infos given asked seat track a.
    there_same g.row.G.Denot g.S.Shelf g.S.Shelf.state infos given asked seat track c.in-There.sender c.prepare.new.self c.in-There.field-1
    (subst (λ (o : Outlet g.row.S.Denot g.row.G.Denot g.S.Shelf). Attends g.S.Shelf.state infos given asked false seat track o) c.in-There.is a) c.prepare.ensures.same
    (λ told r. c.prepare.ensures.rides infos given asked seat told r)

pub returns-in-Ok-prepare-clause-ready : goal.returns-in-Ok-prepare-clause-ready
returns-in-Ok-prepare-clause-ready g c = λ infos given asked seat track are i a.
    let there = subst (λ (o : Outlet g.row.S.Denot g.row.G.Denot g.S.Shelf). Attends g.S.Shelf.state infos given asked false seat track o) c.in-There.is a in (
      there_same g.row.G.Denot g.S.Shelf g.S.Shelf.state infos given asked seat track c.in-There.sender c.prepare.new.self c.in-There.field-1 there c.prepare.ensures.same
          (λ told r. c.prepare.ensures.rides infos given asked seat told r),
      c.in-Ok-prepare.ensures.place,
      c.in-Ok-prepare.ensures.left infos seat are (there_placed g.row.G.Denot g.S.Shelf g.S.Shelf.state infos given asked seat track c.in-There.sender c.in-There.field-1 there) i,
    )

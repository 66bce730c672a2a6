use Rattle.std.proofs.Common.{sym, subst, ◌+◌, false}
use Rattle.tee.specs.Attends.{Attends, AttendsOn}
use Rattle.tee.specs.declared.outlet.Outlet.{Outlet}
use Rattle.tee.proofs.Attending.{here_on, there_on}
use Rattle.tee.proofs.outlet.Outlet.ask.Goals as goal

pub returns-in-Here : goal.returns-in-Here
returns-in-Here g c = λ infos given asked seat track a.
    subst (λ (o : Outlet g.row.S.Denot g.row.G.Denot g.S.Shelf). AttendsOn g.S.Shelf.state infos given (asked + 1) (asked + 1) seat track o) (sym c.in-Here.is)
    (here_on g.row.G.Denot g.S.Shelf.state infos given asked (asked + 1) seat track c.in-Here.field-0 c.in-Here.field-1 c.in-Here.field-2
    (subst (λ (o : Outlet g.row.S.Denot g.row.G.Denot g.S.Shelf). Attends g.S.Shelf.state infos given asked false seat track o) c.in-Here.is a))

pub returns-in-There : goal.returns-in-There
returns-in-There g c = λ infos given asked seat track a.
    there_on g.row.G.Denot g.S.Shelf g.S.Shelf.state infos given asked seat track c.in-There.sender c.ask.new.self c.in-There.field-1
    (subst (λ (o : Outlet g.row.S.Denot g.row.G.Denot g.S.Shelf). Attends g.S.Shelf.state infos given asked false seat track o) c.in-There.is a) c.ask.ensures.same
    (λ told r. c.ask.ensures.rides infos given asked seat told r)

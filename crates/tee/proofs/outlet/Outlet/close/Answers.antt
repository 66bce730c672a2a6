use Rattle.std.proofs.Common.{sym, subst, true, false}
use Rattle.tee.specs.Attends.{Attends}
use Rattle.tee.specs.declared.outlet.Outlet.{Outlet}
use Rattle.tee.proofs.Closing.{here_shut, there_open, there_shut}
use Rattle.tee.proofs.outlet.Outlet.close.Goals as goal

pub close-requires : goal.close-requires
close-requires g c =
    let r = c.requires.ready in
    record {
      unclosed = there_open g.row.G.Denot g.S.Shelf g.S.Shelf.state r.0 r.1 r.2 r.3 r.4 c.in-There.sender c.in-There.field-1
          (subst (λ (o : Outlet g.row.S.Denot g.row.G.Denot g.S.Shelf). Attends g.S.Shelf.state r.0 r.1 r.2 false r.3 r.4 o) c.in-There.is r.5);
    }

pub returns-in-Here : goal.returns-in-Here
returns-in-Here g c = λ infos given asked seat track a.
    subst (λ (o : Outlet g.row.S.Denot g.row.G.Denot g.S.Shelf). Attends g.S.Shelf.state infos given asked true seat track o) (sym c.in-Here.is)
    (here_shut g.row.G.Denot g.S.Shelf.state infos given asked seat track c.in-Here.field-0 c.in-Here.field-1 c.in-Here.field-2
    (subst (λ (o : Outlet g.row.S.Denot g.row.G.Denot g.S.Shelf). Attends g.S.Shelf.state infos given asked false seat track o) c.in-Here.is a))

pub returns-in-There : goal.returns-in-There
returns-in-There g c = λ infos given asked seat track a.
    there_shut g.row.G.Denot g.S.Shelf g.S.Shelf.state infos given asked seat track c.in-There.sender c.close.new.self c.in-There.field-1
    (subst (λ (o : Outlet g.row.S.Denot g.row.G.Denot g.S.Shelf). Attends g.S.Shelf.state infos given asked false seat track o) c.in-There.is a) c.close.ensures

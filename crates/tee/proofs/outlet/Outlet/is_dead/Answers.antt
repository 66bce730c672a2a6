use Rattle.std.proofs.Common.{subst, false}
use Rattle.tee.specs.Attends.{Attends}
use Rattle.tee.specs.declared.outlet.Outlet.{Outlet}
use Rattle.tee.proofs.Attending.{here_says}
use Rattle.tee.proofs.outlet.Outlet.is_dead.Goals as goal

pub returns-in-Here : goal.returns-in-Here
returns-in-Here g c = λ infos given asked seat track a.
    here_says g.row.G.Denot g.S.Shelf.state infos given asked seat track c.in-Here.slave c.in-Here.field-1 c.in-Here.field-2 c.is_dead.result c.is_dead.ensures
    (subst (λ (o : Outlet g.row.S.Denot g.row.G.Denot g.S.Shelf). Attends g.S.Shelf.state infos given asked false seat track o) c.in-Here.is a)

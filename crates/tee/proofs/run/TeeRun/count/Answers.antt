use Rattle.std.proofs.Common.{◌+◌, Bool, List, false, sym, ◌∙◌, ap, subst}
use Rattle.tee.specs.Attends.{Attends}
use Rattle.tee.specs.Each.{Each3}
use Rattle.tee.specs.Keeps.{stopped_with}
use Rattle.tee.specs.declared.outlet.Outlet.{Outlet}
use Rattle.tee.proofs.run.TeeRun.count.Goals as goal

pub returns-clause-stopped : goal.returns-clause-stopped
returns-clause-stopped g c = λ infos given asked seats tracks a.
    c.stopped_at-self.ensures
    ∙ ap (λ (b : Bool). stopped_with c.args.self.now.stopped b (c.args.self.now.given + 1))
    (c.is_any_over-over.ensures infos given asked seats tracks
    (subst (λ (os : List (Outlet g.row.S.Denot g.row.G.Denot g.S.Shelf)). Each3 (Attends g.S.Shelf.state infos given asked false) seats tracks os) (sym c.as_slice.ensures.value) a))

use Rattle.std.proofs.Common.{List, false, true, length, sym, ◌∙◌, ap, subst}
use Rattle.std.specs.Vec.{vec_len}
use Rattle.tee.specs.Attends.{Attends}
use Rattle.tee.specs.Each.{Each3}
use Rattle.tee.specs.declared.outlet.Outlet.{Outlet}
use Rattle.tee.proofs.Slots.{written_whole}
use Rattle.tee.proofs.run_ending.close_all.Goals as goal

pub close_each-requires : goal.close_each-requires
close_each-requires g c =
    let r = c.requires.ready in
    let list = c.as_mut_slice.ensures.value in
    record { ready = (r.0, r.1, r.2, r.3, r.4, subst (λ (os : List (Outlet g.row.S.Denot g.row.G.Denot g.S.Shelf)). Each3 (Attends g.S.Shelf.state r.0 r.1 r.2 false) r.3 r.4 os) (sym list) r.5) }

pub returns-clause-attend : goal.returns-clause-attend
returns-clause-attend g c = λ infos given asked seats tracks a.
    let old = c.args.outlets.now in
    let new = c.close_each.new.outlets in
    let list = c.as_mut_slice.ensures.value in
    let len = c.as_mut_slice.ensures.len in
    let whole = written_whole (vec_len old) new old.items (c.close_each.auto.outlets ∙ len) (ap length (sym list) ∙ len) in
    subst (λ (os : List (Outlet g.row.S.Denot g.row.G.Denot g.S.Shelf)). Each3 (Attends g.S.Shelf.state infos given asked true) seats tracks os) (sym whole)
    (c.close_each.ensures infos given asked seats tracks (subst (λ (os : List (Outlet g.row.S.Denot g.row.G.Denot g.S.Shelf)). Each3 (Attends g.S.Shelf.state infos given asked false) seats tracks os) (sym list) a))

pub returns-clause-len : goal.returns-clause-len
returns-clause-len g c =
    let old = c.args.outlets.now in
    let new = c.close_each.new.outlets in
    let list = c.as_mut_slice.ensures.value in
    let len = c.as_mut_slice.ensures.len in
    ap length (written_whole (vec_len old) new old.items (c.close_each.auto.outlets ∙ len) (ap length (sym list) ∙ len)) ∙ c.close_each.auto.outlets ∙ ap length list

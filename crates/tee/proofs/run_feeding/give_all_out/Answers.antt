use Rattle.std.proofs.Common.{List, [], ◌∷◌, ◌++◌, ◌+◌, length, sym, ◌∙◌, ap, subst}
use Rattle.std.specs.Vec.{vec_len}
use Rattle.tee.specs.Attends.{AttendsOn, IsReady}
use Rattle.tee.specs.Each.{Each3}
use Rattle.tee.specs.declared.outlet.Outlet.{Outlet}
use Rattle.tee.proofs.Slots.{written_whole}
use Rattle.tee.proofs.run_feeding.give_all_out.Goals as goal

pub give_each-requires : goal.give_each-requires
give_each-requires g c =
    let r = c.requires.ready in
    let list = c.as_mut_slice.ensures.value in
    record { few = rw list c.requires.few; ready = (r.0, r.1, r.2, r.3, r.4, subst (λ (os : List (Outlet g.row.S.Denot g.row.G.Denot g.S.Shelf)). Each3 (IsReady g.S.Shelf.state r.0 r.1 r.2 c.args.p.now) r.3 r.4 os) (sym list) r.5, r.6) }

pub returns-clause-attend : goal.returns-clause-attend
returns-clause-attend g c = λ infos given asked seats tracks a.
    let old = c.args.outlets.now in
    let new = c.give_each.new.outlets in
    let list = c.as_mut_slice.ensures.value in
    let len = c.as_mut_slice.ensures.len in
    let whole = written_whole (vec_len old) new old.items (c.give_each.auto.outlets ∙ len) (ap length (sym list) ∙ len) in
    subst (λ (os : List (Outlet g.row.S.Denot g.row.G.Denot g.S.Shelf)). Each3 (AttendsOn g.S.Shelf.state infos (given ++ c.args.p.now ∷ []) asked (asked + 1)) seats tracks os) (sym whole)
    (c.give_each.ensures infos given asked seats tracks (subst (λ (os : List (Outlet g.row.S.Denot g.row.G.Denot g.S.Shelf)). Each3 (IsReady g.S.Shelf.state infos given asked c.args.p.now) seats tracks os) (sym list) a))

pub returns-clause-len : goal.returns-clause-len
returns-clause-len g c =
    let old = c.args.outlets.now in
    let new = c.give_each.new.outlets in
    let list = c.as_mut_slice.ensures.value in
    let len = c.as_mut_slice.ensures.len in
    let whole = written_whole (vec_len old) new old.items (c.give_each.auto.outlets ∙ len) (ap length (sym list) ∙ len) in
    ap length whole ∙ c.give_each.auto.outlets ∙ ap length list

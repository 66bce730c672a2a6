use Rattle.std.proofs.Common.{List, false, length, sym, ◌∙◌, ap, subst}
use Rattle.std.specs.Vec.{vec_len}
use Rattle.tee.specs.Attends.{Attends, IsReady}
use Rattle.tee.specs.Each.{Each3}
use Rattle.tee.specs.declared.outlet.Outlet.{Outlet}
use Rattle.tee.proofs.Slots.{written_whole}
use Rattle.tee.proofs.run_feeding.prepare_all.Goals as goal

pub returns-in-Ok-clause-same : goal.returns-in-Ok-clause-same
returns-in-Ok-clause-same g c = λ infos given asked seats tracks a.
    let old = c.args.outlets.now in
    let new = c.prepare_each.new.outlets in
    let list = c.as_mut_slice.ensures.value in
    let len = c.as_mut_slice.ensures.len in
    let whole = written_whole (vec_len old) new old.items (c.prepare_each.auto.outlets ∙ len) (ap length (sym list) ∙ len) in
    subst (λ (os : List (Outlet g.row.S.Denot g.row.G.Denot g.S.Shelf)). Each3 (Attends g.S.Shelf.state infos given asked false) seats tracks os) (sym whole) (c.prepare_each.ensures.same infos given asked seats tracks (subst (λ (os : List (Outlet g.row.S.Denot g.row.G.Denot g.S.Shelf)). Each3 (Attends g.S.Shelf.state infos given asked false) seats tracks os) (sym list) a))

pub returns-in-Err-clause-same : goal.returns-in-Err-clause-same
returns-in-Err-clause-same g c = λ infos given asked seats tracks a.
    let old = c.args.outlets.now in
    let new = c.prepare_each.new.outlets in
    let list = c.as_mut_slice.ensures.value in
    let len = c.as_mut_slice.ensures.len in
    let whole = written_whole (vec_len old) new old.items (c.prepare_each.auto.outlets ∙ len) (ap length (sym list) ∙ len) in
    subst (λ (os : List (Outlet g.row.S.Denot g.row.G.Denot g.S.Shelf)). Each3 (Attends g.S.Shelf.state infos given asked false) seats tracks os) (sym whole) (c.prepare_each.ensures.same infos given asked seats tracks (subst (λ (os : List (Outlet g.row.S.Denot g.row.G.Denot g.S.Shelf)). Each3 (Attends g.S.Shelf.state infos given asked false) seats tracks os) (sym list) a))

pub returns-in-Ok-clause-ready : goal.returns-in-Ok-clause-ready
returns-in-Ok-clause-ready g c = λ infos given asked seats tracks are i a.
    let old = c.args.outlets.now in
    let new = c.prepare_each.new.outlets in
    let list = c.as_mut_slice.ensures.value in
    let len = c.as_mut_slice.ensures.len in
    let whole = written_whole (vec_len old) new old.items (c.prepare_each.auto.outlets ∙ len) (ap length (sym list) ∙ len) in
    subst (λ (os : List (Outlet g.row.S.Denot g.row.G.Denot g.S.Shelf)). Each3 (IsReady g.S.Shelf.state infos given asked c.args.p.now) seats tracks os) (sym whole)
    (c.in-Ok.ensures.ready infos given asked seats tracks are i (subst (λ (os : List (Outlet g.row.S.Denot g.row.G.Denot g.S.Shelf)). Each3 (Attends g.S.Shelf.state infos given asked false) seats tracks os) (sym list) a))

pub returns-in-Ok-clause-len : goal.returns-in-Ok-clause-len
returns-in-Ok-clause-len g c =
    let old = c.args.outlets.now in
    let new = c.prepare_each.new.outlets in
    let list = c.as_mut_slice.ensures.value in
    let len = c.as_mut_slice.ensures.len in
    let whole = written_whole (vec_len old) new old.items (c.prepare_each.auto.outlets ∙ len) (ap length (sym list) ∙ len) in
    ap length whole ∙ c.prepare_each.auto.outlets ∙ ap length list

pub returns-in-Err-clause-len : goal.returns-in-Err-clause-len
returns-in-Err-clause-len g c =
    let old = c.args.outlets.now in
    let new = c.prepare_each.new.outlets in
    let list = c.as_mut_slice.ensures.value in
    let len = c.as_mut_slice.ensures.len in
    let whole = written_whole (vec_len old) new old.items (c.prepare_each.auto.outlets ∙ len) (ap length (sym list) ∙ len) in
    ap length whole ∙ c.prepare_each.auto.outlets ∙ ap length list

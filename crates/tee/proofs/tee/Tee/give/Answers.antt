use Rattle.std.proofs.Common.{List, [], ◌∷◌, ◌++◌, length, refl, sym, ◌∙◌, ap, subst}
use Rattle.std.specs.Vec.{vec_len}
use Rattle.tee.specs.Sits.{AllSit, AllSitOn}
use Rattle.tee.specs.declared.output.TeeSlave.{TeeSlave}
use Rattle.tee.proofs.Slots.{written_whole}
use Rattle.tee.proofs.tee.Tee.give.Goals as goal

pub returns-clause-sit : goal.returns-clause-sit
returns-clause-sit g c = λ infos given seats histories a f.
    let old = c.args.self.now.slaves in
    let new = c.give_all.new.slaves in
    let list = c.as_mut_slice.ensures.value in
    let len = c.as_mut_slice.ensures.len in
    let whole = written_whole (vec_len old) new old.items (c.give_all.auto.slaves ∙ len) (ap length (sym list) ∙ len) in
    let sit = subst (λ (ts : List (TeeSlave g.row.S.Denot g.S.Shelf)). AllSit g.S.Shelf.state infos given seats histories ts) (sym list) a in
    subst (λ (ts : List (TeeSlave g.row.S.Denot g.S.Shelf)). AllSitOn g.S.Shelf.state infos (given ++ c.args.p.now ∷ []) seats histories ts) (sym whole)
    (c.give_all.ensures infos given seats histories sit f)

pub returns-clause-same : goal.returns-clause-same
returns-clause-same g c =
    let old = c.args.self.now.slaves in
    let new = c.give_all.new.slaves in
    let list = c.as_mut_slice.ensures.value in
    let len = c.as_mut_slice.ensures.len in
    record {
      len = ap length (written_whole (vec_len old) new old.items (c.give_all.auto.slaves ∙ len) (ap length (sym list) ∙ len)) ∙ c.give_all.auto.slaves ∙ ap length list;
      given = refl;
      stopped = refl;
      infos = refl;
      spare = refl;
      ends = refl;
    }

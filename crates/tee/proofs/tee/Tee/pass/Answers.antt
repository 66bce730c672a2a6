use Rattle.std.proofs.Common.{List, [], ◌∷◌, ◌++◌, length, refl, sym, ◌∙◌, ap, subst}
use Rattle.std.specs.Vec.{vec_len}
use Rattle.tee.specs.Each.{Each3}
use Rattle.tee.specs.Sits.{AllSitOn, Passes}
use Rattle.tee.specs.declared.output.TeeSlave.{TeeSlave}
use Rattle.tee.proofs.Passing.{all_pass, all_passed}
use Rattle.tee.proofs.Slots.{written_whole}
use Rattle.tee.proofs.tee.Tee.pass.Goals as goal

pub pass_all-requires : goal.pass_all-requires
pass_all-requires g c =
    let r = c.requires.ready in
    let p = c.args.p.now in
    let passes = all_pass g.S.Shelf.state r.0 r.1 p r.2 r.3 c.args.self.now.slaves.items r.5 c.requires.plain r.4 in
    record {
      number = c.requires.number;
      ready = (r.0, r.1, r.2, r.3, subst (λ (ts : List (TeeSlave g.row.S.Denot g.S.Shelf)). Each3 (Passes g.S.Shelf.state r.0 r.1 p) r.2 r.3 ts) (sym c.as_mut_slice.ensures.value) passes, r.6);
    }

pub returns-clause-sit : goal.returns-clause-sit
returns-clause-sit g c = λ infos given seats histories a i.
    let old = c.args.self.now.slaves in
    let new = c.pass_all.new.slaves in
    let p = c.args.p.now in
    let list = c.as_mut_slice.ensures.value in
    let len = c.as_mut_slice.ensures.len in
    let whole = written_whole (vec_len old) new old.items (c.pass_all.auto.slaves ∙ len) (ap length (sym list) ∙ len) in
    let passes = subst (λ (ts : List (TeeSlave g.row.S.Denot g.S.Shelf)). Each3 (Passes g.S.Shelf.state infos given p) seats histories ts) (sym list)
    (all_pass g.S.Shelf.state infos given p seats histories old.items i c.requires.plain a) in
    subst (λ (ts : List (TeeSlave g.row.S.Denot g.S.Shelf)). AllSitOn g.S.Shelf.state infos (given ++ p ∷ []) seats histories ts) (sym whole)
    (all_passed g.S.Shelf.state infos (given ++ p ∷ []) seats histories new (c.pass_all.ensures infos given seats histories passes))

pub returns-clause-same : goal.returns-clause-same
returns-clause-same g c =
    let old = c.args.self.now.slaves in
    let new = c.pass_all.new.slaves in
    let list = c.as_mut_slice.ensures.value in
    let len = c.as_mut_slice.ensures.len in
    record {
      len = ap length (written_whole (vec_len old) new old.items (c.pass_all.auto.slaves ∙ len) (ap length (sym list) ∙ len)) ∙ c.pass_all.auto.slaves ∙ ap length list;
      given = refl;
      stopped = refl;
      infos = refl;
      spare = refl;
      ends = refl;
    }

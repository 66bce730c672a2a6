use Rattle.std.proofs.Common.{◌≡◌, ◌∷◌, [], ◌++◌, List, length, sym, ap, subst, ◌∙◌, append_assoc, append-nil, arith}
use Rattle.std.specs.List.{AllZip}
use Rattle.std.specs.Vec.Iter.{into_iter_items}
use Rattle.std.proofs.lemmas.List.{nil_from_length}
use Rattle.slave.specs.declared.job.SlaveEnd.{SlaveEnd}
use Rattle.tee.specs.Sits.{AllSit}
use Rattle.tee.specs.declared.output.TeeSlave.{TeeSlave}
use Rattle.tee.proofs.Finish.{EndsFor, all_end, sits_among}
use Rattle.tee.proofs.Slots.{zip_append}
use Rattle.tee.proofs.ending.end_all.Goals as goal

pub finish-requires : goal.finish-requires
finish-requires g c =
    let r = c.requires.sit in
    let at = c.loop-slave in
    let x = c.in-Some.slave in
    let steps : into_iter_items at.slave-iterator ≡ x ∷ into_iter_items c.next.new.self = c.in-Some.ensures.steps.0 in
    let whole = rw steps at (at.invariant.whole ∙ c.into_iter-slave-iterator.ensures.into_iter_gives.0) in
    let n = sits_among g.S.Shelf.state r.0 r.1 r.2 r.3 at.yielded x (into_iter_items c.next.new.self)
    (subst (λ (ts : List (TeeSlave g.row.S.Denot g.S.Shelf)). AllSit g.S.Shelf.state r.0 r.1 r.2 r.3 ts) (sym whole) r.4) in
    record { ready = (r.0, r.1, n.0, n.1, n.2) }

pub loop-slave-preserved : goal.loop-slave-preserved
loop-slave-preserved g c =
    let at = c.loop-slave in
    let x = c.in-Some.slave in
    let steps : into_iter_items at.slave-iterator ≡ x ∷ into_iter_items c.next.new.self = c.in-Some.ensures.steps.0 in
    let was = at.invariant.left in
    let gone = c.in-Some.ensures.steps.1 in
    let short = ap length steps in
    let had = at.invariant.room in
    let spare = c.push.ensures.spare in
    record {
      whole = append_assoc at.yielded (x ∷ []) _ ∙ rw (← steps) at.invariant.whole;
      left = omega arith;
      room = omega arith;
      ended = subst (λ (es : List (SlaveEnd g.row.S.Denot)). AllZip (EndsFor g.S.Shelf.state) (at.yielded ++ x ∷ []) es) (sym c.push.ensures.items)
          (zip_append (EndsFor g.S.Shelf.state) at.yielded at.ends.items x c.finish.result at.invariant.ended (λ infos given s h sits. c.finish.ensures infos given s h sits));
    }

pub returns : goal.returns
returns g c = λ infos given seats histories a.
    let at = c.loop-slave in
    let none = c.in-None.ensures.steps in
    let empty : into_iter_items at.slave-iterator ≡ [] = nil_from_length _ (sym at.invariant.left ∙ none.0) in
    let all = sym (append-nil at.yielded) ∙ rw empty at at.invariant.whole ∙ c.into_iter-slave-iterator.ensures.into_iter_gives.0 in
    all_end g.S.Shelf.state infos given seats histories c.args.slaves.items at.ends.items a
    (subst (λ (ts : List (TeeSlave g.row.S.Denot g.S.Shelf)). AllZip (EndsFor g.S.Shelf.state) ts at.ends.items) all at.invariant.ended)

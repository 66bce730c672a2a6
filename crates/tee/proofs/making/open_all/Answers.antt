use Rattle.std.proofs.Common.{◌≡◌, ◌∷◌, [], List, length, false, refl, sym, ap, subst, ◌∙◌, append_assoc, append-nil, length-append, arith}
use Rattle.std.specs.Prelude.{All}
use Rattle.std.specs.List.{AllZip}
use Rattle.std.specs.Vec.Iter.{into_iter_items}
use Rattle.std.proofs.lemmas.Grind.{common_steps}
use Rattle.std.proofs.lemmas.List.{nil_from_length}
use Rattle.tee.specs.Draft.{IsDraft}
use Rattle.tee.specs.declared.draft.Draft.{Draft}
use Rattle.tee.proofs.Opening.{all_first, all_rest, more_open, none_open, zip_among}
use Rattle.tee.proofs.making.open_all.Goals as goal

pub loop-draft-init : goal.loop-draft-init
loop-draft-init g c =
    let gives = c.into_iter-draft-iterator.ensures.into_iter_gives in
    let items : into_iter_items c.into_iter-draft-iterator.result ≡ c.args.drafts.items = gives.0 in
    let len = ap length items in
    let none = ap length c.requires.none in
    record {
      whole = refl;
      left = grind (arith, common_steps);
      enough = omega arith;
      room = omega arith;
      len = none;
      idle = c.requires.idle;
      opened = λ infos script plans z. none_open g.S.Shelf.state infos script plans c.args.shelves.items c.args.slaves.items z c.requires.none;
    }

pub open-requires-clause-idle : goal.open-requires-clause-idle
open-requires-clause-idle g c =
    all_first (λ s. (g.S.Shelf.state s).writing ≡ false) c.take_first.result c.take_first.new.self.items
    (subst (λ (xs : List g.row.S.Denot). All (λ s. (g.S.Shelf.state s).writing ≡ false) xs) c.take_first.ensures.items c.loop-draft.invariant.idle)

pub open-requires-clause-ready : goal.open-requires-clause-ready
open-requires-clause-ready g c =
    let r = c.requires.drafts in
    let at = c.loop-draft in
    let x = c.in-Some.draft in
    let steps : into_iter_items at.draft-iterator ≡ x ∷ into_iter_items c.next.new.self = c.in-Some.ensures.steps.0 in
    let whole = rw steps at (at.invariant.whole ∙ c.into_iter-draft-iterator.ensures.into_iter_gives.0) in
    let n = zip_among (IsDraft r.0 r.1) r.2 at.yielded x (into_iter_items c.next.new.self) (subst (λ (ds : List Draft). AllZip (IsDraft r.0 r.1) r.2 ds) (sym whole) r.3) in
    (r.0, r.1, n.0, n.1)

pub loop-draft-preserved : goal.loop-draft-preserved
loop-draft-preserved g c =
    let at = c.loop-draft in
    let x = c.in-Some.draft in
    let steps : into_iter_items at.draft-iterator ≡ x ∷ into_iter_items c.next.new.self = c.in-Some.ensures.steps.0 in
    let was = at.invariant.left in
    let gone = c.in-Some.ensures.steps.1 in
    let short = ap length steps in
    let enough = at.invariant.enough in
    let room = at.invariant.room in
    let len = at.invariant.len in
    let taken = ap length c.take_first.ensures.items in
    let spare = c.push.ensures.spare in
    let pushed = ap length c.push.ensures.items in
    let more = length-append at.slaves.items (c.open.result ∷ []) in
    let yields = length-append at.yielded (x ∷ []) in
    record {
      whole = append_assoc at.yielded (x ∷ []) _ ∙ rw (← steps) at.invariant.whole;
      left = omega arith;
      enough = omega arith;
      room = omega arith;
      len = omega arith;
      idle = all_rest (λ s. (g.S.Shelf.state s).writing ≡ false) c.take_first.result c.take_first.new.self.items
          (subst (λ (xs : List g.row.S.Denot). All (λ s. (g.S.Shelf.state s).writing ≡ false) xs) c.take_first.ensures.items at.invariant.idle);
      opened = λ infos script plans z. rw c.push.ensures.items
          (more_open g.S.Shelf.state infos script plans at.yielded x c.args.shelves.items at.slaves.items c.take_first.result at.shelves.items c.take_first.new.self.items c.open.result z
          (at.invariant.opened infos script) c.take_first.ensures.items (c.open.ensures infos script));
    }

pub returns-clause-open : goal.returns-clause-open
returns-clause-open g c = λ infos script plans z.
    let at = c.loop-draft in
    let none = c.in-None.ensures.steps in
    let empty : into_iter_items at.draft-iterator ≡ [] = nil_from_length _ (sym at.invariant.left ∙ none.0) in
    let all = sym (append-nil at.yielded) ∙ rw empty at at.invariant.whole ∙ c.into_iter-draft-iterator.ensures.into_iter_gives.0 in
    at.invariant.opened infos script plans (subst (λ (ds : List Draft). AllZip (IsDraft infos script) plans ds) (sym all) z)

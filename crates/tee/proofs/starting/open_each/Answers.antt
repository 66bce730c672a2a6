use Rattle.std.proofs.Common.{◌≡◌, ◌∷◌, [], List, length, false, refl, sym, ap, subst, ◌∙◌, append_assoc, append-nil, length-append, arith}
use Rattle.std.specs.Prelude.{All}
use Rattle.std.specs.List.{AllZip}
use Rattle.std.specs.Vec.Iter.{into_iter_items}
use Rattle.std.proofs.lemmas.Grind.{common_steps}
use Rattle.std.proofs.lemmas.List.{nil_from_length}
use Rattle.tee.specs.Berths.{IsBerth}
use Rattle.tee.specs.declared.berth.Berth.{Berth}
use Rattle.tee.proofs.Opening.{all_first, all_rest, zip_among}
use Rattle.tee.proofs.RunOpening.{counted_more, more_open_on, none_counted, none_open_on}
use Rattle.tee.proofs.starting.open_each.Goals as goal

pub loop-berth-init : goal.loop-berth-init
loop-berth-init g c =
    let gives = c.into_iter-berth-iterator.ensures.into_iter_gives in
    let items : into_iter_items c.into_iter-berth-iterator.result ≡ c.args.berths.items = gives.0 in
    let len = ap length items in
    let none = ap length c.requires.none in
    record {
      whole = refl;
      left = grind (arith, common_steps);
      enough = omega arith;
      room = omega arith;
      few = omega arith;
      len = none;
      idle = c.requires.idle;
      counted = none_counted c.args.outlets.items (g.P.Spawner.refused c.args.spawner.now) c.requires.none;
      opened = λ infos script plans z. none_open_on g.S.Shelf.state infos script plans c.args.shelves.items c.args.outlets.items z c.requires.none;
    }

pub open-outlet-requires-clause-idle : goal.open-outlet-requires-clause-idle
open-outlet-requires-clause-idle g c κs within =
    all_first (λ s. (g.S.Shelf.state s).writing ≡ false) c.take_first.result c.take_first.new.self.items
    (subst (λ (xs : List g.row.S.Denot). All (λ s. (g.S.Shelf.state s).writing ≡ false) xs) c.take_first.ensures.items c.loop-berth.invariant.idle)

pub open-outlet-requires-clause-ready : goal.open-outlet-requires-clause-ready
open-outlet-requires-clause-ready g c κs within =
    let r = c.requires.berths in
    let at = c.loop-berth in
    let x = c.in-Some.berth in
    let steps : into_iter_items at.berth-iterator ≡ x ∷ into_iter_items c.next.new.self = c.in-Some.ensures.steps.0 in
    let whole = rw steps at (at.invariant.whole ∙ c.into_iter-berth-iterator.ensures.into_iter_gives.0) in
    let n = zip_among (IsBerth r.0 r.1) r.2 at.yielded x (into_iter_items c.next.new.self) (subst (λ (ds : List (Berth g.row.G.Denot)). AllZip (IsBerth r.0 r.1) r.2 ds) (sym whole) r.3) in
    (r.0, r.1, n.0, n.1)

pub loop-berth-preserved : goal.loop-berth-preserved
loop-berth-preserved g c =
    let at = c.loop-berth in
    let x = c.in-Some.berth in
    let steps : into_iter_items at.berth-iterator ≡ x ∷ into_iter_items c.next.new.self = c.in-Some.ensures.steps.0 in
    let was = at.invariant.left in
    let gone = c.in-Some.ensures.steps.1 in
    let short = ap length steps in
    let enough = at.invariant.enough in
    let room = at.invariant.room in
    let few = at.invariant.few in
    let len = at.invariant.len in
    let taken = ap length c.take_first.ensures.items in
    let spare = c.push.ensures.spare in
    let pushed = ap length c.push.ensures.items in
    let more = length-append at.outlets.items (c.open-outlet.result ∷ []) in
    let yields = length-append at.yielded (x ∷ []) in
    record {
      whole = append_assoc at.yielded (x ∷ []) _ ∙ rw (← steps) at.invariant.whole;
      left = omega arith;
      enough = omega arith;
      room = omega arith;
      few = omega arith;
      len = omega arith;
      idle = all_rest (λ s. (g.S.Shelf.state s).writing ≡ false) c.take_first.result c.take_first.new.self.items
          (subst (λ (xs : List g.row.S.Denot). All (λ s. (g.S.Shelf.state s).writing ≡ false) xs) c.take_first.ensures.items at.invariant.idle);
      counted = counted_more at.outlets.items c.push.new.self.items c.open-outlet.result (g.P.Spawner.refused c.args.spawner.now) (g.P.Spawner.refused at.spawner) (g.P.Spawner.refused c.open-outlet.new.spawner)
          c.push.ensures.items at.invariant.counted c.open-outlet.ensures.never_falls c.open-outlet.ensures.counted;
      opened = λ infos script plans z. rw c.push.ensures.items
          (more_open_on g.S.Shelf.state infos script plans at.yielded x c.args.shelves.items at.outlets.items c.take_first.result at.shelves.items c.take_first.new.self.items c.open-outlet.result z
          (at.invariant.opened infos script) c.take_first.ensures.items (c.open-outlet.ensures.open infos script));
    }

pub returns-clause-open : goal.returns-clause-open
returns-clause-open g c = λ infos script plans z.
    let at = c.loop-berth in
    let none = c.in-None.ensures.steps in
    let empty : into_iter_items at.berth-iterator ≡ [] = nil_from_length _ (sym at.invariant.left ∙ none.0) in
    let all = sym (append-nil at.yielded) ∙ rw empty at at.invariant.whole ∙ c.into_iter-berth-iterator.ensures.into_iter_gives.0 in
    at.invariant.opened infos script plans (subst (λ (ds : List (Berth g.row.G.Denot)). AllZip (IsBerth infos script) plans ds) (sym all) z)

pub returns-clause-len : goal.returns-clause-len
returns-clause-len g c =
    let at = c.loop-berth in
    let none = c.in-None.ensures.steps in
    let empty : into_iter_items at.berth-iterator ≡ [] = nil_from_length _ (sym at.invariant.left ∙ none.0) in
    let all = sym (append-nil at.yielded) ∙ rw empty at at.invariant.whole ∙ c.into_iter-berth-iterator.ensures.into_iter_gives.0 in
    at.invariant.len ∙ ap length all

use Rattle.lane.specs.declared.msg.Msg.{Msg}
use Rattle.lane.specs.declared.msg.Purpose.{Purpose}
use Rattle.std.proofs.Common.{rules, ap, subst, ◌∙◌, ℕ, List}
use Rattle.lane.specs.Sight.{Refusal}
use Rattle.lane.specs.Ends.{GiverEnd, TakerEnd, giver_in, taker_in}
use Rattle.lane.specs.Follows.{measure}
use Rattle.lane.specs.Tied.{at_rest, hand_free}
use Rattle.lane.specs.Told.{SawInTime, InOneOrder}
use Rattle.lane.proofs.Known.{joins_at, compares_at, joined_at, told_all, saw_in_time}
use Rattle.lane.proofs.lane.Lane.settle.Goals as goal

pub join_seat-requires : goal.join_seat-requires
join_seat-requires c = (search rules, search rules, search rules, search rules, joins_at _ _ _ _ _ _ _ _ _ (ap (λ m. m.0) c.giver.invariant.seated) (ap (λ m. m.0) c.taker.invariant.seated))

pub load-requires : goal.load-requires
load-requires c =
    (search rules, search rules, compares_at _ _ _ _ _ _ _ _ (ap (λ m. m.0) c.join_seat.ensures.2 ∙ joined_at _ _ _ _ (ap (λ m. m.0) c.giver.invariant.seated) (ap (λ m. m.0) c.taker.invariant.seated)))

pub returns-clause-numbers : goal.returns-clause-numbers
returns-clause-numbers c = let v = at_rest c.giver.inside.about.value (giver_in c.giver.inside.about.value c.giver.inside.seat.me.0.sight) in let w = hand_free c.taker.inside.about.value (taker_in c.taker.inside.about.value c.taker.inside.seat.me.0.sight) in
    let is = ap (λ m. m.0) c.join_seat.ensures.2 ∙ joined_at _ _ v w (ap (λ m. m.0) c.giver.invariant.seated) (ap (λ m. m.0) c.taker.invariant.seated) in
    let rs = ap (λ e. e.refusals) c.giver.view_is in let ns = ap (λ e. e.numbers) c.taker.view_is in
    subst (λ (z : List (Refusal Msg) × List (ℕ × ℕ)). SawInTime z.0 z.1) (λ i. (rs i, ns i)) (saw_in_time measure c.self.inside.table.shared.table_id.slots v w (told_all measure c.self.inside.table.shared.table_id.slots _ _ c.load.result v w is c.load.ensures.2))

pub returns-clause-order : goal.returns-clause-order
returns-clause-order c = let v = at_rest c.giver.inside.about.value (giver_in c.giver.inside.about.value c.giver.inside.seat.me.0.sight) in let w = hand_free c.taker.inside.about.value (taker_in c.taker.inside.about.value c.taker.inside.seat.me.0.sight) in
    let is = ap (λ m. m.0) c.join_seat.ensures.2 ∙ joined_at _ _ v w (ap (λ m. m.0) c.giver.invariant.seated) (ap (λ m. m.0) c.taker.invariant.seated) in
    let told = told_all measure c.self.inside.table.shared.table_id.slots _ _ c.load.result v w is c.load.ensures.2 in
    subst (λ (z : ℕ × GiverEnd Msg Purpose × TakerEnd Msg Purpose). InOneOrder measure z.0 z.1 z.2) (λ i. ((c.self.invariant.1 ∙ ap (λ l. l.cap) c.self.view_is) i, c.giver.view_is i, c.taker.view_is i)) told.4

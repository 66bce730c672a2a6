use Rattle.std.proofs.Common.{◌≡◌, ◌++◌, ◌∷◌, [], map, get_or, Some, arith, sym, ap₂, ◌∙◌, subst}
use Rattle.std.specs.Prelude.{take as front, slice_get}
use Rattle.std.proofs.lemmas.Option.{slice_get-get_or}
use Rattle.lane_core.specs.declared.event.LaneEvent.{LaneEvent}
use Rattle.lane_core.specs.declared.event.LaneEvent.TheVariants.{Offer}
use Rattle.lane_core.specs.Machine.{Bounds, start, final}
use Rattle.lane_core.specs.Shown.{event_of, Shows, DoesAs}
use Rattle.lane_core.proofs.Does.{reached_more, replies_more, few_more}
use Rattle.lane_core.proofs.Histories.{lawful}
use Rattle.lane_core.specs.Size.{size_of}
use Rattle.lane_core.proofs.run.run_events.Goals as goal

pub returns-in_err-state-clause-lawful : goal.returns-in_err-state-clause-lawful
returns-in_err-state-clause-lawful c = lawful size_of _ _

pub returns-in-Err-clause-lawful : goal.returns-in-Err-clause-lawful
returns-in-Err-clause-lawful c = lawful size_of _ _

pub returns-clause-lawful : goal.returns-clause-lawful
returns-clause-lawful c = lawful size_of _ _

pub loop-event-preserved : goal.loop-event-preserved
loop-event-preserved c = let b : Bounds = record { cap = c.args.cap; limit = c.args.limit } in let events = c.args.events.now in let i = c.loop-event.event-index in let e : LaneEvent = get_or events i (Offer 0 0) in
    let at : slice_get events i ≡ Some e = slice_get-get_or events i (Offer 0 0) c.loop-event-test.true in let m = final size_of b start (map event_of (front i events)) in let was = c.loop-event.invariant in
    let did = subst (λ (z : Bounds). DoesAs z m (event_of e) c.step-reply.result c.step-reply.new.self) was.bounds (c.step-reply.ensures.reply m was.shows) in
    let few = few_more b m (event_of e) c.loop-event.state c.step-reply.new.self was.shows did.1 in let few_given = few.0 in let few_over = few.1 in let given = was.given in let over = was.over in record {
      shows = subst (Shows c.step-reply.new.self) (sym (reached_more b events i e at)) did.1;
      replies = c.in-Ok.ensures.items ∙ (ap₂ (λ rs r. rs ++ r ∷ []) was.replies did.0 ∙ sym (replies_more b events i e at));
      bounds = c.step-reply.ensures.same ∙ was.bounds;
      given = omega arith;
      over = omega arith;
    }

-- A state that has done what its machine does.
use Rattle.std.proofs.Common.{◌≡◌, ℕ, ◌+◌, ◌≤◌, List, [], ◌∷◌, ◌++◌, map, Option, Some, sym, refl, ap, ◌∙◌, subst, arith}
use Rattle.std.specs.Prelude.{take as front, slice_get}
use Rattle.std.proofs.lemmas.List.{map-append}
use Rattle.lane_core.specs.declared.event.LaneEvent.{LaneEvent}
use Rattle.lane_core.specs.declared.event.Held.{Held}
use Rattle.lane_core.specs.declared.event.LaneReply.TheVariants.{Got}
use Rattle.lane_core.specs.declared.state.LaneState.{LaneState}
use Rattle.lane_core.specs.Machine.{Event, Reply, Bounds, Machine, start, took, take, next, final, history}
use Rattle.lane_core.specs.Shown.{event_of, reply_of, replies_of, Shows, DoesAs}
use Rattle.lane_core.specs.Size.{size_of}
use Rattle.lane_core.proofs.Histories.{front_more, final_more, history_more, few_next}

pub did_take : (b : Bounds) (m : Machine Held) (h : Held) (s : LaneState) → slice_get m.given m.taken ≡ Some h → Shows s record m { taken = m.taken + 1 } → DoesAs b m take (Got h.index) s
did_take b m h s at shows = subst (λ (o : Option Held). (Got h.index ≡ reply_of (took m o).1) × Shows s (took m o).0) (sym at) (refl, shows)

module _ (b : Bounds) (events : List LaneEvent) (i : ℕ) (e : LaneEvent) (at : slice_get events i ≡ Some e) where
  abbrev reached : ℕ → Machine Held
  reached j = final size_of b start (map event_of (front j events))

  one_more : map event_of (front (i + 1) events) ≡ map event_of (front i events) ++ event_of e ∷ []
  one_more = ap (map event_of) (front_more events i e at) ∙ map-append event_of (front i events) (e ∷ [])

  -- where one more of the events leads
  pub reached_more : reached (i + 1) ≡ (next size_of b (reached i) (event_of e)).0
  reached_more = ap (final size_of b start) one_more ∙ final_more size_of b start (map event_of (front i events)) (event_of e)

  pub replies_more : replies_of b start (front (i + 1) events) ≡ replies_of b start (front i events) ++ reply_of (next size_of b (reached i) (event_of e)).1 ∷ []
  replies_more = ap (λ es. map (λ (p : Event Held × Reply Held). reply_of p.1) (history size_of b start es)) one_more
      ∙ (ap (map (λ (p : Event Held × Reply Held). reply_of p.1)) (history_more size_of b start (map event_of (front i events)) (event_of e))
      ∙ map-append (λ (p : Event Held × Reply Held). reply_of p.1) (history size_of b start (map event_of (front i events))) ((event_of e, (next size_of b (reached i) (event_of e)).1) ∷ []))

-- the counts of a state that shows where an event leads
pub few_more : (b : Bounds) (m : Machine Held) (e : Event Held) (old new : LaneState) → Shows old m → Shows new (next size_of b m e).0 → (new.given ≤ old.given + 1) × (new.over ≤ old.over + 1)
few_more b m e old new shows now = let few = few_next size_of b m e in let a = shows.given in let c = shows.over in let d = now.given in let f = now.over in let g = few.0 in let h = few.1 in (omega arith, omega arith)

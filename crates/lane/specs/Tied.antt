-- What ties the fields of an end to the view of its seat.
use Rattle.std.specs.Prelude.{◌≡◌, ℕ, ◌+◌, ◌≤◌, ◌<◌, List, [], length, false, map, Some, All, slice_get}
use Rattle.std.specs.VecDeque.{deque_capacity}
use Rattle.lane_core.specs.Machine.{waiting}
use Rattle.lane.specs.declared.ends.Giver.TheInside.{Inside as GiverFields}
use Rattle.lane.specs.declared.ends.Taker.TheInside.{Inside as TakerFields}
use Rattle.lane.specs.declared.msg.Msg.{Msg}
use Rattle.lane.specs.declared.msg.Purpose.{Purpose}
use Rattle.lane.specs.Ends.{giver_in, taker_in}
use Rattle.lane.specs.Follows.{size_of, next_index, Rises}
use Rattle.lane.specs.Past.{Past, given_in, refused_in}
use Rattle.lane.specs.Sight.{Refusal, GiverView, TakerView, giver, taker}
use Rattle.lane.specs.Ring.{view_of, idle, resting}

module _ {T K : Type 0} where
  -- between two calls the giver has no slot, and owes no count
  abbrev pub at_rest : K → GiverView T K → GiverView T K
  at_rest k g = record { flow = idle k g.flow.given g.flow.seen; refusals = g.refusals; owes = false; closed = g.closed; asked = g.asked; told = g.told; past = g.past }

  abbrev pub hand_free : K → TakerView T K → TakerView T K
  hand_free k t = record { flow = resting k t.flow.got t.flow.seen; numbers = t.numbers; saw_closed = t.saw_closed; ended = t.ended; failed = t.failed; looking = t.looking; past = t.past }

-- The offers of a giver: each is either among the given or among the refusals, their indices rise, and no head is above the one seen last
pub record Offers (k : Purpose) (given : List Msg) (seen : ℕ) (refusals : List (Refusal Msg)) (past : Past Msg) : Type 0 where
  pub given_is : given ≡ given_in past
  pub refusals_are : map (λ (r : Refusal Msg). r.item) refusals ≡ map (λ (m : Msg). Some m) (refused_in past)
  pub rises : Rises past
  pub below : All (λ (y : Msg). y.index < next_index past) given
  pub heads : (i : ℕ) (r : Refusal Msg) → slice_get refusals i ≡ Some r → r.head ≤ seen
  -- a lane that does not drop has no refusals
  pub keeps_all : k.drops ≡ false → refusals ≡ []

-- The sizes of the messages that wait, as far as the giver saw
pub record Sized (slots capacity : ℕ) (sizes : List ℕ) (given : List Msg) (seen : ℕ) : Type 0 where
  pub low : seen ≤ length given
  pub near : length given ≤ seen + slots
  pub sizes_are : sizes ≡ map size_of (waiting given seen)
  pub places : slots ≤ capacity
  pub few : slots ≤ 256

pub record GiverTied (s : GiverFields) : Type 0 where
  pub seated : s.seat.me ≡ (view_of (giver (at_rest s.about.value (giver_in s.about.value s.seat.me.0.sight))), [])
  pub count_is : s.count ≡ length (giver_in s.about.value s.seat.me.0.sight).flow.given
  pub head_is : s.head ≡ (giver_in s.about.value s.seat.me.0.sight).flow.seen
  pub refused_is : s.refused ≡ length (giver_in s.about.value s.seat.me.0.sight).refusals
  pub closed_is : s.closed ≡ (giver_in s.about.value s.seat.me.0.sight).closed
  pub asked_is : s.asked ≡ (giver_in s.about.value s.seat.me.0.sight).asked
  pub told_is : s.told ≡ (giver_in s.about.value s.seat.me.0.sight).told
  pub limit_is : s.limit ≡ s.about.value.limit
  pub drops_is : s.drops ≡ s.about.value.drops
  pub sized : Sized s.seat.table_id.slots (deque_capacity s.sizes.held) s.sizes.held.items (giver_in s.about.value s.seat.me.0.sight).flow.given (giver_in s.about.value s.seat.me.0.sight).flow.seen
  pub offers : Offers s.about.value (giver_in s.about.value s.seat.me.0.sight).flow.given (giver_in s.about.value s.seat.me.0.sight).flow.seen (giver_in s.about.value s.seat.me.0.sight).refusals (giver_in s.about.value s.seat.me.0.sight).past

pub record TakerTied (s : TakerFields) : Type 0 where
  pub seated : s.seat.me ≡ (view_of (taker (hand_free s.about.value (taker_in s.about.value s.seat.me.0.sight))), [])
  pub count_is : s.count ≡ length (taker_in s.about.value s.seat.me.0.sight).flow.got
  pub failed_is : s.failed ≡ (taker_in s.about.value s.seat.me.0.sight).failed

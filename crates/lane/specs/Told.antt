-- What the calls of a lane tell.
use Rattle.std.specs.Prelude.{◌≡◌, ℕ, ◌+◌, ◌<◌, ◌≤◌, List, [], ◌∷◌, ◌++◌, length, replicate, sum_by, map, Bool, true, false, Option, Some, None, slice_get}
use Rattle.lane_core.specs.Machine.{Machine, waiting, is_full}
use Rattle.lane_core.specs.Machine as machine
use Rattle.lane.specs.declared.receipt.Offer.{Offer}
use Rattle.lane.specs.declared.receipt.Offer.TheVariants.{Accepted, Refused}
use Rattle.lane.specs.declared.receipt.Taken.{Taken}
use Rattle.lane.specs.declared.receipt.Taken.TheVariants.{Got, Empty, Ended}
use Rattle.lane.specs.declared.msg.Msg.{Msg}
use Rattle.lane.specs.declared.msg.Purpose.{Purpose}
use Rattle.lane.specs.Past.{Past, Runs, giver_side, taker_side, given_in, refused_in}
use Rattle.lane.specs.Sight.{Refusal}
use Rattle.lane.specs.Ring.{Measure, bounds}
use Rattle.lane.specs.Ends.{GiverEnd, TakerEnd}
use Rattle.lane.specs.Sides.{ReceiptSide}
use Rattle.lane.specs.Follows.{size_of, measure, MayFollow, Rises}

abbrev pub GiverNow : Type 0
GiverNow = GiverEnd Msg Purpose

abbrev pub TakerNow : Type 0
TakerNow = TakerEnd Msg Purpose

-- whether a lane of n slots is full for a message, where so many were taken
abbrev pub is_full_for : ℕ → GiverNow → ℕ → Msg → Bool
is_full_for n g head x = is_full size_of (bounds measure n g.about) g.given head (size_of x)

-- a load of the head: it does not fall, and is at most the number of the given
pub record Sees (old new : GiverNow) : Type 0 where
  pub rises : old.seen ≤ new.seen
  pub within : new.seen ≤ length old.given

-- a message was given, which found room where the head was loaded
abbrev pub gives_one : GiverNow → Msg → ℕ → GiverNow
gives_one g x head = record g { given = g.given ++ x ∷ []; seen = head; past = (machine.offer x, machine.accepted) ∷ g.past }

pub record IsGiven (n : ℕ) (old new : GiverNow) (x : Msg) : Type 0 where
  pub given : new ≡ gives_one old x new.seen
  pub saw : Sees old new
  pub room : is_full_for n old new.seen x ≡ false

-- how a refusal is kept
abbrev pub refusal_at : GiverNow → ℕ → Msg → Refusal Msg
refusal_at g head x = record { item = Some x; accepted = length g.given; head = head; bytes = sum_by size_of (waiting g.given head) }

-- The lane was full for it where the head was loaded. The message comes back with the next receipt, whose head is not below those before it
pub record IsRefused (n : ℕ) (old new : GiverNow) (x back : Msg) (r : ReceiptSide) : Type 0 where
  pub back_is : back ≡ x
  pub saw : Sees old new
  pub full : is_full_for n old new.seen x ≡ true
  pub receipt : r ≡ record { number = length old.refusals + 1; index = x.index; accepted = length old.given; head = new.seen; bytes = sum_by size_of (waiting old.given new.seen) }
  pub heads : (i : ℕ) (q : Refusal Msg) → slice_get old.refusals i ≡ Some q → q.head ≤ new.seen
  pub refused : new ≡ record old { seen = new.seen; refusals = old.refusals ++ refusal_at old new.seen x ∷ []; past = (machine.offer x, machine.refused (length old.refusals + 1)) ∷ old.past }

-- an offer to a lane of n slots
abbrev pub IsOffered : ℕ → GiverNow → GiverNow → Msg → Offer → Type 0
IsOffered n old new x Accepted = IsGiven n old new x
IsOffered n old new x (Refused back r) = IsRefused n old new x back r

-- a message was got: it is the next, fits what the lane is for, and its index is above those got before
abbrev pub IsTaken : TakerNow → TakerNow → Taken → Type 0
IsTaken old new (Got x) = (new ≡ record old { got = old.got ++ x ∷ []; seen = new.seen; saw_closed = new.saw_closed; past = (machine.take, machine.got x) ∷ old.past }) × (length old.got < new.seen) × MayFollow old.about old.got x
IsTaken old new Empty = new ≡ record old { seen = length old.got; saw_closed = false; ended = false; past = (machine.take, machine.empty) ∷ old.past }
IsTaken old new Ended = new ≡ record old { seen = length old.got; saw_closed = true; ended = true; past = (machine.take, machine.ended) ∷ old.past }

-- after n looks that found no message
abbrev pub empties : ℕ → Past Msg → Past Msg
empties n p = replicate n (machine.take, machine.empty) ++ p

-- a take that waits until there is a message, or none will come
abbrev pub IsTakenAtLast : TakerNow → TakerNow → Taken → Type 0
IsTakenAtLast old new (Got x) = (n : ℕ) × (new ≡ record old { got = old.got ++ x ∷ []; seen = new.seen; saw_closed = new.saw_closed; ended = new.ended; past = (machine.take, machine.got x) ∷ empties n old.past }) × MayFollow old.about old.got x
IsTakenAtLast old new Ended = (n : ℕ) × (new ≡ record old { seen = length old.got; saw_closed = true; ended = true; past = (machine.take, machine.ended) ∷ empties n old.past })
IsTakenAtLast old new Empty = ⊥

-- the first question that was answered by yes
abbrev pub first_told : Option ℕ → ℕ → Bool → Option ℕ
first_told (Some v) asked said = Some v
first_told None asked true = Some asked
first_told None asked false = None

-- where a number above 0 was seen when m were got, the head of that refusal is at most m
abbrev pub SawInTime : {T : Type 0} → List (Refusal T) → List (ℕ × ℕ) → Type 0
SawInTime {T} refusals numbers = (i : ℕ) (p : ℕ × ℕ) → slice_get numbers i ≡ Some p → (p.0 ≤ length refusals) × ((v : ℕ) (r : Refusal T) → p.0 ≡ v + 1 → slice_get refusals v ≡ Some r → r.head ≤ p.1)

-- each offer is among the given or among the refusals, once, and the indices of the offers rise
pub record AreOffers (g : GiverNow) : Type 0 where
  pub given : g.given ≡ given_in g.past
  pub refused : map (λ (r : Refusal Msg). r.item) g.refusals ≡ map (λ (m : Msg). Some m) (refused_in g.past)
  pub rises : Rises g.past

-- one order of all events, which the machine can go through, and in which each end has its own
abbrev pub InOneOrder : {T K : Type 0} → Measure T K → ℕ → GiverEnd T K → TakerEnd T K → Type 0
InOneOrder {T} {K} w n g t = let last : Machine T = record { given = g.given; taken = length t.got; over = length g.refusals; closed = g.closed; failed = t.failed } in
    (history : Past T) × Runs w.size (bounds w n g.about) history last × (giver_side history ≡ g.past) × (taker_side history ≡ t.past)

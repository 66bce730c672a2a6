-- What the two ends of a lane did, in one order of events in which the lane machine can do it. A past has its newest event first.
use Rattle.std.specs.Prelude.{◌≡◌, ℕ, ◌+◌, ◌≤◌, List, [], ◌∷◌, ◌++◌, Bool, true, false}
use Rattle.lane_core.specs.Machine.{Event, offer, take, see, close, fail, Reply, accepted, refused, overs, done, Bounds, Machine, start, next}

abbrev pub Past : Type 0 → Type 0
Past T = List (Event T × Reply T)

module _ {T : Type 0} (size : T → ℕ) (b : Bounds) where
  -- An event leads there with this reply. A number of refusals that is seen may lack the newest
  abbrev pub Goes : Machine T → Event T → Reply T → Machine T → Type 0
  Goes m see (overs v) m' = (v ≤ m.over) × (m.over ≤ v + 1) × (m' ≡ m)
  Goes m see _ m' = ⊥
  Goes m (offer x) r m' = next size b m (offer x) ≡ (m', r)
  Goes m take r m' = next size b m take ≡ (m', r)
  Goes m close r m' = next size b m close ≡ (m', r)
  Goes m fail r m' = next size b m fail ≡ (m', r)

  abbrev pub Runs : Past T → Machine T → Type 0
  Runs [] m = m ≡ start
  Runs (p ∷ h) m = (before : Machine T) × Runs h before × Goes before p.0 p.1 m

module _ {T : Type 0} where
  abbrev pub by_giver : Event T → Bool
  by_giver (offer x) = true
  by_giver take = false
  by_giver see = false
  by_giver close = true
  by_giver fail = false

  abbrev pub keep : Bool → Event T × Reply T → Past T → Past T
  keep true p h = p ∷ h
  keep false p h = h

  abbrev pub drop_if : Bool → Event T × Reply T → Past T → Past T
  drop_if true p h = h
  drop_if false p h = p ∷ h

  -- what each end did
  abbrev pub giver_side : Past T → Past T
  giver_side [] = []
  giver_side (p ∷ h) = keep (by_giver p.0) p (giver_side h)

  abbrev pub taker_side : Past T → Past T
  taker_side [] = []
  taker_side (p ∷ h) = drop_if (by_giver p.0) p (taker_side h)

  abbrev pub add_given : Event T → Reply T → List T → List T
  add_given (offer x) accepted xs = xs ++ x ∷ []
  add_given _ _ xs = xs

  abbrev pub add_refused : Event T → Reply T → List T → List T
  add_refused (offer x) (refused v) xs = xs ++ x ∷ []
  add_refused _ _ xs = xs

  -- the messages of the offers that were accepted, and of those that were refused, oldest first
  abbrev pub given_in : Past T → List T
  given_in [] = []
  given_in (p ∷ h) = add_given p.0 p.1 (given_in h)

  abbrev pub refused_in : Past T → List T
  refused_in [] = []
  refused_in (p ∷ h) = add_refused p.0 p.1 (refused_in h)

-- One order of all events, of which each end knows its own. Where the taker has seen the lane open and looks for a message, a close is the newest event
pub record Tale {T : Type 0} (size : T → ℕ) (b : Bounds) (m : Machine T) (mine theirs : Past T) (looking : Bool) : Type 0 where
  pub history : Past T
  pub runs : Runs size b history m
  pub mine_is : giver_side history ≡ mine
  pub theirs_is : taker_side history ≡ theirs
  pub looked : looking ≡ true → m.closed ≡ true → (h : Past T) × (history ≡ (close, done) ∷ h)

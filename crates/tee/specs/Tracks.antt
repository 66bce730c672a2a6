-- How far an output of a run came, as far as the reader knows.
use Rattle.std.specs.Prelude.{◌≡◌, ◌⊎◌, ℕ, Bool, true, false, map, List, [], ◌∷◌, ◌++◌, Option, Some, None, is_some}
use Rattle.fifo_core.specs.History.{History}
use Rattle.rmx_media.specs.declared.packet.Packet.{Packet}
use Rattle.tee.specs.Each.{Each3}
use Rattle.tee.specs.Ends.{Stood}
use Rattle.tee.specs.Fails.{stops}
use Rattle.tee.specs.Keeps.{stopped_by}
use Rattle.tee.specs.Seat.{Seat, aborts}
use Rattle.tee.specs.Sits.{is_dead}

pub data Track : Type 0 where
  -- the reader writes it, and this is its history
  Here : History → Track
  -- a thread writes it, and the reader was told by this question, if by any, that it was given up
  There : Option ℕ → Track

-- whether a thread writes it
abbrev pub is_there : Track → Bool
is_there (Here h) = false
is_there (There told) = true

abbrev pub theres : List Track → List Bool
theres ts = map is_there ts

-- whether the output is known to be given up
abbrev pub known_dead : Seat → Track → Bool
known_dead seat (Here h) = is_dead seat h
known_dead seat (There told) = is_some told

abbrev pub known_deads : List Seat → List Track → List Bool
known_deads [] ts = []
known_deads (s ∷ ss) [] = []
known_deads (s ∷ ss) (t ∷ ts) = known_dead s t ∷ known_deads ss ts

-- when so many packets of all had been given, the output with this track was known to be given up, or not
abbrev pub StoodOn : List Packet → ℕ → Seat → Track → Bool → Type 0
StoodOn given u seat (Here h) dead = Stood seat given h u dead
StoodOn given u seat (There told) dead = stopped_by told u ≡ dead

-- an output that aborts, or every one, was known to be given up by then, or not
abbrev pub StopsOn : List Seat → List Packet → List Track → ℕ → Bool → Type 0
StopsOn seats given tracks u stopped = (dead : List Bool) × Each3 (StoodOn given u) seats tracks dead × (stopped ≡ stops (aborts seats) dead)

-- its history goes on; given up it stays so
pub record HistoryGoesOn (seat : Seat) (old new : History) : Type 0 where
  pub later : History
  pub goes_on : new ≡ later ++ old
  pub stays_dead : is_dead seat old ≡ true → is_dead seat new ≡ true

-- the reader was told by the n-th question, or knows what it knew
abbrev pub ToldBy : ℕ → Option ℕ → Option ℕ → Type 0
ToldBy n old new = (new ≡ old) ⊎ ((old ≡ None) × (new ≡ Some n))

-- an output came further, with at most the n-th question
abbrev pub TrackGoesOn : ℕ → Seat → Track → Track → Type 0
TrackGoesOn n seat (Here h) (Here k) = HistoryGoesOn seat h k
TrackGoesOn n seat (There old) (There new) = ToldBy n old new
TrackGoesOn n seat (Here h) (There new) = ⊥
TrackGoesOn n seat (There old) (Here k) = ⊥

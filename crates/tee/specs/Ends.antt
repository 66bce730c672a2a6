-- How the outputs of a run end.
use Rattle.std.specs.Prelude.{◌≡◌, ℕ, ◌≤◌, Bool, List, [], ◌∷◌, ◌++◌, length, take}
use Rattle.fifo_core.specs.History.{History, mode_of, mode_is_dead}
use Rattle.fifo_core.specs.Follows.{Follows}
use Rattle.rmx_media.specs.declared.packet.Packet.{Packet}
use Rattle.slave.specs.End.{EndView, Ended}
use Rattle.slave.specs.Table.{turns_from}
use Rattle.tee.specs.Fails.{stops}
use Rattle.tee.specs.Seat.{Seat, aborts, chosen}

-- when so many packets of all had been given, the output at this seat, whose history ended as this, was given up or not
pub record Stood (seat : Seat) (given : List Packet) (history : History) (u : ℕ) (dead : Bool) : Type 0 where
  pub part : History
  pub later : History
  pub split : history ≡ later ++ part
  pub follows : Follows seat.slave.fifo (turns_from seat.origin 0 (chosen seat (take u given))) part
  pub dead_is : mode_is_dead (mode_of seat.slave.fifo part) ≡ dead

-- each of the outputs
abbrev pub AllStood : List Seat → List Packet → List History → ℕ → List Bool → Type 0
AllStood [] given [] u [] = Unit {0}
AllStood (s ∷ ss) given (h ∷ hs) u (d ∷ ds) = Stood s given h u d × AllStood ss given hs u ds
AllStood [] given (h ∷ hs) u ds = ⊥
AllStood [] given [] u (d ∷ ds) = ⊥
AllStood (s ∷ ss) given [] u ds = ⊥
AllStood (s ∷ ss) given (h ∷ hs) u [] = ⊥

-- an output that aborts, or every one, was given up by then, or not
abbrev pub StopsAt : List Seat → List Packet → List History → ℕ → Bool → Type 0
StopsAt seats given histories u stopped = (dead : List Bool) × AllStood seats given histories u dead × (stopped ≡ stops (aborts seats) dead)

-- each output's end agrees with the packets that it got, by this history
abbrev pub AllEnded : List Seat → List Packet → List History → List EndView → Type 0
AllEnded [] given [] [] = Unit {0}
AllEnded (s ∷ ss) given (h ∷ hs) (e ∷ es) = ((r : Ended s.origin s.slave.fifo (chosen s given) e) × (r.history ≡ h)) × AllEnded ss given hs es
AllEnded [] given (h ∷ hs) es = ⊥
AllEnded [] given [] (e ∷ es) = ⊥
AllEnded (s ∷ ss) given [] es = ⊥
AllEnded (s ∷ ss) given (h ∷ hs) [] = ⊥

-- the ends of outputs that were given these packets, one that aborts or every one being given up where `dead` says so
pub record EndsAll (seats : List Seat) (given : List Packet) (dead : ℕ → Bool) (ends : List EndView) : Type 0 where
  pub histories : List History
  pub each : AllEnded seats given histories ends
  pub stood : (u : ℕ) → u ≤ length given → StopsAt seats given histories u (dead u)

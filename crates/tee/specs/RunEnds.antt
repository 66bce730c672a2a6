-- How the outputs of a run end.
use Rattle.std.specs.Prelude.{◌≡◌, ℕ, ◌+◌, ◌≤◌, ◌||◌, Bool, true, false, List, [], ◌∷◌, length, Option, is_some}
use Rattle.fifo_core.specs.History.{History, mode_of, mode_is_dead}
use Rattle.rmx_edge.specs.Shelf.{ShelfState}
use Rattle.rmx_media.specs.declared.packet.Packet.{Packet}
use Rattle.lane.specs.declared.msg.Msg.{Msg}
use Rattle.lane.specs.Ring.{one_if}
use Rattle.slave.specs.declared.job.SlaveEnd.{SlaveEnd}
use Rattle.slave.specs.declared.records.LaneNote.{LaneNote}
use Rattle.slave.specs.End.{EndView, EndedAll, EndedBy, IsUnclosed, end_view}
use Rattle.slave.specs.Given.{Given}
use Rattle.slave.specs.LaneAccounts.{AccountsLane, AddsLane, Dealt}
use Rattle.slave.specs.Stretches.{Stretches}
use Rattle.tee.specs.Each.{Each3}
use Rattle.tee.specs.Keeps.{IsWithin}
use Rattle.tee.specs.Seat.{Seat, chosen}
use Rattle.tee.specs.Tracks.{Track, Here, There, StopsOn, known_dead}

-- The end of an output that the reader wrote. It is marked as inline where it was to have a thread.
pub record EndsHere (seat : Seat) (given : List Packet) (h : History) (e : EndView) : Type 0 where
  pub ended : EndedBy seat.origin seat.slave.fifo (chosen seat given) h (record e { inline = false })
  pub inline : e.inline ≡ seat.slave.fifo.use_fifo

-- What is noted of the lane of the output at a seat, which was given these packets and was given up or not.
pub record IsNoted (seat : Seat) (given : List Packet) (told : Option ℕ) (note : LaneNote) (dead : Bool) : Type 0 where
  pub threaded : seat.slave.fifo.use_fifo ≡ true
  pub cap : note.cap ≡ seat.slave.fifo.queue_size
  pub limit : note.counts.limit ≡ seat.slave.fifo.queue_bytes
  pub drops : note.counts.drops ≡ seat.slave.fifo.dropping
  pub given_is : note.counts.given + length note.receipts.items ≡ length (chosen seat given)
  pub got : note.counts.got ≡ note.counts.given
  pub closed : note.counts.closed ≡ true
  pub failed : note.counts.failed ≡ dead
  -- the reader asked once for each packet of the run; the first yes came after it was given up
  pub asked : note.counts.asked ≡ length given
  pub told_is : note.counts.told ≡ told
  pub within : IsWithin told (length given)
  pub told_dead : is_some told ≡ true → dead ≡ true
  -- a lane that doesn't drop refuses nothing
  pub blocks : seat.slave.fifo.dropping ≡ false → note.receipts.items ≡ []

-- The end of an output that had a thread: what it was given in its turns, and the refusals of its lane entered.
pub record EndsThere (seat : Seat) (given : List Packet) (told : Option ℕ) (e : EndView) : Type 0 where
  pub turns : List Given
  pub got : List Msg
  pub numbers : List (ℕ × ℕ)
  -- the end as its thread left it
  pub left : EndView
  pub ends : EndedAll seat.origin seat.slave.fifo turns left
  pub stretches : Stretches seat.origin seat.slave.fifo turns ends.history got numbers
  pub note : LaneNote
  pub dealt : Dealt (chosen seat given) turns numbers note
  pub short : Bool
  pub adds : AddsLane note left e short
  pub accounts : AccountsLane seat.origin seat.slave.fifo (chosen seat given) note e
  pub noted : IsNoted seat given told note (mode_is_dead (mode_of seat.slave.fifo ends.history))
  pub inline : e.inline ≡ false

abbrev pub EndsOn : List Packet → Seat → Track → EndView → Type 0
EndsOn given seat (Here h) e = EndsHere seat given h e
EndsOn given seat (There told) e = EndsThere seat given told e

-- whether memory was wanted for the refusals of its lane, so that none was entered
abbrev pub is_short : (given : List Packet) (seat : Seat) (track : Track) (e : EndView) → EndsOn given seat track e → Bool
is_short given seat (Here h) e k = false
is_short given seat (There told) e k = k.short

-- whether that is so of one of them
abbrev pub any_short : (given : List Packet) (seats : List Seat) (tracks : List Track) (ends : List EndView) → Each3 (EndsOn given) seats tracks ends → Bool
any_short given [] [] [] a = false
any_short given [] [] (e ∷ es) a = false
any_short given [] (t ∷ ts) es a = false
any_short given (s ∷ ss) [] es a = false
any_short given (s ∷ ss) (t ∷ ts) [] a = false
any_short given (s ∷ ss) (t ∷ ts) (e ∷ es) a = is_short given s t e a.0 || any_short given ss ts es a.1

-- and where it was known to be given up, it isn't closed
pub record EndsAs {S : Type 0} (state : S → ShelfState) (given : List Packet) (seat : Seat) (track : Track) (e : SlaveEnd S) : Type 0 where
  pub on : EndsOn given seat track (end_view state e)
  pub given_up : known_dead seat track ≡ true → IsUnclosed e.state

-- an output ended so, and memory was wanted for the refusals of its lane, or not
abbrev pub EndsWith : {S : Type 0} → (S → ShelfState) → List Packet → Seat → Track → SlaveEnd S → Bool → Type 0
EndsWith state given seat track e short = (k : EndsAs state given seat track e) × (short ≡ is_short given seat track (end_view state e) k.on)

-- all of them ended so, and memory was wanted for the refusals of one lane or more, or of none
abbrev pub AllEndWith : {S : Type 0} → (S → ShelfState) → List Packet → List Seat → List Track → List (SlaveEnd S) → Bool → Type 0
AllEndWith state given [] [] [] short = short ≡ false
AllEndWith state given [] [] (e ∷ es) short = ⊥
AllEndWith state given [] (t ∷ ts) es short = ⊥
AllEndWith state given (s ∷ ss) [] es short = ⊥
AllEndWith state given (s ∷ ss) (t ∷ ts) [] short = ⊥
AllEndWith state given (s ∷ ss) (t ∷ ts) (e ∷ es) short =
    (one : Bool) × (more : Bool) × EndsWith state given s t e one × AllEndWith state given ss ts es more × (short ≡ (one || more))

-- the ends of outputs that were given these packets, one that aborts or every one being known to be given up where `dead` says so
pub record EndsAllRun (seats : List Seat) (given : List Packet) (dead : ℕ → Bool) (ends : List EndView) : Type 0 where
  pub tracks : List Track
  pub each : Each3 (EndsOn given) seats tracks ends
  pub stood : (u : ℕ) → u ≤ length given → StopsOn seats given tracks u (dead u)

-- and memory was wanted for the refusals of one lane or more, or of none
abbrev pub EndsShort : List Seat → List Packet → (ℕ → Bool) → List EndView → Bool → Type 0
EndsShort seats given dead ends short = (r : EndsAllRun seats given dead ends) × (short ≡ any_short given seats r.tracks ends r.each)

-- how many of the ends are marked as inline
abbrev pub inline_ends : List EndView → ℕ
inline_ends [] = 0
inline_ends (e ∷ es) = one_if e.inline + inline_ends es

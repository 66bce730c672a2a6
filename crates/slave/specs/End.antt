-- How an output ends.
use Rattle.std.specs.Prelude.{◌≡◌, ℕ, ◌≤◌, ◌⊎◌, Bool, true, false, List, [], ◌∷◌, ◌++◌, length, map, flat_map, filter_map, Option, Some, None, is_some}
use Rattle.fifo_core.specs.declared.types.FifoOptions.{FifoOptions}
use Rattle.fifo_core.specs.declared.types.Answer.{Answer}
use Rattle.fifo_core.specs.declared.types.Answer.TheVariants as answer
use Rattle.fifo_core.specs.declared.types.EndState.{EndState}
use Rattle.fifo_core.specs.declared.types.EndState.TheVariants as ends
use Rattle.fifo_core.specs.History.{History, session_of, fates_of, is_live, end_of, mode_of, mode_is_dead}
use Rattle.fifo_core.specs.Follows.{Follows}
use Rattle.rmx_edge.specs.Shelf.{ShelfState}
use Rattle.rmx_edge.specs.Count.{raised, Rose}
use Rattle.rmx_edge.specs.Counted.{with_count}
use Rattle.rmx_media.specs.declared.packet.Packet.{Packet}
use Rattle.slave.specs.Origin.{Origin}
use Rattle.slave.specs.declared.records.Run.{Run}
use Rattle.slave.specs.declared.records.LaneNote.{LaneNote}
use Rattle.slave.specs.declared.records.SessionNote.{SessionNote}
use Rattle.slave.specs.declared.records.FaultAt.TheVariants.{End}
use Rattle.slave.specs.declared.records.FaultNote.{FaultNote}
use Rattle.slave.specs.declared.job.SlaveEnd.{SlaveEnd}
use Rattle.slave.specs.Runs.{expand, AreInOrder}
use Rattle.slave.specs.Segments.{start_of, asks_list}
use Rattle.slave.specs.Given.{Given, index_of, turn_of, end_from, Gives, IsGapless}
use Rattle.slave.specs.Table.{StandsAt, indices, covered, written_among, EndFailed, Closed, Unended, Row, AllRows, Chain, GoesOnFrom, row_note, row_fault, row_packets, written_of, NotesTell, Numbered, Indexed, turns_from}

pub record EndView : Type 0 where
  pub shelf : ShelfState
  pub fates : List Run
  pub sessions : List SessionNote
  pub faults : List FaultNote
  pub state : EndState
  pub inline : Bool
  pub lane : Option LaneNote
  pub bytes : ℕ

abbrev pub end_view : {S : Type 0} → (S → ShelfState) → SlaveEnd S → EndView
end_view state e = record {
  shelf = state e.shelf;
  fates = e.fates.items;
  sessions = e.sessions.items;
  faults = e.faults.items;
  state = e.state;
  inline = e.inline;
  lane = e.lane;
  bytes = e.bytes;
}

-- the outcome of the last session, by the answer of the muxer's end, where that was called
abbrev pub EndsAs : History → Option Answer → Row → Type 0
EndsAs h None r = Unended h r.outcome r.fault
EndsAs h (Some answer.Done) r = r.outcome ≡ Closed
EndsAs h (Some answer.Fault) r = r.outcome ≡ EndFailed
EndsAs h (Some answer.NoMemory) r = r.outcome ≡ EndFailed

-- the notes are those of the run, and then that of the end
abbrev pub EndNotes : History → Option Answer → List FaultNote → Type 0
EndNotes h (Some answer.Fault) ns =
    (front : List FaultNote) × (n : FaultNote) × (ns ≡ front ++ n ∷ []) × (n.session ≡ session_of h) × (n.at ≡ End) × NotesTell h front
EndNotes h (Some answer.Done) ns = NotesTell h ns
EndNotes h (Some answer.NoMemory) ns = NotesTell h ns
EndNotes h None ns = NotesTell h ns

-- what an output tells at its end agrees with these packets
pub record Ended (g : Origin) (o : FifoOptions) (L : List Packet) (e : EndView) : Type 0 where
  pub history : History
  pub follows : Follows o (turns_from g 0 L) history
  pub count : length (fates_of history) ≡ length L
  pub indexed : Indexed 0 (fates_of history)
  pub order : AreInOrder (length L) e.fates
  pub end_answer : Option Answer
  pub end_called : is_some end_answer ≡ is_live o history
  pub state : e.state ≡ end_of history end_answer
  pub fates : expand e.fates ≡ fates_of history
  pub rows : List Row
  pub front : List Row
  pub last : Row
  pub split : rows ≡ front ++ last ∷ []
  pub numbered : Numbered 0 rows
  pub number : last.note.number ≡ session_of history
  pub ends_as : EndsAs history end_answer last
  pub are_sessions : e.sessions ≡ map row_note rows
  pub are_faults : e.faults ≡ filter_map row_fault rows
  -- the bytes that the shelf accepted, counted from 0
  pub counts : g.shelf.accepted ≡ Some (record { before = 0; last = 0 })
  pub before : ℕ
  pub added : ℕ
  pub chain : Chain g.shelf rows (with_count e.shelf before added)
  pub next_segment : ℕ
  pub segments : GoesOnFrom (start_of g.seg) rows next_segment
  pub bytes : e.bytes ≡ raised before added
  pub each : AllRows g (StandsAt L) rows
  pub packets : flat_map row_packets rows ≡ written_of L (fates_of history)
  pub notes : EndNotes history end_answer e.faults
  pub inline : e.inline ≡ false
  pub lane : e.lane ≡ None
  -- a sound shelf had no fault, and none is noted
  pub sound : g.shelf.sound ≡ true → e.shelf.faults ≡ g.shelf.faults
  pub safe : g.shelf.sound ≡ true → e.faults ≡ []
  pub wants : g.shelf.wants ≤ e.shelf.wants
  pub excuse : asks_list g.seg ≡ false → e.state ≡ ends.NoMemory → e.faults ≡ [] → Rose g.shelf.wants e.shelf.wants

-- and its history is this one
abbrev pub EndedBy : Origin → FifoOptions → List Packet → History → EndView → Type 0
EndedBy g o L h e = (k : Ended g o L e) × (k.history ≡ h)

-- the output wasn't closed
abbrev pub IsUnclosed : EndState → Type 0
IsUnclosed s = (s ≡ ends.Failed) ⊎ (s ≡ ends.NoMemory)

-- an output that was given up after a part of its history is given up at its end, which isn't closed
abbrev pub GivenUpStaysSo : Type 0
GivenUpStaysSo = (g : Origin) (o : FifoOptions) (L : List Packet) (e : EndView) (k : Ended g o L e) (later part : History)
    → k.history ≡ later ++ part → mode_is_dead (mode_of o part) ≡ true → (mode_is_dead (mode_of o k.history) ≡ true) × IsUnclosed e.state

-- on a sound shelf an output isn't given up, and it is closed unless memory was wanted
abbrev pub SoundNeverFails : Type 0
SoundNeverFails = (g : Origin) (o : FifoOptions) (L : List Packet) (e : EndView) (k : Ended g o L e)
    → g.shelf.sound ≡ true → (mode_is_dead (mode_of o k.history) ≡ false) × (e.state ≡ ends.Failed → ⊥)

-- what an output tells at its end agrees with what it was given
pub record EndedAll (g : Origin) (o : FifoOptions) (T : List Given) (e : EndView) : Type 0 where
  pub history : History
  pub follows : Follows o (map (turn_of g) T) history
  pub count : length (fates_of history) ≡ length T
  pub indexed : indices (fates_of history) ≡ map index_of T
  pub order : AreInOrder (end_from 0 T) e.fates
  pub end_answer : Option Answer
  pub end_called : is_some end_answer ≡ is_live o history
  pub state : e.state ≡ end_of history end_answer
  pub fates : expand e.fates ≡ covered history
  pub rows : List Row
  pub front : List Row
  pub last : Row
  pub split : rows ≡ front ++ last ∷ []
  pub numbered : Numbered 0 rows
  pub number : last.note.number ≡ session_of history
  pub ends_as : EndsAs history end_answer last
  pub are_sessions : e.sessions ≡ map row_note rows
  pub are_faults : e.faults ≡ filter_map row_fault rows
  -- the bytes that the shelf accepted, counted from 0
  pub counts : g.shelf.accepted ≡ Some (record { before = 0; last = 0 })
  pub before : ℕ
  pub added : ℕ
  pub chain : Chain g.shelf rows (with_count e.shelf before added)
  pub next_segment : ℕ
  pub segments : GoesOnFrom (start_of g.seg) rows next_segment
  pub bytes : e.bytes ≡ raised before added
  pub each : AllRows g (Gives T) rows
  pub packets : flat_map row_packets rows ≡ written_among T (fates_of history)
  pub notes : EndNotes history end_answer e.faults
  pub inline : e.inline ≡ false
  pub lane : e.lane ≡ None
  -- a sound shelf had no fault, and none is noted
  pub sound : g.shelf.sound ≡ true → e.shelf.faults ≡ g.shelf.faults
  pub safe : g.shelf.sound ≡ true → e.faults ≡ []
  pub wants : g.shelf.wants ≤ e.shelf.wants
  pub excuse : asks_list g.seg ≡ false → IsGapless T → e.state ≡ ends.NoMemory → e.faults ≡ [] → Rose g.shelf.wants e.shelf.wants

abbrev pub EndedAllBy : Origin → FifoOptions → List Given → History → EndView → Type 0
EndedAllBy g o T h e = (k : EndedAll g o T e) × (k.history ≡ h)

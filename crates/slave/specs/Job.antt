-- What clauses see of an output's job, and what each step does to it.
use Rattle.std.specs.Prelude.{◌≡◌, ◌≢◌, ℕ, ◌+◌, ◌≤◌, ◌⊎◌, Bool, true, false, List, [], ◌∷◌, ◌++◌, length, Option, Some, None, string_bytes}
use Rattle.fifo_core.specs.declared.types.Answer.{Answer}
use Rattle.fifo_core.specs.declared.types.Answer.TheVariants as answer
use Rattle.fifo_core.specs.declared.types.Fate.{Fate}
use Rattle.fifo_core.specs.declared.state.FifoState.{FifoState}
use Rattle.fifo_core.specs.State.{session_in}
use Rattle.fifo_core.specs.History.{answered_done}
use Rattle.rmx_edge.specs.Count.{Rose}
use Rattle.rmx_edge.specs.Shelf.{ShelfState, ShelfCall}
use Rattle.rmx_edge.specs.Counted.{with_count}
use Rattle.rmx_edge.specs.declared.shelf.Shelf.{Ghosts}
use Rattle.rmx_edge.specs.Run.{Completed, Stopped}
use Rattle.rmx_media.specs.declared.packet.Packet.{Packet}
use Rattle.slave.specs.declared.mux.Mux.{Mux}
use Rattle.slave.specs.Origin.{Origin, video_of}
use Rattle.playlist.specs.declared.seg_options.SegOptions.{SegOptions}
use Rattle.segmenter.specs.Numbers.{called}
use Rattle.slave.specs.Segments.{asks_list, number_after}
use Rattle.slave.specs.Calls.{begin_calls, put_calls, end_calls, IsMuxOf, MuxAfter, number_in}
use Rattle.slave.specs.declared.records.Run.{Run}
use Rattle.slave.specs.declared.records.SessionNote.{SessionNote}
use Rattle.slave.specs.declared.records.FaultAt.{FaultAt}
use Rattle.slave.specs.declared.records.FaultNote.{FaultNote}
use Rattle.slave.specs.declared.records.FaultAt.TheVariants.{Begin, End}
use Rattle.slave.specs.Runs.{expand, pushed, Joins, AreInOrder}
use Rattle.slave.specs.declared.job.SlaveJob.{SlaveJob}
use Rattle.slave.specs.Watched.{inner, is_flushed}

-- what writes a file: the muxer, and whether the shelf's last call was a flush that was done
pub record Writer : Type 0 where
  pub mux : Mux
  pub flushed : Bool

-- It is where these packets of the session left it, of which the first segment has that number where it has segments. All that was
-- written for them was flushed.
pub record WriterAfter (g : Origin) (first : ℕ) (before : List Packet) (w : Writer) : Type 0 where
  pub mux : MuxAfter g first before w.mux
  pub flushed : before ≢ [] → w.flushed ≡ true

-- what a job keeps of what it was made of
pub record Kit : Type 0 where
  pub name : List ℕ
  pub video : Option ℕ
  pub writer : Writer

-- it is that of this output
pub record KitOf (g : Origin) (k : Kit) : Type 0 where
  pub name : k.name ≡ g.name
  pub short : length g.name ≤ 200
  -- its shelf counts bytes from 0
  pub counts : g.shelf.accepted ≡ Some (record { before = 0; last = 0 })
  pub video : k.video ≡ video_of g.streams.streams.items
  pub mux : IsMuxOf g k.writer.mux

pub record JobView : Type 0 where
  pub shelf : ShelfState
  pub kit : Kit
  pub fifo : FifoState
  pub runs : List Run
  pub run_places : ℕ
  pub sessions : List SessionNote
  pub session_places : ℕ
  pub faults : List FaultNote
  pub fault_places : ℕ

abbrev pub view_of : {S : Type 0} {ghosts : Ghosts S} → (S → ShelfState) → SlaveJob S ghosts → JobView
view_of state job = record {
  shelf = with_count (state (inner job.shelf).shelf) (inner job.shelf).before (inner job.shelf).last;
  kit = record { name = string_bytes job.name; video = job.video; writer = record { mux = job.mux; flushed = is_flushed job.shelf } };
  fifo = job.fifo;
  runs = job.runs.items;
  run_places = job.runs.spare;
  sessions = job.sessions.items;
  session_places = job.sessions.spare;
  faults = job.faults.items;
  fault_places = job.faults.spare;
}

-- the number that the next segment gets
abbrev pub number_of : JobView → ℕ
number_of v = number_in v.kit.writer.mux

-- a sound shelf had no fault, and is sound still
abbrev pub SoundStays : ShelfState → ShelfState → Type 0
SoundStays old new = old.sound ≡ true → (new.sound ≡ true) × (new.faults ≡ old.faults)

-- the note of a fault
abbrev pub note_at : JobView → FaultAt → JobView → FaultNote
note_at old at new = record { session = session_in old.fifo; at = at; before = old.shelf.faults; after = new.shelf.faults }

-- the shelf wanted memory in one of the calls
abbrev pub ShelfWants : Option SegOptions → List ShelfCall → JobView → JobView → Type 0
ShelfWants seg calls old new =
    (stop : Stopped calls 0 old.shelf new.shelf) × (new.shelf.writing ≡ false)
    × (new.faults ≡ old.faults) × (new.fault_places ≡ old.fault_places) × Rose old.shelf.wants new.shelf.wants
    × (number_of new ≡ number_after seg (number_of old) (called stop))

-- memory for an entry of a list was wanted before any of the calls
abbrev pub ListWants : Option SegOptions → JobView → JobView → Type 0
ListWants seg old new =
    (asks_list seg ≡ true) × (new.shelf ≡ old.shelf)
    × (new.faults ≡ old.faults) × (new.fault_places ≡ old.fault_places) × (number_of new ≡ number_of old)

-- what the calls did to the shelf, the notes and the segments' numbers, by the answer
abbrev pub CallsMade : Option SegOptions → List ShelfCall → FaultAt → Bool → JobView → Answer → JobView → Type 0
CallsMade seg calls at writing old answer.Done new =
    Completed calls old.shelf new.shelf × (new.shelf.writing ≡ writing)
    × (new.faults ≡ old.faults) × (new.fault_places ≡ old.fault_places)
    × (number_of new ≡ number_after seg (number_of old) calls)
CallsMade seg calls at writing old answer.Fault new =
    (stop : Stopped calls 0 old.shelf new.shelf) × (new.shelf.writing ≡ false)
    × (new.faults ≡ old.faults ++ note_at old at new ∷ []) × (new.fault_places + 1 ≡ old.fault_places) × Rose old.shelf.faults new.shelf.faults
    × (number_of new ≡ number_after seg (number_of old) (called stop))
CallsMade seg calls at writing old answer.NoMemory new = ShelfWants seg calls old new ⊎ ListWants seg old new

-- a muxer's call was made, and a fault of it noted
pub record Calls (g : Origin) (calls : List ShelfCall) (at : FaultAt) (old : JobView) (a : Answer) (new : JobView) : Type 0 where
  pub made : CallsMade g.seg calls at true old a new
  pub counts : old.shelf.faults ≤ new.shelf.faults
  pub want_counts : old.shelf.wants ≤ new.shelf.wants
  pub sound : SoundStays old.shelf new.shelf
  pub safe : old.shelf.sound ≡ true → a ≡ answer.Fault → ⊥
  pub kit : KitOf g new.kit
  pub fifo : new.fifo ≡ old.fifo
  pub runs : new.runs ≡ old.runs
  pub run_places : new.run_places ≡ old.run_places
  pub sessions : new.sessions ≡ old.sessions
  pub session_places : new.session_places ≡ old.session_places

-- a packet was given to the muxer, behind those before it in the session, of which the first segment has that number
pub record Puts (g : Origin) (first : ℕ) (before : List Packet) (p : Packet) (at : FaultAt) (old : JobView) (a : Answer) (new : JobView) : Type 0 where
  pub calls : Calls g (put_calls g first before p) at old a new
  pub writer : a ≡ answer.Done → WriterAfter g first (before ++ p ∷ []) new.kit.writer

-- a file was begun for the session that is to be opened
pub record Begins (g : Origin) (old : JobView) (a : Answer) (new : JobView) : Type 0 where
  pub calls : Calls g (begin_calls g (number_of old) (session_in old.fifo)) Begin old a new
  pub writer : a ≡ answer.Done → WriterAfter g (number_of old) [] new.kit.writer

-- a session was opened, and its note made
pub record Opens (g : Origin) (old : JobView) (a : Answer) (new : JobView) : Type 0 where
  pub made : CallsMade g.seg (begin_calls g (number_of old) (session_in old.fifo)) Begin true old a new
  pub counts : old.shelf.faults ≤ new.shelf.faults
  pub want_counts : old.shelf.wants ≤ new.shelf.wants
  pub sound : SoundStays old.shelf new.shelf
  pub safe : old.shelf.sound ≡ true → a ≡ answer.Fault → ⊥
  pub kit : KitOf g new.kit
  pub writer : a ≡ answer.Done → WriterAfter g (number_of old) [] new.kit.writer
  pub fifo : new.fifo ≡ old.fifo
  pub runs : new.runs ≡ old.runs
  pub run_places : new.run_places ≡ old.run_places
  pub sessions : new.sessions ≡ old.sessions ++ record { number = session_in old.fifo; begun = answered_done a; closed = false } ∷ []
  pub session_places : new.session_places + 1 ≡ old.session_places

-- places were asked for, and granted or not
pub record Asks (old : JobView) (granted : Bool) (new : JobView) : Type 0 where
  pub shelf : new.shelf ≡ old.shelf
  pub kit : new.kit ≡ old.kit
  pub fifo : new.fifo ≡ old.fifo
  pub runs : new.runs ≡ old.runs
  pub sessions : new.sessions ≡ old.sessions
  pub faults : new.faults ≡ old.faults
  pub run_places : old.run_places ≤ new.run_places
  pub session_places : old.session_places ≤ new.session_places
  pub fault_places : old.fault_places ≤ new.fault_places
  pub granted_all : granted ≡ true → (2 ≤ new.run_places) × (1 ≤ new.session_places) × (1 ≤ new.fault_places)

-- a fate was added, and nothing else changed
pub record Settles (i : ℕ) (f : Fate) (old new : JobView) : Type 0 where
  pub shelf : new.shelf ≡ old.shelf
  pub kit : new.kit ≡ old.kit
  pub fifo : new.fifo ≡ old.fifo
  pub sessions : new.sessions ≡ old.sessions
  pub session_places : new.session_places ≡ old.session_places
  pub faults : new.faults ≡ old.faults
  pub fault_places : new.fault_places ≡ old.fault_places
  pub fates : AreInOrder i old.runs → expand new.runs ≡ pushed (expand old.runs) i f
  pub joins : Joins new.runs (i + 1) f
  pub order : AreInOrder i old.runs → AreInOrder (i + 1) new.runs
  pub run_places : old.run_places ≤ new.run_places + 1
  pub kept_places : Joins old.runs i f → new.run_places ≡ old.run_places

-- a session was opened and the packet written, or the opening was refused
abbrev pub OpensAndPuts : Origin → Packet → FaultAt → JobView → Answer → JobView → Type 0
OpensAndPuts g p at old a new =
    ((mid : JobView) × Opens g old answer.Done mid × Puts g (number_of old) [] p at mid a new) ⊎ ((answered_done a ≡ false) × Opens g old a new)

-- there is room for the run of this fate, or it was refused; the first run has its place from the start
pub record MakesRoom (i : ℕ) (f : Fate) (old : JobView) (granted : Bool) (new : JobView) : Type 0 where
  pub shelf : new.shelf ≡ old.shelf
  pub kit : new.kit ≡ old.kit
  pub fifo : new.fifo ≡ old.fifo
  pub runs : new.runs ≡ old.runs
  pub sessions : new.sessions ≡ old.sessions
  pub session_places : new.session_places ≡ old.session_places
  pub faults : new.faults ≡ old.faults
  pub fault_places : new.fault_places ≡ old.fault_places
  pub run_places : old.run_places ≤ new.run_places
  pub room : granted ≡ true → Joins new.runs i f ⊎ (2 ≤ new.run_places)
  pub refused : granted ≡ false → (Joins old.runs i f → ⊥) × (2 ≤ old.run_places → ⊥)

-- the sessions after the muxer's end
abbrev pub ClosesLast : Answer → List SessionNote → List SessionNote → Type 0
ClosesLast answer.Done old new =
    (front : List SessionNote) (x : SessionNote) → old ≡ front ++ x ∷ [] → new ≡ front ++ record { number = x.number; begun = x.begun; closed = true } ∷ []
ClosesLast answer.Fault old new = new ≡ old
ClosesLast answer.NoMemory old new = new ≡ old

-- the muxer's end was called, which begins no segment
pub record Closes (g : Origin) (first : ℕ) (before : List Packet) (old : JobView) (a : Answer) (new : JobView) : Type 0 where
  pub made : CallsMade None (end_calls g first before) End false old a new
  pub counts : old.shelf.faults ≤ new.shelf.faults
  pub want_counts : old.shelf.wants ≤ new.shelf.wants
  pub sound : SoundStays old.shelf new.shelf
  pub safe : old.shelf.sound ≡ true → a ≡ answer.Fault → ⊥
  pub fifo : new.fifo ≡ old.fifo
  pub runs : new.runs ≡ old.runs
  pub sessions : ClosesLast a old.sessions new.sessions

-- The sessions of an output, and what each left on the shelf.
use Rattle.std.specs.Prelude.{◌≡◌, ◌≢◌, ℕ, ◌+◌, ◌≤◌, ◌⊎◌, Bool, true, false, List, [], ◌∷◌, ◌++◌, length, map, flat_map, filter_map, slice_get, Option, Some, None}
use Rattle.fifo_core.specs.declared.types.Fate.{Fate}
use Rattle.fifo_core.specs.declared.types.Fate.TheVariants as fate
use Rattle.fifo_core.specs.declared.types.FifoOptions.{FifoOptions}
use Rattle.fifo_core.specs.declared.types.PacketFacts.{PacketFacts}
use Rattle.fifo_core.specs.declared.types.Answer.TheVariants as answer
use Rattle.fifo_core.specs.declared.types.Mode.TheVariants.{Live}
use Rattle.fifo_core.specs.declared.types.Answer.{Answer}
use Rattle.fifo_core.specs.History.{Begun, Tried, Fated, Want, History, mode_of, mode_is_live, mode_is_dead, session_of, trying, fates_of, wanted, after_of, action_of, flush_of, answered_done, answered_fault}
use Rattle.fifo_core.specs.Follows.{Turn, Comes, Follows, MayWant, Answered, Acted}
use Rattle.fifo_core.specs.State.{Shows, next_of, after_answer, hand_after_answer}
use Rattle.fifo_core.specs.declared.types.After.{After}
use Rattle.fifo_core.specs.declared.types.After.TheVariants as after
use Rattle.fifo_core.specs.declared.types.Action.{Action}
use Rattle.fifo_core.specs.declared.types.Action.TheVariants as action
use Rattle.rmx_edge.specs.Count.{Rose}
use Rattle.rmx_edge.specs.Shelf.{ShelfState, ShelfCall}
use Rattle.rmx_edge.specs.Run.{Completed, Stopped}
use Rattle.rmx_media.specs.declared.packet.Packet.{Packet}
use Rattle.rmx_media.specs.Fits.{Fits}
use Rattle.segmenter.specs.Numbers.{called}
use Rattle.slave.specs.declared.records.SessionNote.{SessionNote}
use Rattle.slave.specs.declared.records.FaultAt.{FaultAt}
use Rattle.slave.specs.declared.records.FaultAt.TheVariants.{Begin, Put, End}
use Rattle.slave.specs.declared.records.FaultNote.{FaultNote}
use Rattle.slave.specs.Origin.{Origin, facts_of}
use Rattle.slave.specs.Segments.{file_format, start_of, asks_list, number_after}
use Rattle.slave.specs.Calls.{begin_calls, put_calls, end_calls, puts, number_in}
use Rattle.slave.specs.declared.records.Run.{Run}
use Rattle.slave.specs.Given.{Given, Sent, Swept, index_of, turn_of, end_from, Gives, sent_from, IsGapless}
use Rattle.slave.specs.Runs.{expand, pushed, Joins, AreInOrder}
use Rattle.slave.specs.Job.{JobView, KitOf, Writer, WriterAfter, SoundStays}

-- how a session stands
pub data Outcome : Type 0 where
  Open : Outcome
  -- memory for its list was wanted before any of its calls
  NotCalled : Outcome
  NotBegun : Outcome
  PutFailed : (index : ℕ) → Packet → Outcome
  EndFailed : Outcome
  Closed : Outcome

-- a session: its packets, and the shelf before it and after it
pub record Row : Type 0 where
  pub note : SessionNote
  pub outcome : Outcome
  pub fault : Option FaultNote
  pub written : List Packet
  pub before : ShelfState
  pub after : ShelfState
  -- the number of its first segment, and that of the next segment after it
  pub first : ℕ
  pub next : ℕ

-- the calls of `begin` and of the packets
abbrev pub calls_of : Origin → Row → List ShelfCall
calls_of g r = begin_calls g r.first r.note.number ++ puts g r.first r.written

-- the packet stands at this place of a list
abbrev pub StandsAt : List Packet → ℕ → Packet → Type 0
StandsAt L i p = slice_get L i ≡ Some p

-- the calls that were made took so many numbers
abbrev pub Numbers : Origin → Row → List ShelfCall → Type 0
Numbers g r made = r.next ≡ number_after g.seg r.first made

-- What a session left, where packets have indices by this relation. A note says that it was closed exactly where it was. Each
-- segment that was created took a number, also where that was refused; the list, which is written at a session's end, takes none.
abbrev pub LeftBy : Origin → (ℕ → Packet → Type 0) → Row → Outcome → Type 0
LeftBy g At r Open = (r.note.begun ≡ true) × (r.note.closed ≡ false) × Completed (calls_of g r) r.before r.after × Numbers g r (calls_of g r)
LeftBy g At r NotCalled =
    (r.note.begun ≡ false) × (r.note.closed ≡ false) × (r.written ≡ []) × (asks_list g.seg ≡ true) × (r.after ≡ r.before) × (r.next ≡ r.first)
LeftBy g At r NotBegun =
    (r.note.begun ≡ false) × (r.note.closed ≡ false) × (r.written ≡ [])
    × (stop : Stopped (begin_calls g r.first r.note.number) 0 r.before r.after) × Numbers g r (called stop)
LeftBy g At r (PutFailed i p) =
    (r.note.begun ≡ true) × (r.note.closed ≡ false) × At i p
    × (stop : Stopped (calls_of g r ++ put_calls g r.first r.written p) (length (calls_of g r)) r.before r.after) × Numbers g r (called stop)
LeftBy g At r EndFailed =
    (r.note.begun ≡ true) × (r.note.closed ≡ false)
    × Stopped (calls_of g r ++ end_calls g r.first r.written) (length (calls_of g r)) r.before r.after × Numbers g r (calls_of g r)
LeftBy g At r Closed =
    (r.note.begun ≡ true) × (r.note.closed ≡ true) × Completed (calls_of g r ++ end_calls g r.first r.written) r.before r.after
    × Numbers g r (calls_of g r)

-- the call at which a session ended is that of its note
abbrev pub IsAt : Outcome → FaultAt → Type 0
IsAt Open at = ⊥
IsAt NotCalled at = ⊥
IsAt NotBegun at = at ≡ Begin
IsAt (PutFailed i p) at = at ≡ Put i
IsAt EndFailed at = at ≡ End
IsAt Closed at = ⊥

-- a session that a call of the shelf ended
abbrev pub stopped : Outcome → Bool
stopped Open = false
stopped NotCalled = false
stopped NotBegun = true
stopped (PutFailed i p) = true
stopped EndFailed = true
stopped Closed = false

-- the note of a session's fault, where it has one; a session that was stopped without a note wanted memory
abbrev pub NoteFits : Row → Option FaultNote → Type 0
NoteFits r None = stopped r.outcome ≡ true → Rose r.before.wants r.after.wants
NoteFits r (Some n) = (n.session ≡ r.note.number) × IsAt r.outcome n.at × (n.before ≤ n.after) × Rose n.before n.after
    × (r.before.faults ≤ n.before) × (n.after ≡ r.after.faults)

abbrev pub RowHolds : Origin → (ℕ → Packet → Type 0) → Row → Type 0
RowHolds g At r = LeftBy g At r r.outcome × NoteFits r r.fault × (r.before.faults ≤ r.after.faults) × (r.before.wants ≤ r.after.wants)

abbrev pub AllRows : Origin → (ℕ → Packet → Type 0) → List Row → Type 0
AllRows g At [] = Unit {0}
AllRows g At (r ∷ rs) = RowHolds g At r × AllRows g At rs

-- each session begins where the one before it left the shelf
abbrev pub Chain : ShelfState → List Row → ShelfState → Type 0
Chain first [] now = first ≡ now
Chain first (r ∷ rs) now = (r.before ≡ first) × Chain r.after rs now

-- the segments of a session are numbered on from those of the session before it, and from `number` on
abbrev pub GoesOnFrom : ℕ → List Row → ℕ → Type 0
GoesOnFrom number [] next = number ≡ next
GoesOnFrom number (r ∷ rs) next = (r.first ≡ number) × GoesOnFrom r.next rs next

abbrev pub row_note : Row → SessionNote
row_note r = r.note

abbrev pub row_fault : Row → Option FaultNote
row_fault r = r.fault

-- the packets of a session, each with the session's number
abbrev pub row_packets : Row → List (ℕ × Packet)
row_packets r = map (λ p. (r.note.number, p)) r.written

abbrev pub if_written : Packet → Fate → List (ℕ × Packet)
if_written p (fate.Written s) = (s, p) ∷ []
if_written p _ = []

-- the packets with fate Written, each with its session, in order
abbrev pub written_of : List Packet → List (ℕ × Fate) → List (ℕ × Packet)
written_of [] fs = []
written_of (p ∷ ps) [] = []
written_of (p ∷ ps) (f ∷ fs) = if_written p f.1 ++ written_of ps fs

abbrev pub if_given : Given → Fate → List (ℕ × Packet)
if_given (Sent i p) f = if_written p f
if_given (Swept i n) f = []

-- the same among all that was given
abbrev pub written_among : List Given → List (ℕ × Fate) → List (ℕ × Packet)
written_among [] fs = []
written_among (t ∷ ts) [] = []
written_among (t ∷ ts) (f ∷ fs) = if_given t f.1 ++ written_among ts fs

-- The fates of a history, the oldest first, with those of the refused packets that lie between two without memory.
abbrev pub covered : History → List (ℕ × Fate)
covered [] = []
covered (Begun a ∷ h) = covered h
covered (Tried s i facts a ∷ h) = covered h
covered (Fated i f ∷ h) = pushed (covered h) i f
covered (Want ∷ h) = covered h

-- the notes are those of the history's faults
abbrev pub NotesTell : History → List FaultNote → Type 0
NotesTell [] ns = ns ≡ []
NotesTell (Begun answer.Fault ∷ h) ns =
    (front : List FaultNote) × (n : FaultNote) × (ns ≡ front ++ n ∷ []) × (n.session ≡ 0) × (n.at ≡ Begin) × NotesTell h front
NotesTell (Begun answer.Done ∷ h) ns = NotesTell h ns
NotesTell (Begun answer.NoMemory ∷ h) ns = NotesTell h ns
NotesTell (Tried s i facts answer.Fault ∷ h) ns =
    (front : List FaultNote) × (n : FaultNote) × (ns ≡ front ++ n ∷ []) × (n.session ≡ s) × ((n.at ≡ Put i) ⊎ ((n.at ≡ Begin) × (s ≢ session_of h))) × NotesTell h front
NotesTell (Tried s i facts answer.Done ∷ h) ns = NotesTell h ns
NotesTell (Tried s i facts answer.NoMemory ∷ h) ns = NotesTell h ns
NotesTell (Fated i f ∷ h) ns = NotesTell h ns
NotesTell (Want ∷ h) ns = NotesTell h ns

-- sessions are numbered without a gap
abbrev pub Numbered : ℕ → List Row → Type 0
Numbered n [] = Unit {0}
Numbered n (r ∷ rs) = (r.note.number ≡ n) × Numbered (n + 1) rs

-- memory was wanted while this packet was in hand
abbrev pub WantedAt : History → ℕ → Type 0
WantedAt [] i = ⊥
WantedAt (Begun a ∷ h) i = WantedAt h i
WantedAt (Tried s j facts a ∷ h) i = ((j ≡ i) × (a ≡ answer.NoMemory)) ⊎ WantedAt h i
WantedAt (Fated j f ∷ h) i = WantedAt h i
WantedAt (Want ∷ h) i = WantedAt h i

-- The muxer's end wasn't called for the session. Where the write of a packet wanted memory, that packet was then in hand.
abbrev pub Unended : History → Outcome → Option FaultNote → Type 0
Unended h Open n = Unit {0}
Unended h NotCalled n = Unit {0}
Unended h NotBegun n = Unit {0}
Unended h (PutFailed i p) (Some n) = Unit {0}
Unended h (PutFailed i p) None = WantedAt h i
Unended h EndFailed n = ⊥
Unended h Closed n = ⊥

-- The last session is the one that was tried last; while the output is live and no memory was wanted it is open, and the
-- muxer is where its packets left it, all of them flushed.
pub record LastRow (g : Origin) (o : FifoOptions) (h : History) (writer : Writer) (rows : List Row) : Type 0 where
  pub front : List Row
  pub last : Row
  pub split : rows ≡ front ++ last ∷ []
  pub number : last.note.number ≡ session_of h
  pub is_open : wanted h ≡ false → mode_of o h ≡ Live → (last.outcome ≡ Open) × WriterAfter g last.first last.written writer
  pub unended : Unended h last.outcome last.fault

-- What is recorded agrees with this history of what was given. The packets ahead were written, and their fates are not yet recorded.
pub record Table (g : Origin) (o : FifoOptions) (T : List Given) (h : History) (ahead : List (ℕ × Packet))
    (shelf : ShelfState) (writer : Writer) (runs : List Run) (sessions : List SessionNote) (faults : List FaultNote) : Type 0 where
  pub rows : List Row
  pub last : LastRow g o h writer rows
  pub numbered : Numbered 0 rows
  pub are_sessions : sessions ≡ map row_note rows
  pub are_faults : faults ≡ filter_map row_fault rows
  pub chain : Chain g.shelf rows shelf
  pub segments : GoesOnFrom (start_of g.seg) rows (number_in writer.mux)
  pub each : AllRows g (Gives T) rows
  pub packets : flat_map row_packets rows ≡ written_among T (fates_of h) ++ ahead
  pub fates : expand runs ≡ covered h
  pub notes : NotesTell h faults
  pub writing : wanted h ≡ false → shelf.writing ≡ mode_is_live (mode_of o h)
  pub sound : SoundStays g.shelf shelf
  pub safe : g.shelf.sound ≡ true → faults ≡ []
  -- where nothing was refused or flushed and no list is asked for, the count of wants rose where memory was wanted and no fault was
  -- noted
  pub wants : g.shelf.wants ≤ shelf.wants
  pub excuse : asks_list g.seg ≡ false → IsGapless T → wanted h ≡ true → faults ≡ [] → Rose g.shelf.wants shelf.wants

-- the packets come one after another, from the n-th on
abbrev pub turns_from : Origin → ℕ → List Packet → List Turn
turns_from g n [] = []
turns_from g n (p ∷ ps) = Comes n (facts_of g p) ∷ turns_from g (n + 1) ps

-- the fates are those of the packets n, n + 1 and so on
abbrev pub Indexed : ℕ → List (ℕ × Fate) → Type 0
Indexed n [] = Unit {0}
Indexed n (x ∷ xs) = (x.0 ≡ n) × Indexed (n + 1) xs

-- places are reserved for what the next turn may have to record
pub record HasPlaces (o : FifoOptions) (h : History) (v : JobView) : Type 0 where
  pub runs : (1 ≤ v.run_places) ⊎ ((wanted h ≡ true) × Joins v.runs (next_of v.fifo) fate.NoMemory)
  pub sessions : wanted h ≡ false → mode_is_live (mode_of o h) ≡ false → 1 ≤ v.session_places
  pub faults : wanted h ≡ false → 1 ≤ v.fault_places
  -- the first run takes places that are there from the start
  pub first : v.runs ≡ [] → 2 ≤ v.run_places

-- the indices of these fates
abbrev pub indices : List (ℕ × Fate) → List ℕ
indices fs = map (λ x. x.0) fs

-- the job stands where this history of what was given left it
pub record Stands (g : Origin) (o : FifoOptions) (T : List Given) (h : History) (v : JobView) : Type 0 where
  pub shows : Shows o h None v.fifo
  pub next : next_of v.fifo ≡ end_from 0 T
  pub kit : KitOf g v.kit
  pub count : length (fates_of h) ≡ length T
  pub indexed : indices (fates_of h) ≡ map index_of T
  pub order : AreInOrder (end_from 0 T) v.runs
  pub table : Table g o T h [] v.shelf v.kit.writer v.runs v.sessions v.faults
  pub places : HasPlaces o h v

-- the job stands where all this, from the first on, left it
pub record KeepsAll (g : Origin) (o : FifoOptions) (T : List Given) (v : JobView) : Type 0 where
  pub history : History
  pub follows : Follows o (map (turn_of g) T) history
  pub stands : Stands g o T history v

-- and its history goes on from the one before; an output that was given up stays so
pub record GrowsAll (g : Origin) (o : FifoOptions) (T : List Given) (before : History) (v : JobView) : Type 0 where
  pub keeps : KeepsAll g o T v
  pub later : History
  pub goes_on : keeps.history ≡ later ++ before
  pub stays_dead : mode_is_dead (mode_of o before) ≡ true → mode_is_dead (mode_of o keeps.history) ≡ true

-- the job stands where these packets, all from the first on, left it
pub record Keeps (g : Origin) (o : FifoOptions) (L : List Packet) (v : JobView) : Type 0 where
  pub history : History
  pub follows : Follows o (turns_from g 0 L) history
  pub stands : Stands g o (sent_from 0 L) history v

-- The job stands where these packets left it, and its history goes on from the one before. An output that was given up
-- stays so.
pub record Grows (g : Origin) (o : FifoOptions) (L : List Packet) (before : History) (v : JobView) : Type 0 where
  pub keeps : Keeps g o L v
  pub later : History
  pub goes_on : keeps.history ≡ later ++ before
  pub stays_dead : mode_is_dead (mode_of o before) ≡ true → mode_is_dead (mode_of o keeps.history) ≡ true

abbrev pub ahead_of : ℕ → Packet → Answer → List (ℕ × Packet)
ahead_of s p answer.Done = (s, p) ∷ []
ahead_of s p answer.Fault = []
ahead_of s p answer.NoMemory = []

-- the packet in hand, which is the last, was tried with this answer, which the machine wasn't told yet
pub record Holds (g : Origin) (o : FifoOptions) (T : List Given) (i : ℕ) (p : Packet) (h : History) (a : Answer) (v : JobView) : Type 0 where
  pub shows : Shows o h (Some (i, facts_of g p)) v.fifo
  pub next : next_of v.fifo ≡ i + 1
  pub kit : KitOf g v.kit
  pub count : length (fates_of h) ≡ length T
  pub indexed : indices (fates_of h) ≡ map index_of T
  pub order : AreInOrder i v.runs
  pub unwanted : wanted h ≡ false
  pub table : Table g o (T ++ Sent i p ∷ []) (Tried (trying o h) i (facts_of g p) a ∷ h) (ahead_of (trying o h) p a)
      v.shelf v.kit.writer v.runs v.sessions v.faults
  -- there is a place for the run of a written packet, and one more for want of memory
  pub room : Joins v.runs i (fate.Written (trying o h)) ⊎ (2 ≤ v.run_places)
  pub last_place : 1 ≤ v.run_places
  pub places : answered_done a ≡ true → 1 ≤ v.fault_places

-- the turn of the packet in hand ends so
abbrev pub Finished : FifoOptions → History → ℕ → PacketFacts → Answer → History → Type 0
Finished o h i facts a new = (g : History) × MayWant h g × Answered o g i facts a (after_of o g i facts a) new

-- the machine was told the answer for the packet in hand, after places were asked for where it was a fault
pub record Tells (o : FifoOptions) (h : History) (i : ℕ) (facts : PacketFacts) (a : Answer) (old : JobView) (r : After) (new : JobView) : Type 0 where
  pub told : History
  pub may : MayWant h told
  pub result : r ≡ after_of o told i facts a
  pub shows : Shows o (after_answer o told i facts a r) (hand_after_answer i facts r) new.fifo
  pub next : next_of new.fifo ≡ next_of old.fifo
  pub shelf : new.shelf ≡ old.shelf
  pub kit : new.kit ≡ old.kit
  pub runs : new.runs ≡ old.runs
  pub sessions : new.sessions ≡ old.sessions
  pub faults : new.faults ≡ old.faults
  pub run_places : old.run_places ≤ new.run_places
  pub session_places : old.session_places ≤ new.session_places
  pub fault_places : old.fault_places ≤ new.fault_places
  pub not_asked : answered_fault a ≡ false → told ≡ h
  pub granted : answered_fault a ≡ true → told ≡ h → (2 ≤ new.run_places) × (1 ≤ new.session_places) × (1 ≤ new.fault_places)

-- the fate that a packet has if its calls are all done
abbrev pub expected_in : FifoOptions → History → Action → Fate
expected_in o h (action.Settle f) = f
expected_in o h action.Write = fate.Written (trying o h)
expected_in o h action.OpenAndWrite = fate.Written (trying o h)

-- the turn of the packet in hand is over
pub record Ends (g : Origin) (o : FifoOptions) (T : List Given) (i : ℕ) (p : Packet) (h : History) (a : Answer) (v : JobView) : Type 0 where
  pub fate_is : Fate
  pub told : History
  pub may : MayWant h told
  pub result : after_of o told i (facts_of g p) a ≡ after.Settle fate_is
  pub stands : Stands g o (T ++ Sent i p ∷ []) (Fated i fate_is ∷ Tried (trying o told) i (facts_of g p) a ∷ told) v

pub record Concludes (g : Origin) (o : FifoOptions) (T : List Given) (i : ℕ) (p : Packet) (h : History) (a : Answer) (v : JobView) : Type 0 where
  pub new : History
  pub finished : Finished o h i (facts_of g p) a new
  pub stands : Stands g o (T ++ Sent i p ∷ []) new v

-- the packet fits the files of its output
abbrev pub Takes : Origin → Packet → Type 0
Takes g p = Fits (file_format g.format g.seg) g.streams p

-- The job stands there and is given this with what came before it, and there is room for the run that this fate may need.
pub record Primed (g : Origin) (o : FifoOptions) (T : List Given) (t : Given) (f : Fate) (h : History) (v : JobView) : Type 0 where
  pub shows : Shows o h None v.fifo
  pub later : next_of v.fifo ≤ index_of t
  pub kit : KitOf g v.kit
  pub count : length (fates_of h) ≡ length T
  pub indexed : indices (fates_of h) ≡ map index_of T
  pub order : AreInOrder (index_of t) v.runs
  pub table : Table g o (T ++ t ∷ []) h [] v.shelf v.kit.writer v.runs v.sessions v.faults
  pub places : HasPlaces o h v
  pub room : wanted h ≡ false → Joins v.runs (index_of t) f ⊎ (2 ≤ v.run_places)

abbrev pub PrimedFor : Origin → FifoOptions → List Given → ℕ → Packet → History → JobView → Type 0
PrimedFor g o T i p h v = Primed g o T (Sent i p) (expected_in o h (action_of o h i (facts_of g p))) h v

pub record Acts (g : Origin) (o : FifoOptions) (T : List Given) (i : ℕ) (p : Packet) (h : History) (v : JobView) : Type 0 where
  pub new : History
  pub acted : Acted o h i (facts_of g p) (action_of o h i (facts_of g p)) new
  pub stands : Stands g o (T ++ Sent i p ∷ []) new v

-- a packet was flushed
pub record Sweeps (g : Origin) (o : FifoOptions) (T : List Given) (i n : ℕ) (h : History) (v : JobView) : Type 0 where
  pub stands : Stands g o (T ++ Swept i n ∷ []) (Fated i (flush_of o h n) ∷ h) v

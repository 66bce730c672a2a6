-- What a run comes to.
use Rattle.std.specs.Prelude.{◌≡◌, ℕ, ◌<◌, ◌≤◌, ◌⊎◌, min, List, [], ◌++◌, length, map, Bool, true, false, Some, None, is_some, IfSome, IsSomeAnd, Ok, Err}
use Rattle.rmx_media.specs.declared.packet.Packet.{Packet}
use Rattle.rmx_media.specs.declared.streams.StreamInfo.{StreamInfo}
use Rattle.rmx_edge.specs.Count.{most, Rose}
use Rattle.rmx_edge.specs.Inputs.{InputState}
use Rattle.rmx_edge.specs.Shelf.{ShelfState}
use Rattle.flv_tags.specs.declared.tag.Tag.{Tag}
use Rattle.flv_tags.specs.declared.tag.TagFault.{TagFault}
use Rattle.flv_tags.specs.declared.tag.TagFault.TheVariants as tag_fault
use Rattle.flv_tags.specs.Tags.{reading_of}
use Rattle.flv_demux.specs.Probe.{probe_of, is_decided, streams, script, kinds}
use Rattle.flv_demux.specs.Deal.{desk_of, no_discards}
use Rattle.flv_demux.specs.declared.deal.Shown.{Shown}
use Rattle.fifo_core.specs.declared.types.EndState.{EndState}
use Rattle.options.specs.declared.fault.WordKind.{WordKind}
use Rattle.options.specs.declared.fault.WordKind.TheVariants as kind
use Rattle.options.specs.declared.fault.WordFault.{WordFault}
use Rattle.options.specs.declared.slave.SlavePlan.{SlavePlan}
use Rattle.options.specs.declared.words.Source.{Source}
use Rattle.options.specs.declared.words.Source.TheVariants.{Named, Generated}
use Rattle.options.specs.Words.{Planned, Placed}
use Rattle.slave.specs.declared.job.SlaveEnd.{SlaveEnd}
use Rattle.slave.specs.End.{EndView, end_view}
use Rattle.tee.specs.Seat.{Seat, AreSeats, aborts, first_without}
use Rattle.tee.specs.Fails.{failed_slave, any_want}
use Rattle.tee.specs.Ends.{EndsAll}
use Rattle.tee.specs.Keeps.{infos_of, Keeps}
use Rattle.tee.specs.declared.fault.TeeFault.{TeeFault}
use Rattle.tee.specs.declared.fault.TeeFault.TheVariants as tee_fault
use Rattle.tee.specs.declared.tee.Tee.{Tee}
use Rattle.rmx_edge.specs.declared.shelf.Shelf.{Ghosts}
use Rattle.interleaver.specs.Queues.{Pending}
use Rattle.remux.specs.Starting.{new_line}
use Rattle.remux.specs.Asked.{Asked, asked_of, pictures_of}
use Rattle.remux.specs.Generated.{generated, telling}
use Rattle.remux.specs.Came.{CameTo, order_of}
use Rattle.remux.specs.Demuxed.{is_refused}
use Rattle.remux.specs.Ending.{status_by}
use Rattle.remux.specs.Finding.{LateProbe}
use Rattle.remux.specs.Kept.{AreKept}
use Rattle.remux.specs.States.{states, aborts_of, some_want}
use Rattle.remux.specs.Took.{SawEnd}
use Rattle.remux.specs.declared.probe.Unfound.{Unfound}
use Rattle.remux.specs.declared.probe.Unfound.TheVariants as unfound
use Rattle.remux.specs.declared.read.ReadEnd.{ReadEnd}
use Rattle.remux.specs.declared.read.ReadEnd.TheVariants as read_end
use Rattle.remux.specs.declared.run.Outcome.{Outcome}
use Rattle.remux.specs.declared.status.Status.{Status}
use Rattle.remux.specs.declared.status.Status.TheVariants as status
use Rattle.remux.specs.declared.status.Refusal.TheVariants as refusal

-- these bytes are the first ones of the input of that name, at most so many, and the rest is left, where the inputs tell it
pub record Taken (name : List ℕ) (max : ℕ) (bytes : List ℕ) (old new : InputState) : Type 0 where
  pub told : IfSome old.view (λ v. IsSomeAnd new.view (λ w. v.bytes_of name ≡ Some (bytes ++ w.left)))
  pub long : length bytes ≤ max

-- an input was opened
pub record Opened (name : List ℕ) (old new : InputState) : Type 0 where
  pub told : IfSome old.view (λ v. IsSomeAnd new.view (λ w. v.bytes_of name ≡ Some w.left))
  pub faults : old.faults ≤ new.faults

-- it is settled which streams there are: by the tags, by the end, or since no more may be taken
abbrev pub IsSettled : ℕ → List ℕ → InputState → Type 0
IsSettled max bytes new = (is_decided (probe_of (reading_of bytes).tags) ≡ true) ⊎ (SawEnd new ⊎ (length bytes ≡ max))

-- a text that is no FLV text, of which nine bytes came or all, and no further piece
pub record IsRefused (f : TagFault) (asked : Asked) (old new : InputState) : Type 0 where
  pub bytes : List ℕ
  pub taken : Taken asked.source asked.max_bytes bytes old new
  pub verdict : (reading_of bytes).verdict ≡ Some f
  pub enough : (9 ≤ length bytes) ⊎ SawEnd new
  pub late : LateProbe bytes

-- a text of which it is settled that there are these streams, and of which no further piece came
pub record Settled (asked : Asked) (infos : List StreamInfo) (old new : InputState) : Type 0 where
  pub bytes : List ℕ
  pub taken : Taken asked.source asked.max_bytes bytes old new
  pub streams_are : streams (reading_of bytes).tags ≡ infos
  pub settled : IsSettled asked.max_bytes bytes new
  pub calm : is_refused (reading_of bytes).verdict ≡ false
  pub late : LateProbe bytes

-- a text that broke off before that, where more might have been taken
pub record BrokeOff (asked : Asked) (old new : InputState) : Type 0 where
  pub bytes : List ℕ
  pub taken : Taken asked.source asked.max_bytes bytes old new
  pub fewer : length bytes < asked.max_bytes
  pub undecided : is_decided (probe_of (reading_of bytes).tags) ≡ false
  pub calm : 9 ≤ length bytes → is_refused (reading_of bytes).verdict ≡ false

-- the input was not opened
abbrev pub Unopened : InputState → InputState → Type 0
Unopened old new = (new.view ≡ old.view) × (new.readable ≡ false)

-- there are streams, and output k is the first that takes none of them
pub record TakesNone (k : ℕ) (asked : Asked) (old new : InputState) : Type 0 where
  pub infos : List StreamInfo
  pub some : infos ≡ [] → ⊥
  pub first : first_without infos asked.slaves ≡ Some k
  pub settled : Settled asked infos old new

-- memory was wanted: before the input was opened, or with these bytes of it taken
abbrev pub WantsBefore : Asked → InputState → InputState → Type 0
WantsBefore asked old new = (new ≡ old) ⊎ ((bytes : List ℕ) × Taken asked.source asked.max_bytes bytes old new)

-- a run that ended before outputs were made
abbrev pub EndsEarly : Status → Asked → InputState → InputState → Type 0
EndsEarly status.Done asked old new = ⊥
EndsEarly (status.Words f) asked old new = ⊥
EndsEarly status.InputFault asked old new = Rose old.faults new.faults × (Unopened old new ⊎ BrokeOff asked old new)
EndsEarly (status.InputRefused refusal.NotFlv) asked old new = IsRefused tag_fault.NotFlv asked old new
EndsEarly (status.InputRefused refusal.BadOffset) asked old new = IsRefused tag_fault.BadOffset asked old new
EndsEarly (status.InputRefused refusal.NoStreams) asked old new = Settled asked [] old new
EndsEarly (status.InputRefused (refusal.NoneSelected k)) asked old new = TakesNone k asked old new
EndsEarly (status.InputEnded e) asked old new = ⊥
EndsEarly (status.SlaveFailed k) asked old new = ⊥
EndsEarly status.NoMemory asked old new = WantsBefore asked old new
EndsEarly status.ReportFault asked old new = ⊥

-- the outcome of a run that made no output
pub record IsNothing {S : Type 0} (s : Status) (shelves : List S) (o : Outcome S) : Type 0 where
  pub status_is : o.status ≡ s
  pub tags : o.tags ≡ 0
  pub upto : o.upto ≡ 0
  pub ends : o.ends.items ≡ []
  pub spare : o.spare.items ≡ shelves
  pub discards : o.discards ≡ no_discards

abbrev pub states_of : List EndView → List EndState
states_of ends = map (λ (e : EndView). e.state) ends

-- what is said of outputs that ended together: by what they were given, and after how many packets one that aborts, or every
-- one, was known to be dead
abbrev pub OfAll : Type 1
OfAll = List Seat → List Packet → (ℕ → Bool) → List EndView → Type 0

-- what is promised of each
abbrev pub OfEach : Type 1
OfEach = List Seat → List Packet → List EndView → Type 0

-- the outcome of a run whose outputs were made, of whose ends this holds
pub record IsWrittenBy (Ends : OfAll) (Kept : OfEach) {S : Type 0} (state : S → ShelfState) (asked : Asked) (old new : InputState) (shelves : List S) (o : Outcome S) : Type 0 where
  -- what was taken of the input; it is settled which streams there are, and each output takes one
  pub bytes : List ℕ
  pub taken : Taken asked.source asked.max_bytes bytes old new
  pub settled : IsSettled asked.max_bytes bytes new
  pub calm : is_refused (reading_of bytes).verdict ≡ false
  pub some : streams (reading_of bytes).tags ≡ [] → ⊥
  pub each_takes : first_without (streams (reading_of bytes).tags) asked.slaves ≡ None
  -- output k has shelf k, and the other shelves are left as they were
  pub seats : List Seat
  pub are_seats : AreSeats state (streams (reading_of bytes).tags) (script (reading_of bytes).tags) asked.slaves shelves seats o.spare.items
  -- these packets of the whole order were handed over
  pub given : List Packet
  pub rest : List Packet
  pub order : order_of asked.delta_us (reading_of bytes).tags ≡ given ++ rest
  pub upto : o.upto ≡ length given
  -- where an output that aborts, or every one, was known to be dead: not before the last of them
  pub dead : ℕ → Bool
  pub alive : (u : ℕ) → 0 < u → u < length given → dead u ≡ false
  -- how the outputs ended, and what is promised of each
  pub ends : Ends seats given dead (map (end_view state) o.ends.items)
  pub kept : Kept seats given (map (end_view state) o.ends.items)
  -- how the reading ended, and the tags that were dealt with
  pub reading : ReadEnd
  pub done : List Tag
  pub came : CameTo reading asked.max_bytes asked.delta_us old new bytes given rest done dead
  pub tags : o.tags ≡ min (length done) most
  pub discards : (reading ≡ read_end.NoMemory → ⊥) → o.discards ≡ (desk_of (kinds (reading_of bytes).tags) done).discards
  -- the status
  pub status_is : o.status ≡ status_by reading (failed_slave (aborts seats) (states_of (map (end_view state) o.ends.items))) (any_want (states_of (map (end_view state) o.ends.items)))
  -- where one was known to be dead, one failed
  pub stops : dead (length given) ≡ true → any_want (states_of (map (end_view state) o.ends.items)) ≡ false
      → is_some (failed_slave (aborts seats) (states_of (map (end_view state) o.ends.items))) ≡ true

-- what is asked comes to this
abbrev pub ComesToBy : OfAll → OfEach → {S : Type 0} → (S → ShelfState) → Asked → InputState → InputState → List S → Outcome S → Type 0
ComesToBy Ends Kept state asked old new shelves o =
    (IsNothing o.status shelves o × EndsEarly o.status asked old new) ⊎ IsWrittenBy Ends Kept state asked old new shelves o

-- the outcome of a run whose reading and whose outputs ended so, and which handed over so many packets
pub record Concludes {S : Type 0} (slaves : List SlavePlan) (shown : Shown) (reading : ReadEnd) (given : ℕ) (ends : List (SlaveEnd S)) (spare : List S) (o : Outcome S) : Type 0 where
  pub status_is : o.status ≡ status_by reading (failed_slave (aborts_of slaves) (states ends)) (some_want ends)
  pub tags : o.tags ≡ shown.tags
  pub upto : o.upto ≡ given
  pub ends_are : o.ends.items ≡ ends
  pub spare_is : o.spare.items ≡ spare
  pub discards : o.discards ≡ shown.discards

-- the outcome of another status
abbrev pub with_status : {S : Type 0} → Status → Outcome S → Outcome S
with_status s o = record { status = s; tags = o.tags; upto = o.upto; ends = o.ends; spare = o.spare; discards = o.discards }

-- the report changes the status Done alone
abbrev pub IsReported : Status → Status → Type 0
IsReported s t = (t ≡ s) ⊎ ((s ≡ status.Done) × (t ≡ status.ReportFault))

-- what is asked comes to this over a text that is made while it is read: it is there under every name and never fails, and
-- the inputs stay as they were
pub record MakesAndComesToBy (Ends : OfAll) (Kept : OfEach) {S : Type 0} (state : S → ShelfState) (text : List ℕ) (asked : Asked) (old new : InputState) (shelves : List S) (o : Outcome S) : Type 0 where
  pub untouched : new ≡ old
  pub after : InputState
  pub faultless : after.faults ≡ 0
  pub comes : ComesToBy Ends Kept state asked (telling text text false false) after shelves o

-- what is asked of the input of a plan comes to this
abbrev pub ComesFromBy : OfAll → OfEach → {S : Type 0} → (S → ShelfState) → Source → Asked → InputState → InputState → List S → Outcome S → Type 0
ComesFromBy Ends Kept state (Named name) asked old new shelves o = ComesToBy Ends Kept state asked old new shelves o
ComesFromBy Ends Kept state (Generated count) asked old new shelves o = MakesAndComesToBy Ends Kept state (generated (pictures_of count)) asked old new shelves o

-- what a plan comes to: the status that the run has, but for a report that could not be written
abbrev pub RunsPlanBy : OfAll → OfEach → {S : Type 0} → (S → ShelfState) → Source → Asked → InputState → InputState → List S → Outcome S → Type 0
RunsPlanBy Ends Kept state source asked old new shelves o = (s : Status) × IsReported s o.status × ComesFromBy Ends Kept state source asked old new shelves (with_status s o)

abbrev pub fault_at : WordKind × ℕ → Status
fault_at f = status.Words record { kind = f.0; word = min f.1 4294967295 }

abbrev pub word_status_by : WordKind → WordFault → Status
word_status_by kind.NoMemory f = status.NoMemory
word_status_by k f = status.Words f

-- how a run ends whose words have a fault, or for which memory was wanted
abbrev pub word_status : WordFault → Status
word_status f = word_status_by f.kind f

-- memory was wanted for the words
abbrev pub WantsEarly : {S : Type 0} → InputState → InputState → List S → Outcome S → Type 0
WantsEarly old new shelves o = IsNothing status.NoMemory shelves o × (new ≡ old)

-- what words come to
abbrev pub RunsAsBy : OfAll → OfEach → {S : Type 0} → (S → ShelfState) → Placed Planned → InputState → InputState → List S → Outcome S → Type 0
RunsAsBy Ends Kept state (Ok p) old new shelves o = RunsPlanBy Ends Kept state p.source (asked_of p) old new shelves o ⊎ WantsEarly old new shelves o
RunsAsBy Ends Kept state (Err f) old new shelves o = (IsNothing (fault_at f) shelves o × (new ≡ old)) ⊎ WantsEarly old new shelves o

-- the same of outputs that the reader writes itself
abbrev pub IsWritten : {S : Type 0} → (S → ShelfState) → Asked → InputState → InputState → List S → Outcome S → Type 0
IsWritten = IsWrittenBy EndsAll AreKept

abbrev pub ComesTo : {S : Type 0} → (S → ShelfState) → Asked → InputState → InputState → List S → Outcome S → Type 0
ComesTo = ComesToBy EndsAll AreKept

abbrev pub MakesAndComesTo : {S : Type 0} → (S → ShelfState) → List ℕ → Asked → InputState → InputState → List S → Outcome S → Type 0
MakesAndComesTo = MakesAndComesToBy EndsAll AreKept

abbrev pub ComesFrom : {S : Type 0} → (S → ShelfState) → Source → Asked → InputState → InputState → List S → Outcome S → Type 0
ComesFrom = ComesFromBy EndsAll AreKept

abbrev pub RunsAs : {S : Type 0} → (S → ShelfState) → Placed Planned → InputState → InputState → List S → Outcome S → Type 0
RunsAs = RunsAsBy EndsAll AreKept

-- an input that is sound doesn't fail
abbrev pub ReadsAsked : Asked → InputState → InputState → Type 0
ReadsAsked asked old new = old.sound_at asked.source ≡ true → new.faults ≡ old.faults

abbrev pub ReadsSound : Placed Planned → InputState → InputState → Type 0
ReadsSound (Ok p) old new = ReadsAsked (asked_of p) old new
ReadsSound (Err f) old new = Unit {0}

abbrev pub refused_by : Unfound → Status
refused_by unfound.NotFlv = status.InputRefused refusal.NotFlv
refused_by unfound.BadOffset = status.InputRefused refusal.BadOffset
refused_by unfound.NoStreams = status.InputRefused refusal.NoStreams
refused_by unfound.InputFault = status.InputFault
refused_by unfound.NoMemory = status.NoMemory

abbrev pub unmade_by : TeeFault → Status
unmade_by (tee_fault.NoneSelected k) = status.InputRefused (refusal.NoneSelected k)
unmade_by tee_fault.NoMemory = status.NoMemory

-- a tee and an interleaver of the streams of these bytes, before the first packet
pub record IsMade {S : Type 0} {ghosts : Ghosts S} (state : S → ShelfState) (p : Planned) (bytes : List ℕ) (line : Pending) (tee : Tee S ghosts) (seats : List Seat) : Type 0 where
  pub keeps : Keeps state tee seats []
  pub infos : infos_of tee ≡ streams (reading_of bytes).tags
  pub line_is : line ≡ new_line (length (streams (reading_of bytes).tags)) p.delta_us
  pub aborts_are : aborts seats ≡ map (λ s. s.abort) p.slaves

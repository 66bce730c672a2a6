-- What a run must come to where nothing fails.
use Rattle.std.specs.Prelude.{◌≡◌, ℕ, ◌<◌, ◌⊎◌, true, false, List, [], ◌∷◌, length, map, Some, None, IsSomeAnd, Ok, Err}
use Rattle.fifo_core.specs.declared.types.EndState.TheVariants as ends
use Rattle.fifo_core.specs.declared.types.Fate.{Fate}
use Rattle.fifo_core.specs.declared.types.Fate.TheVariants as fate
use Rattle.flv_demux.specs.Probe.{streams}
use Rattle.flv_tags.specs.Tags.{reading_of}
use Rattle.options.specs.Slave.{Slave}
use Rattle.options.specs.Words.{Planned, Placed}
use Rattle.options.specs.declared.words.Source.{Source}
use Rattle.options.specs.declared.words.Source.TheVariants.{Named, Generated}
use Rattle.rmx_edge.specs.Count.{Rose}
use Rattle.rmx_edge.specs.Inputs.{InputState}
use Rattle.rmx_edge.specs.Shelf.{ShelfState}
use Rattle.rmx_edge.specs.Sink.{SinkState}
use Rattle.slave.specs.End.{EndView, end_view}
use Rattle.slave.specs.Runs.{expand}
use Rattle.slave.specs.Segments.{asks_list}
use Rattle.tee.specs.Seat.{first_without}
use Rattle.remux.specs.Asked.{Asked, asked_of, pictures_of}
use Rattle.remux.specs.Generated.{generated}
use Rattle.remux.specs.declared.run.Outcome.{Outcome}
use Rattle.remux.specs.declared.status.Status.{Status}
use Rattle.remux.specs.declared.status.Status.TheVariants as status

-- the input that is asked for is this text, where the inputs tell it
abbrev pub IsThere : Source → InputState → List ℕ → Type 0
IsThere (Named name) old text = IsSomeAnd old.view (λ v. v.bytes_of name ≡ Some text)
IsThere (Generated count) old text = text ≡ generated (pictures_of count)

-- a whole text below the limit, of which each output takes a stream
pub record IsGood (asked : Asked) (text : List ℕ) : Type 0 where
  pub whole : (reading_of text).verdict ≡ None
  pub short : length text < asked.max_bytes
  pub each_takes : first_without (streams (reading_of text).tags) asked.slaves ≡ None

-- of no output's shelf the count of faults rose; output k has shelf k
abbrev pub NoneFaulted : List EndView → List ShelfState → Type 0
NoneFaulted [] shelves = Unit {0}
NoneFaulted (e ∷ es) [] = Unit {0}
NoneFaulted (e ∷ es) (x ∷ xs) = (Rose x.faults e.shelf.faults → ⊥) × NoneFaulted es xs

-- each of these packets was written in the first session
abbrev pub AllWrittenFirst : List (ℕ × Fate) → Type 0
AllWrittenFirst [] = Unit {0}
AllWrittenFirst (x ∷ xs) = (x.1 ≡ fate.Written 0) × AllWrittenFirst xs

-- packets wait for the output rather than be refused
abbrev pub Waits : Slave → EndView → Type 0
Waits s e = (s.fifo.use_fifo ≡ false) ⊎ ((s.fifo.dropping ≡ false) ⊎ (e.inline ≡ true))

-- how an output of that plan must end on a shelf of that state, whatever became of the others and of the run
pub record EndsDuly (s : Slave) (before : ShelfState) (e : EndView) : Type 0 where
  -- it failed only where its shelf's count of faults rose
  pub failed : e.state ≡ ends.Failed → Rose before.faults e.shelf.faults
  -- it is closed, and each packet was written in its first session, where neither count of its shelf rose, it drops nothing, and
  -- no list of segments is asked for
  pub closed : Waits s e → asks_list s.seg ≡ false → (Rose before.faults e.shelf.faults → ⊥) → (Rose before.wants e.shelf.wants → ⊥)
      → (e.state ≡ ends.Closed) × AllWrittenFirst (expand e.fates)
  -- a sound shelf keeps its count of faults
  pub sound : before.sound ≡ true → e.shelf.faults ≡ before.faults

abbrev pub EachEndsDuly : List EndView → List Slave → List ShelfState → Type 0
EachEndsDuly [] slaves shelves = Unit {0}
EachEndsDuly (e ∷ es) [] shelves = ⊥
EachEndsDuly (e ∷ es) (s ∷ ss) [] = ⊥
EachEndsDuly (e ∷ es) (s ∷ ss) (x ∷ xs) = EndsDuly s x e × EachEndsDuly es ss xs

abbrev pub IsDoneOrWants : Status → Type 0
IsDoneOrWants s = (s ≡ status.Done) ⊎ (s ≡ status.NoMemory)

-- what a plan must come to
pub record CompletesPlan {S : Type 0} (state : S → ShelfState) (p : Planned) (old new : InputState) (shelves : List S) (out_old out_new : SinkState) (o : Outcome S) : Type 0 where
  pub each : EachEndsDuly (map (end_view state) o.ends.items) p.slaves (map state shelves)
  -- a good text comes to its end, or memory is wanted, where no count of faults rose
  pub well : (text : List ℕ) → IsThere p.source old text → IsGood (asked_of p) text → (Rose old.faults new.faults → ⊥)
      → NoneFaulted (map (end_view state) o.ends.items) (map state shelves) → (Rose out_old.faults out_new.faults → ⊥) → IsDoneOrWants o.status

-- what words must come to
abbrev pub Completes : {S : Type 0} → (S → ShelfState) → Placed Planned → InputState → InputState → List S → SinkState → SinkState → Outcome S → Type 0
Completes state (Ok p) old new shelves out_old out_new o = CompletesPlan state p old new shelves out_old out_new o
Completes state (Err f) old new shelves out_old out_new o = Unit {0}

-- An output on a sound shelf doesn't fail, and one that failed has a note.
use Rattle.std.proofs.Common.{◌≡◌, Bool, true, false, not, ◌&&◌, if◌then◌else◌, List, [], ◌∷◌, Option, Some, None, is_some, refl}
use Rattle.fifo_core.specs.declared.types.FifoOptions.{FifoOptions}
use Rattle.fifo_core.specs.declared.types.Answer.{Answer}
use Rattle.fifo_core.specs.declared.types.Answer.TheVariants as answer
use Rattle.fifo_core.specs.declared.types.EndState.TheVariants as ends
use Rattle.fifo_core.specs.declared.types.Mode.{Mode}
use Rattle.fifo_core.specs.declared.types.Mode.TheVariants.{Live, Broken, Dead}
use Rattle.fifo_core.specs.History.{Begun, Tried, Fated, Want, History, streak, mode_of, mode_is_live, wanted, is_live, end_of}
use Rattle.rmx_edge.specs.Counted.{with_count}
use Rattle.slave.specs.declared.records.FaultNote.{FaultNote}
use Rattle.slave.specs.Given.{Gives}
use Rattle.slave.specs.Table.{StandsAt, NotesTell}
use Rattle.slave.specs.Accounts.{NotesRise}
use Rattle.slave.specs.End.{EndNotes, SoundNeverFails}
use Rattle.slave.specs.Failures.{FailuresAreNoted}
use Rattle.slave.proofs.Steps.{not_empty}
use Rattle.slave.proofs.Faultless.{told_notes, notes_rise, notes_raise}

-- where nothing is noted there was no fault
no_streak : (h : History) → NotesTell h [] → streak h ≡ 0
no_streak [] t = refl
no_streak (Begun answer.Done ∷ h) t = no_streak h t
no_streak (Begun answer.Fault ∷ h) t = absurd (not_empty t.0 t.1 t.2)
no_streak (Begun answer.NoMemory ∷ h) t = no_streak h t
no_streak (Tried s i facts answer.Done ∷ h) t = refl
no_streak (Tried s i facts answer.Fault ∷ h) t = absurd (not_empty t.0 t.1 t.2)
no_streak (Tried s i facts answer.NoMemory ∷ h) t = no_streak h t
no_streak (Fated i f ∷ h) t = no_streak h t
no_streak (Want ∷ h) t = no_streak h t

still_live : (o : FifoOptions) (h : History) → NotesTell h [] → mode_of o h ≡ Live
still_live o h t = rw (no_streak h t) refl

uncalled : (w : Bool) (m : Mode) → m ≡ Live → false ≡ (not w && mode_is_live m) → (if w then ends.NoMemory else ends.Failed) ≡ ends.Failed → ⊥
uncalled true m l c e = cc e
uncalled false Live l c e = cc c
uncalled false (Broken f) l c e = cc l
uncalled false (Dead f) l c e = cc l

never_failed : (o : FifoOptions) (h : History) (a : Option Answer) → is_some a ≡ is_live o h → mode_of o h ≡ Live → (a ≡ Some answer.Fault → ⊥)
    → end_of h a ≡ ends.Failed → ⊥
never_failed o h None called l fine e = uncalled (wanted h) (mode_of o h) l called e
never_failed o h (Some answer.Done) called l fine e = cc e
never_failed o h (Some answer.Fault) called l fine e = fine refl
never_failed o h (Some answer.NoMemory) called l fine e = cc e

pub sound_ends : SoundNeverFails
sound_ends out o L e k sound =
    let told = told_notes k.history k.end_answer e.faults k.notes (k.safe sound) in
    let live = still_live o k.history told.1 in
    (rw live refl, λ failed. never_failed o k.history k.end_answer k.end_called live told.0 (rw k.state at failed))

-- an output that failed has a note
noted_end : (o : FifoOptions) (h : History) (a : Option Answer) (ns : List FaultNote) → EndNotes h a ns → is_some a ≡ is_live o h → end_of h a ≡ ends.Failed → ns ≡ [] → ⊥
noted_end o h a ns t called failed none = (let told = told_notes h a ns t none in never_failed o h a called (still_live o h told.1) told.0 failed)

pub failures_noted : FailuresAreNoted
failures_noted = (
  λ g o L e k failed.
      (let some = noted_end o k.history k.end_answer e.faults k.notes k.end_called (rw k.state at failed) in
      let rises : NotesRise g.shelf.faults e.faults e.shelf.faults = rw k.are_faults (notes_rise g (StandsAt L) g.shelf (with_count e.shelf k.before k.added) k.rows k.chain k.each) in
      (some, notes_raise g.shelf.faults e.shelf.faults e.faults rises some)),
  λ g o T e k failed.
      (let some = noted_end o k.history k.end_answer e.faults k.notes k.end_called (rw k.state at failed) in
      let rises : NotesRise g.shelf.faults e.faults e.shelf.faults = rw k.are_faults (notes_rise g (Gives T) g.shelf (with_count e.shelf k.before k.added) k.rows k.chain k.each) in
      (some, notes_raise g.shelf.faults e.shelf.faults e.faults rises some)),
)

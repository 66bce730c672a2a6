-- An output without a fault.
use Rattle.std.proofs.Common.{◌≡◌, ℕ, ◌+◌, ◌≤◌, ◌<◌, ◌⊎◌, inl, inr, Bool, true, false, not, ◌&&◌, if◌then◌else◌, List, [], ◌∷◌, ◌++◌, length, map, filter_map, Option, Some, None, is_some, refl, ap, sym, ◌∙◌, subst, arith, append_assoc}
use Rattle.std.specs.Prelude.{option_map}
use Rattle.std.specs.List.{cons_option}
use Rattle.std.proofs.lemmas.Bool.{cases_lt, false_from_ne_true}
use Rattle.std.proofs.lemmas.List.{append-nil}
use Rattle.fifo_core.specs.declared.types.FifoOptions.{FifoOptions}
use Rattle.fifo_core.specs.declared.types.Answer.{Answer}
use Rattle.fifo_core.specs.declared.types.Answer.TheVariants as answer
use Rattle.fifo_core.specs.declared.types.EndState.TheVariants as ends
use Rattle.fifo_core.specs.declared.types.Fate.{Fate}
use Rattle.fifo_core.specs.History.{History, wanted, mode_of, mode_is_live, end_of, fates_of}
use Rattle.fifo_core.specs.Follows.{Turn, Follows}
use Rattle.fifo_core.specs.Laws.{all_written}
use Rattle.fifo_core.proofs.Clean.{is_whole}
use Rattle.rmx_edge.specs.Count.{most, raised, Rose}
use Rattle.rmx_edge.specs.Counted.{with_count}
use Rattle.rmx_edge.specs.Shelf.{ShelfState, ShelfCall, Accepted, accepted_by, total}
use Rattle.rmx_edge.specs.Run.{Completed, bytes_of}
use Rattle.rmx_edge.proofs.Run.{total-accepted}
use Rattle.rmx_media.specs.declared.packet.Packet.{Packet}
use Rattle.slave.specs.declared.records.FaultNote.{FaultNote}
use Rattle.slave.specs.declared.records.SessionNote.{SessionNote}
use Rattle.slave.specs.Origin.{Origin, facts_of}
use Rattle.slave.specs.Segments.{start_of, asks_list}
use Rattle.slave.specs.Calls.{begin_calls, end_calls, puts}
use Rattle.slave.specs.Table.{Outcome, Closed, Row, StandsAt, LeftBy, NoteFits, Chain, GoesOnFrom, AllRows, Numbered, calls_of, row_fault, row_packets, written_of, NotesTell}
use Rattle.slave.specs.Accounts.{NotesRise}
use Rattle.slave.specs.End.{EndsAs, EndNotes}
use Rattle.slave.specs.Headline.{whole_file, NoFaultNoLoss}
use Rattle.slave.proofs.Room.{all_done, turns_come}
use Rattle.slave.proofs.Rows.{numbered_last, rows_last}
use Rattle.slave.proofs.Steps.{not_empty}

-- the notes rise from any lower count
rise_from : (a b to : ℕ) (ns : List FaultNote) → a ≤ b → NotesRise b ns to → NotesRise a ns to
rise_from a b to [] le r = omega (arith, r)
rise_from a b to (n ∷ ns) le r = (omega (arith, le, r.0), r.1, r.2, r.3)

-- the counts below and above all notes
rise_within : (a to : ℕ) (ns : List FaultNote) → NotesRise a ns to → a ≤ to
rise_within a to [] r = r
rise_within a to (n ∷ ns) r = omega (arith, r.0, r.1, rise_within n.after to ns r.3)

note_rises : (b a : ℕ) → b ≤ a → Rose b a → (b < a) ⊎ (most ≤ b)
note_rises b a le (inl lt) = inl lt
note_rises b a le (inr e) = elim (cases_lt b a) [ inl lt ↦ inl lt | inr ge ↦ inr (omega (arith, ge, e)) ]

with_note : (r : Row) (f : Option FaultNote) (ns : List FaultNote) (to : ℕ) → NoteFits r f → r.before.faults ≤ r.after.faults → NotesRise r.after.faults ns to
    → NotesRise r.before.faults (cons_option f ns) to
with_note r None ns to k le rest = rise_from r.before.faults r.after.faults to ns le rest
with_note r (Some n) ns to k le rest = (k.4, k.2, note_rises n.before n.after k.2 k.3, rw k.5 rest)

pub notes_rise : (out : Origin) (At : ℕ → Packet → Type 0) (first now : ShelfState) (rows : List Row) → Chain first rows now → AllRows out At rows
    → NotesRise first.faults (filter_map row_fault rows) now.faults
notes_rise out At first now [] c a = rw c (omega arith)
notes_rise out At first now (r ∷ rows) c a =
    subst (λ (x : ShelfState). NotesRise x.faults (filter_map row_fault (r ∷ rows)) now.faults) c.0
    (with_note r r.fault (filter_map row_fault rows) now.faults a.0.1 a.0.2 (notes_rise out At r.after now rows c.1 a.1))

-- where the count didn't rise there is no note
no_notes : (a to : ℕ) (ns : List FaultNote) → NotesRise a ns to → (Rose a to → ⊥) → ns ≡ []
no_notes a to [] r still = refl
no_notes a to (n ∷ ns) (low, le, inl lt, rest) still = absurd (still (inl (omega (arith, low, lt, rise_within n.after to ns rest))))
no_notes a to (n ∷ ns) (low, le, inr e, rest) still = absurd (still (inr (omega (arith, e, le, rise_within n.after to ns rest))))

-- and where there is one, it did
pub notes_raise : (a to : ℕ) (ns : List FaultNote) → NotesRise a ns to → (ns ≡ [] → ⊥) → Rose a to
notes_raise a to [] r some = absurd (some refl)
notes_raise a to (n ∷ ns) (low, le, inl lt, rest) some = inl (omega (arith, low, lt, rise_within n.after to ns rest))
notes_raise a to (n ∷ ns) (low, le, inr e, rest) some = inr (omega (arith, e, le, rise_within n.after to ns rest))

written_all : (out : Origin) (n : ℕ) (L : List Packet) → written_of L (all_written n (map (facts_of out) L)) ≡ map (λ p. (0, p)) L
written_all out n [] = refl
written_all out n (p ∷ L) = ap (λ (xs : List (ℕ × Packet)). (0, p) ∷ xs) (written_all out (n + 1) L)

seconds : (n : ℕ) (ps : List Packet) → map (λ (x : ℕ × Packet). x.1) (map (λ (p : Packet). (n, p)) ps) ≡ ps
seconds n [] = refl
seconds n (p ∷ ps) = ap (λ (qs : List Packet). p ∷ qs) (seconds n ps)

-- no memory was wanted before the end
end_unwanted : (o : FifoOptions) (h : History) (a : Option Answer) (w : Bool) → wanted h ≡ w → is_some a ≡ (not w && mode_is_live (mode_of o h))
    → ((if w then ends.NoMemory else ends.Failed) ≡ ends.NoMemory → a ≡ None → ⊥) → w ≡ false
end_unwanted o h a false u e f = refl
end_unwanted o h None true u e f = absurd (f refl refl)
end_unwanted o h (Some b) true u e f = absurd (cc e)

pub told_notes : (h : History) (a : Option Answer) (ns : List FaultNote) → EndNotes h a ns → ns ≡ [] → (a ≡ Some answer.Fault → ⊥) × NotesTell h []
told_notes h None ns t e = (λ x. cc x, rw e at t)
told_notes h (Some answer.Done) ns t e = (λ x. cc x, rw e at t)
told_notes h (Some answer.Fault) ns t e = absurd (not_empty t.0 t.1 (sym e ∙ t.2))
told_notes h (Some answer.NoMemory) ns t e = (λ x. cc x, rw e at t)

ended_done : (h : History) (a : Option Answer) → is_some a ≡ true → (a ≡ Some answer.Fault → ⊥) → (end_of h a ≡ ends.NoMemory → ⊥) → a ≡ Some answer.Done
ended_done h None s f n = absurd (cc s)
ended_done h (Some answer.Done) s f n = refl
ended_done h (Some answer.Fault) s f n = absurd (f refl)
ended_done h (Some answer.NoMemory) s f n = absurd (n refl)

no_rows : (rs : List Row) → length rs ≡ 0 → rs ≡ []
no_rows [] e = refl
no_rows (r ∷ rs) e = absurd (omega arith)

note_of : ℕ → Bool → Bool → SessionNote
note_of n begun closed = record { number = n; begun = begun; closed = closed }

note_is : (n : SessionNote) → n.number ≡ 0 → n.begun ≡ true → n.closed ≡ true → n ≡ note_of 0 true true
unfolding note_of
note_is n a b c =
    ap (λ (x : ℕ). note_of x n.begun n.closed) a ∙ ap (λ (x : Bool). note_of 0 x n.closed) b ∙ ap (λ (x : Bool). note_of 0 true x) c

-- the bytes of a file that was written whole, counted from 0
counted : ℕ → ℕ → Accepted
counted b a = record { before = b; last = a }

all_bytes : (calls : List ShelfCall) (b a : ℕ) (s : Option Accepted) → s ≡ Some (counted 0 0) → Some (counted b a) ≡ option_map (accepted_by calls) s
    → raised b a ≡ raised 0 (bytes_of calls)
unfolding counted
all_bytes calls b a s is e =
    let same : Some (counted b a) ≡ Some (accepted_by calls (counted 0 0)) = e ∙ ap (option_map (accepted_by calls)) is in
    let inner : counted b a ≡ accepted_by calls (counted 0 0) = cc in
    let none : raised (raised 0 0) (bytes_of calls) ≡ raised 0 (bytes_of calls) = omega arith in
    ap total inner ∙ total-accepted calls (counted 0 0) ∙ none

pub holds_all : NoFaultNoLoss
unfolding note_of counted
holds_all out o L e k no_fault no_want no_list =
    let h = k.history in
    let r = k.last in
    let now = with_count e.shelf k.before k.added in
    let rises : NotesRise out.shelf.faults e.faults now.faults = rw k.are_faults (notes_rise out (StandsAt L) out.shelf now k.rows k.chain k.each) in
    let none = no_notes out.shelf.faults now.faults e.faults rises no_fault in
    let fine : e.state ≡ ends.NoMemory → ⊥ = λ (x : e.state ≡ ends.NoMemory). no_want (k.excuse (false_from_ne_true (asks_list out.seg) (λ y. no_list (y, x))) x none) in
    let told = told_notes h k.end_answer e.faults k.notes none in
    let unwanted = end_unwanted o h k.end_answer (wanted h) refl k.end_called (λ s n. (let g : end_of h k.end_answer ≡ ends.NoMemory = rw n s in fine (k.state ∙ g))) in
    let clean = all_done h told.1 unwanted in
    let whole = is_whole o (map (facts_of out) L) h (subst (λ (ts : List Turn). Follows o ts h) (turns_come out 0 L) k.follows) clean in
    let done = ended_done h k.end_answer (k.end_called ∙ whole.1) told.0 (λ n. fine (k.state ∙ n)) in
    let closed : r.outcome ≡ Closed = subst (λ (a : Option Answer). EndsAs h a r) done k.ends_as in
    let numbers : Numbered 0 (k.front ++ r ∷ []) = rw k.split at k.numbered in
    let number : r.note.number ≡ 0 = k.number ∙ whole.2 in
    let front_is : k.front ≡ [] = no_rows k.front (omega (arith, numbered_last 0 k.front r numbers, number)) in
    let rows_is : k.rows ≡ r ∷ [] = k.split ∙ rw front_is refl in
    let all : AllRows out (StandsAt L) (k.front ++ r ∷ []) = rw k.split at k.each in
    let left = subst (λ (x : Outcome). LeftBy out (StandsAt L) r x) closed (rows_last out (StandsAt L) k.front r all).0 in
    let chain : Chain out.shelf (r ∷ []) now = rw rows_is at k.chain in
    let packets_told : row_packets r ++ [] ≡ written_of L (fates_of h) = rw rows_is at k.packets in
    let packets : row_packets r ≡ map (λ (p : Packet). (0, p)) L
    = sym (append-nil (row_packets r)) ∙ (packets_told ∙ ap (λ (fs : List (ℕ × Fate)). written_of L fs) whole.0 ∙ written_all out 0 L) in
    let written : r.written ≡ L = sym (seconds r.note.number r.written) ∙ ap (λ (xs : List (ℕ × Packet)). map (λ (x : ℕ × Packet). x.1) xs) packets ∙ seconds 0 L in
    let going : GoesOnFrom (start_of out.seg) (r ∷ []) k.next_segment = rw rows_is at k.segments in
    let calls : calls_of out r ++ end_calls out r.first r.written ≡ whole_file out L =
    append_assoc (begin_calls out r.first r.note.number) (puts out r.first r.written) (end_calls out r.first r.written) ∙ rw (number, written, going.0) refl in
    let made = subst (λ (cs : List ShelfCall). Completed cs r.before r.after) calls left.2 in
    let from_first = subst (λ (x : ShelfState). Completed (whole_file out L) x r.after) chain.0 made in
    let file = subst (λ (x : ShelfState). Completed (whole_file out L) out.shelf x) chain.1 from_first in
    record {
      fates = k.fates ∙ whole.0;
      closed = k.state ∙ rw done refl;
      sessions = k.are_sessions ∙ rw rows_is (ap (λ (n : SessionNote). n ∷ []) (note_is r.note number left.0 left.1));
      faults = none;
      takes = file.takes;
      calls = file.count;
      bytes = k.bytes ∙ all_bytes (whole_file out L) k.before k.added out.shelf.accepted k.counts file.accepted;
    }

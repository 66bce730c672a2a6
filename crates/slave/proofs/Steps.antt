-- What each step does to the table of sessions.
use Rattle.std.proofs.Common.{◌≡◌, ◌≢◌, ℕ, ◌≤◌, ◌⊎◌, inl, inr, Bool, true, false, List, [], ◌∷◌, ◌++◌, length, flat_map, filter_map, Option, Some, None, refl, ap, sym, ◌∙◌, subst, arith, append_assoc, ◌+◌, length-append}
use Rattle.std.proofs.lemmas.List.{append-nil}
use Rattle.fifo_core.specs.declared.types.FifoOptions.{FifoOptions}
use Rattle.fifo_core.specs.declared.types.PacketFacts.{PacketFacts}
use Rattle.fifo_core.specs.declared.types.Fate.{Fate}
use Rattle.fifo_core.specs.declared.types.Answer.{Answer}
use Rattle.fifo_core.specs.declared.types.Answer.TheVariants as answer
use Rattle.fifo_core.specs.declared.types.Mode.TheVariants.{Live}
use Rattle.fifo_core.specs.History.{Tried, Fated, Want, History, mode_of, mode_is_live, streak, notes, session_of, trying, fates_of, wanted}
use Rattle.fifo_core.specs.State.{session_in}
use Rattle.fifo_core.proofs.Readings.{closed}
use Rattle.rmx_edge.specs.Shelf.{ShelfState, ShelfCall}
use Rattle.rmx_edge.specs.Run.{Completed}
use Rattle.rmx_edge.specs.Count.{Rose}
use Rattle.rmx_edge.proofs.Run.{rose_later}
use Rattle.rmx_media.specs.declared.packet.Packet.{Packet}
use Rattle.slave.specs.Origin.{Origin}
use Rattle.slave.specs.declared.records.Run.{Run}
use Rattle.slave.specs.declared.records.SessionNote.{SessionNote}
use Rattle.slave.specs.declared.records.FaultAt.TheVariants.{Begin, Put}
use Rattle.slave.specs.declared.records.FaultNote.{FaultNote}
use Rattle.slave.specs.Segments.{start_of, asks_list, number_after}
use Rattle.slave.specs.Calls.{begin_calls, put_calls, puts, number_in}
use Rattle.slave.specs.Runs.{expand, pushed}
use Rattle.slave.specs.Given.{Given, Gives, IsGapless}
use Rattle.slave.specs.Job.{JobView, Writer, WriterAfter, SoundStays, note_at, number_of, Opens, Puts, OpensAndPuts, ShelfWants, ListWants}
use Rattle.slave.proofs.CallsLemmas.{done_joined, numbers_after, number_then, first_puts, no_puts, sound_then}
use Rattle.slave.specs.Table.{Outcome, Open, NotCalled, NotBegun, PutFailed, EndFailed, Closed, WantedAt, Unended, Row, calls_of, LeftBy, RowHolds, AllRows, Chain, GoesOnFrom, row_note, row_fault, row_packets, if_given, written_among, covered, NotesTell, Table, ahead_of, Numbered}
use Rattle.slave.proofs.Rows.{map_push, faults_push_none, faults_push_some, packets_push, puts_push, chain_next, chain_last, chain_end, segments_next, segments_last, segments_end, rows_push, rows_front, rows_last, rows_other, gives_more, gapless_front, written_more, written_push, open_no_fault, numbered_push, numbered_last, numbered_front}

-- a live output tries the session that is open
pub live_trying : (o : FifoOptions) (h : History) → mode_of o h ≡ Live → trying o h ≡ session_of h
live_trying o h e = rw e refl

-- no output is live after a fault
pub fault_closes : (o : FifoOptions) (h : History) (s i : ℕ) (facts : PacketFacts) → mode_is_live (mode_of o (Tried s i facts answer.Fault ∷ h)) ≡ false
fault_closes o h s i facts = closed o (streak h) (notes h)

pub not_live : (o : FifoOptions) (h : History) → mode_is_live (mode_of o h) ≡ false → mode_of o h ≡ Live → ⊥
not_live o h e d = let t : true ≡ false = rw d at e in cc t

-- what is said of a session before its end holds of a longer history too
unended_more : (h g : History) → ((i : ℕ) → WantedAt h i → WantedAt g i) → (x : Outcome) (n : Option FaultNote) → Unended h x n → Unended g x n
unended_more h g more Open n k = tt
unended_more h g more NotCalled n k = tt
unended_more h g more NotBegun n k = tt
unended_more h g more (PutFailed i p) (Some n) k = tt
unended_more h g more (PutFailed i p) None k = more i k
unended_more h g more EndFailed n k = absurd k
unended_more h g more Closed n k = absurd k

-- what comes later changes nothing
pub widened : {out : Origin} {o : FifoOptions} {T : List Given} {h : History} {shelf : ShelfState} {writer : Writer} {runs : List Run} {sessions : List SessionNote} {faults : List FaultNote}
    (t : Given) → length (fates_of h) ≡ length T → Table out o T h [] shelf writer runs sessions faults → Table out o (T ++ t ∷ []) h [] shelf writer runs sessions faults
widened {out = out} {T = T} {h = h} t e k = record {
  rows = k.rows;
  last = k.last;
  are_sessions = k.are_sessions;
  are_faults = k.are_faults;
  chain = k.chain;
  segments = k.segments;
  numbered = k.numbered;
  each = rows_other out (Gives T) (Gives (T ++ t ∷ [])) k.rows (gives_more T t) k.each;
  packets = k.packets ∙ rw (written_more T t (fates_of h) e) refl;
  fates = k.fates;
  notes = k.notes;
  writing = k.writing;
  sound = k.sound;
  safe = k.safe;
  wants = k.wants;
  excuse = λ n q. k.excuse n (gapless_front T t q);
}

-- the fate of what was given last is recorded
pub recorded : {out : Origin} {o : FifoOptions} {h : History} {shelf : ShelfState} {writer : Writer} {runs new : List Run} {sessions : List SessionNote} {faults : List FaultNote}
    (T : List Given) (t : Given) (i : ℕ) (f : Fate) → length (fates_of h) ≡ length T
    → Table out o (T ++ t ∷ []) h (if_given t f) shelf writer runs sessions faults → expand new ≡ pushed (expand runs) i f
    → Table out o (T ++ t ∷ []) (Fated i f ∷ h) [] shelf writer new sessions faults
recorded {h = h} T t i f e k d = record {
  rows = k.rows;
  last = record { front = k.last.front; last = k.last.last; split = k.last.split; number = k.last.number; is_open = k.last.is_open; unended = unended_more h (Fated i f ∷ h) (λ j w. w) k.last.last.outcome k.last.last.fault k.last.unended };
  are_sessions = k.are_sessions;
  are_faults = k.are_faults;
  chain = k.chain;
  segments = k.segments;
  numbered = k.numbered;
  each = k.each;
  packets = k.packets ∙ rw (append-nil, written_push T t (fates_of h) (i, f) e) refl;
  fates = d ∙ ap (λ (xs : List (ℕ × Fate)). pushed xs i f) k.fates;
  notes = k.notes;
  writing = k.writing;
  sound = k.sound;
  safe = k.safe;
  wants = k.wants;
  excuse = k.excuse;
}

wanted_so : (s i : ℕ) (facts : PacketFacts) (a : Answer) (h : History) → wanted (Tried s i facts a ∷ Want ∷ h) ≡ false → ⊥
wanted_so s i facts answer.Done h w = cc w
wanted_so s i facts answer.Fault h w = cc w
wanted_so s i facts answer.NoMemory h w = cc w

noted_want : (s i : ℕ) (facts : PacketFacts) (h : History) (ns : List FaultNote) → NotesTell (Tried s i facts answer.Fault ∷ h) ns
    → NotesTell (Tried s i facts answer.Fault ∷ Want ∷ h) ns
noted_want s i facts h ns t = t

pub not_empty : (front : List FaultNote) (n : FaultNote) → [] ≡ front ++ n ∷ [] → ⊥
not_empty [] n e = cc e
not_empty (x ∷ front) n e = cc e

-- a fault has its note
pub is_noted : (s i : ℕ) (facts : PacketFacts) (h : History) (ns : List FaultNote) → NotesTell (Tried s i facts answer.Fault ∷ h) ns → ns ≡ [] → ⊥
is_noted s i facts h ns t e = not_empty t.0 t.1 (sym e ∙ t.2)

-- memory was wanted before the fault of the packet in hand, as the history tells it
pub want_before : {out : Origin} {o : FifoOptions} {T : List Given} {h : History} {ahead : List (ℕ × Packet)} {shelf : ShelfState} {writer : Writer} {runs : List Run} {sessions : List SessionNote} {faults : List FaultNote}
    (s i : ℕ) (facts : PacketFacts)
    → Table out o T (Tried s i facts answer.Fault ∷ h) ahead shelf writer runs sessions faults → Table out o T (Tried s i facts answer.Fault ∷ Want ∷ h) ahead shelf writer runs sessions faults
want_before {h = h} {faults = faults} s i facts t = record {
  rows = t.rows;
  last = record { front = t.last.front; last = t.last.last; split = t.last.split; number = t.last.number; is_open = λ w. absurd (wanted_so s i facts answer.Fault h w); unended = unended_more (Tried s i facts answer.Fault ∷ h) (Tried s i facts answer.Fault ∷ Want ∷ h) (λ j w. w) t.last.last.outcome t.last.last.fault t.last.unended };
  are_sessions = t.are_sessions;
  are_faults = t.are_faults;
  chain = t.chain;
  segments = t.segments;
  numbered = t.numbered;
  each = t.each;
  packets = t.packets;
  fates = t.fates;
  notes = noted_want s i facts h faults t.notes;
  writing = λ w. absurd (wanted_so s i facts answer.Fault h w);
  sound = t.sound;
  safe = t.safe;
  wants = t.wants;
  excuse = λ n q w e. absurd (is_noted s i facts h faults t.notes e);
}

pub want_now : {out : Origin} {o : FifoOptions} {T : List Given} {h : History} {ahead : List (ℕ × Packet)} {shelf : ShelfState} {writer : Writer} {runs : List Run} {sessions : List SessionNote} {faults : List FaultNote}
    → Table out o T h ahead shelf writer runs sessions faults → (asks_list out.seg ≡ false → IsGapless T → faults ≡ [] → Rose out.shelf.wants shelf.wants) → Table out o T (Want ∷ h) ahead shelf writer runs sessions faults
want_now {h = h} t excused = record {
  rows = t.rows;
  last = record { front = t.last.front; last = t.last.last; split = t.last.split; number = t.last.number; is_open = λ w. absurd (cc w); unended = unended_more h (Want ∷ h) (λ j w. w) t.last.last.outcome t.last.last.fault t.last.unended };
  are_sessions = t.are_sessions;
  are_faults = t.are_faults;
  chain = t.chain;
  segments = t.segments;
  numbered = t.numbered;
  each = t.each;
  packets = t.packets;
  fates = t.fates;
  notes = t.notes;
  writing = λ w. absurd (cc w);
  sound = t.sound;
  safe = t.safe;
  wants = t.wants;
  excuse = λ n q w e. excused n q e;
}

-- there is one session for each number up to the last that was tried
session_count : {out : Origin} {o : FifoOptions} {T : List Given} {h : History} {ahead : List (ℕ × Packet)} {shelf : ShelfState} {writer : Writer} {runs : List Run} {sessions : List SessionNote} {faults : List FaultNote}
    (t : Table out o T h ahead shelf writer runs sessions faults) → session_of h + 1 ≡ 0 + length t.rows
session_count t =
    let numbers : Numbered 0 (t.last.front ++ t.last.last ∷ []) = rw t.last.split at t.numbered in
    let n = numbered_last 0 t.last.front t.last.last numbers in
    let l : length t.rows ≡ length t.last.front + 1 = rw t.last.split (length-append t.last.front (t.last.last ∷ [])) in
    omega (arith, n, l, t.last.number)

module _ {out : Origin} {o : FifoOptions} {T : List Given} {h : History} {shelf : ShelfState} {writer : Writer} {runs : List Run} {sessions : List SessionNote} {faults : List FaultNote}
    (t : Table out o T h [] shelf writer runs sessions faults) (q : Row) (g : History) (ahead : List (ℕ × Packet)) (new : ShelfState) (new_writer : Writer)
    (new_runs : List Run) (new_sessions : List SessionNote) (new_faults : List FaultNote) where
  -- the last session went on
  pub replaced : q.note ≡ t.last.last.note → q.before ≡ t.last.last.before → q.first ≡ t.last.last.first → q.after ≡ new → q.next ≡ number_in new_writer.mux → RowHolds out (Gives T) q
      → row_packets q ≡ row_packets t.last.last ++ ahead → new_sessions ≡ sessions → new_runs ≡ runs
      → new_faults ≡ filter_map row_fault (t.last.front ++ q ∷ []) → t.last.last.note.number ≡ session_of g
      → (wanted g ≡ false → mode_of o g ≡ Live → (q.outcome ≡ Open) × WriterAfter out q.first q.written new_writer) → Unended g q.outcome q.fault → ((fates_of g ≡ fates_of h) × (covered g ≡ covered h)) → NotesTell g new_faults
      → (wanted g ≡ false → new.writing ≡ mode_is_live (mode_of o g)) → SoundStays shelf new → (out.shelf.sound ≡ true → new_faults ≡ []) → shelf.wants ≤ new.wants
      → (asks_list out.seg ≡ false → wanted g ≡ true → new_faults ≡ [] → Rose out.shelf.wants new.wants) → Table out o T g ahead new new_writer new_runs new_sessions new_faults
  replaced same_note same_before same_first is_after is_next holds more is_sessions is_runs is_faults number is_open unended same_fates tells writes more_sound safely more_wants excused =
      let fr = t.last.front in
      let r = t.last.last in
      let chained : Chain out.shelf (fr ++ r ∷ []) shelf = rw t.last.split at t.chain in
      let going : GoesOnFrom (start_of out.seg) (fr ++ r ∷ []) (number_in writer.mux) = rw t.last.split at t.segments in
      let all : AllRows out (Gives T) (fr ++ r ∷ []) = rw t.last.split at t.each in
      let before : flat_map row_packets (fr ++ r ∷ []) ≡ written_among T (fates_of h) ++ [] = rw t.last.split at t.packets in
      let numbers : Numbered 0 (fr ++ r ∷ []) = rw t.last.split at t.numbered in
      record {
        numbered = numbered_push 0 fr q (numbered_front 0 fr r numbers) (ap (λ (n : SessionNote). n.number) same_note ∙ numbered_last 0 fr r numbers);
        rows = fr ++ q ∷ [];
        last = record { front = fr; last = q; split = refl; number = ap (λ (n : SessionNote). n.number) same_note ∙ number; is_open = is_open; unended = unended };
        are_sessions = is_sessions ∙ t.are_sessions ∙ rw (t.last.split, map_push row_note fr r, map_push row_note fr q, same_note) refl;
        are_faults = is_faults;
        chain = rw (← is_after) (chain_last out.shelf shelf fr r q chained same_before);
        segments = rw (← is_next) (segments_last (start_of out.seg) (number_in writer.mux) fr r q going same_first);
        each = rows_push out (Gives T) fr q (rows_front out (Gives T) fr r all) holds;
        packets = packets_push fr q ∙ rw (more, same_fates.0) (sym (append_assoc (flat_map row_packets fr) (row_packets r) ahead)
            ∙ ap (λ zs. zs ++ ahead) (sym (packets_push fr r) ∙ before ∙ append-nil (written_among T (fates_of h))));
        fates = rw (is_runs, same_fates.1) t.fates;
        notes = tells;
        writing = writes;
        sound = sound_then out.shelf shelf new t.sound more_sound;
        safe = safely;
        wants = omega (arith, t.wants, more_wants);
        excuse = λ n q. excused n;
      }

  -- a session began
  pub appended : q.before ≡ shelf → q.first ≡ number_in writer.mux → q.after ≡ new → q.next ≡ number_in new_writer.mux → RowHolds out (Gives T) q → row_packets q ≡ ahead → new_sessions ≡ sessions ++ q.note ∷ [] → new_runs ≡ runs
      → new_faults ≡ filter_map row_fault (t.rows ++ q ∷ []) → q.note.number ≡ session_of h + 1 → q.note.number ≡ session_of g
      → (wanted g ≡ false → mode_of o g ≡ Live → (q.outcome ≡ Open) × WriterAfter out q.first q.written new_writer) → Unended g q.outcome q.fault → ((fates_of g ≡ fates_of h) × (covered g ≡ covered h)) → NotesTell g new_faults
      → (wanted g ≡ false → new.writing ≡ mode_is_live (mode_of o g)) → SoundStays shelf new → (out.shelf.sound ≡ true → new_faults ≡ []) → shelf.wants ≤ new.wants
      → (asks_list out.seg ≡ false → wanted g ≡ true → new_faults ≡ [] → Rose out.shelf.wants new.wants) → Table out o T g ahead new new_writer new_runs new_sessions new_faults
  appended is_before is_first is_after is_next holds more is_sessions is_runs is_faults next number is_open unended same_fates tells writes more_sound safely more_wants excused =
      record {
        rows = t.rows ++ q ∷ [];
        last = record { front = t.rows; last = q; split = refl; number = number; is_open = is_open; unended = unended };
        numbered = numbered_push 0 t.rows q t.numbered (next ∙ session_count t);
        are_sessions = is_sessions ∙ rw t.are_sessions (sym (map_push row_note t.rows q));
        are_faults = is_faults;
        chain = rw (← is_after) (chain_next out.shelf shelf t.rows q t.chain is_before);
        segments = rw (← is_next) (segments_next (start_of out.seg) (number_in writer.mux) t.rows q t.segments is_first);
        each = rows_push out (Gives T) t.rows q t.each holds;
        packets = packets_push t.rows q ∙ rw (more, same_fates.0) (ap (λ zs. zs ++ ahead) (t.packets ∙ append-nil (written_among T (fates_of h))));
        fates = rw (is_runs, same_fates.1) t.fates;
        notes = tells;
        writing = writes;
        sound = sound_then out.shelf shelf new t.sound more_sound;
        safe = safely;
        wants = omega (arith, t.wants, more_wants);
        excuse = λ n q. excused n;
      }

-- the session that is open
pub record OpenRow (out : Origin) (o : FifoOptions) (h : History) (r : Row) (shelf : ShelfState) (m : Writer) : Type 0 where
  pub begun : r.note.begun ≡ true
  pub closed : r.note.closed ≡ false
  pub done : Completed (calls_of out r) r.before shelf
  pub numbers : number_in m.mux ≡ number_after out.seg r.first (calls_of out r)
  pub no_fault : r.fault ≡ None
  pub counts : r.before.faults ≤ shelf.faults
  pub want_counts : r.before.wants ≤ shelf.wants
  pub number : r.note.number ≡ trying o h
  pub writer : WriterAfter out r.first r.written m

pub open_row : {out : Origin} {o : FifoOptions} {T : List Given} {h : History} {shelf : ShelfState} {writer : Writer} {runs : List Run} {sessions : List SessionNote} {faults : List FaultNote}
    (t : Table out o T h [] shelf writer runs sessions faults) → wanted h ≡ false → mode_of o h ≡ Live → OpenRow out o h t.last.last shelf writer
open_row {out = out} {o = o} {T = T} {h = h} {shelf = shelf} {writer = writer} t u live =
    let fr = t.last.front in
    let r = t.last.last in
    let is_open = t.last.is_open u live in
    let chained : Chain out.shelf (fr ++ r ∷ []) shelf = rw t.last.split at t.chain in
    let going : GoesOnFrom (start_of out.seg) (fr ++ r ∷ []) (number_in writer.mux) = rw t.last.split at t.segments in
    let all : AllRows out (Gives T) (fr ++ r ∷ []) = rw t.last.split at t.each in
    let holds = rows_last out (Gives T) fr r all in
    let left = subst (λ (x : Outcome). LeftBy out (Gives T) r x) is_open.0 holds.0 in
    let at_end = chain_end out.shelf shelf fr r chained in
    record {
      begun = left.0;
      closed = left.1;
      done = subst (λ (x : ShelfState). Completed (calls_of out r) r.before x) at_end left.2;
      numbers = sym (segments_end (start_of out.seg) (number_in writer.mux) fr r going) ∙ left.3;
      no_fault = open_no_fault r r.fault holds.1 is_open.0;
      counts = subst (λ (x : ShelfState). r.before.faults ≤ x.faults) at_end holds.2;
      want_counts = subst (λ (x : ShelfState). r.before.wants ≤ x.wants) at_end holds.3;
      number = t.last.number ∙ sym (live_trying o h live);
      writer = is_open.1;
    }

no_want : {A : Type 0} (w : Bool) → w ≡ false → w ≡ true → A
no_want true u e = absurd (cc u)
no_want false u e = absurd (cc e)

-- the output asks for a list, and for none
pub both_lists : {A : Type 0} (b : Bool) → b ≡ true → b ≡ false → A
both_lists true e d = absurd (cc d)
both_lists false e d = absurd (cc e)

-- the last packet was tried in the open session, and memory was wanted
put_wanted : {out : Origin} {o : FifoOptions} {T : List Given} {h : History} (i : ℕ) (p : Packet) (facts : PacketFacts) (v w : JobView)
    (t : Table out o T h [] v.shelf v.kit.writer v.runs v.sessions v.faults) → wanted h ≡ false → mode_of o h ≡ Live → Gives T i p
    → Puts out t.last.last.first t.last.last.written p (Put i) v answer.NoMemory w
    → ShelfWants out.seg (put_calls out t.last.last.first t.last.last.written p) v w ⊎ ListWants out.seg v w
    → Table out o T (Tried (trying o h) i facts answer.NoMemory ∷ h) [] w.shelf w.kit.writer w.runs w.sessions w.faults
put_wanted {out = out} {o = o} {T = T} {h = h} i p facts v w t u live at made (inl m) =
    let c = made.calls in
    let fr = t.last.front in
    let r = t.last.last in
    let k = open_row t u live in
    let q : Row = record { note = r.note; outcome = PutFailed i p; fault = None; written = r.written; before = r.before; after = w.shelf; first = r.first; next = number_of w } in
    let stop = numbers_after out.seg r.first (number_of v) (number_of w) (calls_of out r) (put_calls out r.first r.written p) r.before v.shelf w.shelf k.done k.numbers m.0 m.5 in
    replaced t q (Tried (trying o h) i facts answer.NoMemory ∷ h) [] w.shelf w.kit.writer w.runs w.sessions w.faults
    refl refl refl refl refl (
      (k.begun, k.closed, at, stop.0, stop.1),
      λ e. rose_later r.before.wants v.shelf.wants w.shelf.wants k.want_counts m.4,
      omega (arith, k.counts, c.counts),
      omega (arith, k.want_counts, c.want_counts),
    )
    (sym (append-nil (row_packets r)))
    c.sessions c.runs
    (m.2 ∙ t.are_faults ∙ rw t.last.split (faults_push_none fr r k.no_fault ∙ sym (faults_push_none fr q refl)))
    k.number (λ x. absurd (cc x)) (inl (refl, refl)) (refl, refl) (rw m.2 t.notes) (λ x. absurd (cc x)) c.sound (λ e. m.2 ∙ t.safe e) c.want_counts
    (λ n x e. rose_later out.shelf.wants v.shelf.wants w.shelf.wants t.wants m.4)
put_wanted {out = out} {o = o} {T = T} {h = h} i p facts v w t u live at made (inr m) =
    let c = made.calls in
    let fr = t.last.front in
    let r = t.last.last in
    let k = open_row t u live in
    let q : Row = record { note = r.note; outcome = Open; fault = None; written = r.written; before = r.before; after = w.shelf; first = r.first; next = number_of w } in
    replaced t q (Tried (trying o h) i facts answer.NoMemory ∷ h) [] w.shelf w.kit.writer w.runs w.sessions w.faults
    refl refl refl refl refl (
      (k.begun, k.closed, rw m.1 k.done, m.4 ∙ k.numbers),
      λ e. absurd (cc e),
      omega (arith, k.counts, c.counts),
      omega (arith, k.want_counts, c.want_counts),
    )
    (sym (append-nil (row_packets r)))
    c.sessions c.runs
    (m.2 ∙ t.are_faults ∙ rw t.last.split (faults_push_none fr r k.no_fault ∙ sym (faults_push_none fr q refl)))
    k.number (λ x. absurd (cc x)) tt (refl, refl) (rw m.2 t.notes) (λ x. absurd (cc x)) c.sound (λ e. m.2 ∙ t.safe e) c.want_counts
    (λ n x e. both_lists (asks_list out.seg) m.0 n)

-- the last packet was tried in the open session
pub put_made : {out : Origin} {o : FifoOptions} {T : List Given} {h : History} (i : ℕ) (p : Packet) (facts : PacketFacts) (a : Answer) (v w : JobView)
    (t : Table out o T h [] v.shelf v.kit.writer v.runs v.sessions v.faults) → wanted h ≡ false → mode_of o h ≡ Live → Gives T i p
    → session_in v.fifo ≡ trying o h → Puts out t.last.last.first t.last.last.written p (Put i) v a w
    → Table out o T (Tried (trying o h) i facts a ∷ h) (ahead_of (trying o h) p a) w.shelf w.kit.writer w.runs w.sessions w.faults
put_made {out = out} {o = o} {T = T} {h = h} i p facts answer.Done v w t u live at in_session made =
    let c = made.calls in
    let fr = t.last.front in
    let r = t.last.last in
    let k = open_row t u live in
    let q : Row = record { note = r.note; outcome = Open; fault = None; written = r.written ++ p ∷ []; before = r.before; after = w.shelf; first = r.first; next = number_of w } in
    let calls : calls_of out q ≡ calls_of out r ++ put_calls out r.first r.written p =
    ap (λ (cs : List ShelfCall). begin_calls out r.first r.note.number ++ cs) (puts_push out r.first r.written p)
    ∙ sym (append_assoc (begin_calls out r.first r.note.number) (puts out r.first r.written) (put_calls out r.first r.written p)) in
    let numbered : number_of w ≡ number_after out.seg r.first (calls_of out r ++ put_calls out r.first r.written p) =
    c.made.4 ∙ ap (λ (n : ℕ). number_after out.seg n (put_calls out r.first r.written p)) k.numbers ∙ sym (number_then out.seg r.first (calls_of out r) (put_calls out r.first r.written p)) in
    replaced t q (Tried (trying o h) i facts answer.Done ∷ h) ((trying o h, p) ∷ []) w.shelf w.kit.writer w.runs w.sessions w.faults
    refl refl refl refl refl (
      (k.begun, k.closed, rw calls (done_joined (calls_of out r) (put_calls out r.first r.written p) r.before v.shelf w.shelf k.done c.made.0), rw calls numbered),
      λ e. absurd (cc e),
      omega (arith, k.counts, c.counts),
      omega (arith, k.want_counts, c.want_counts),
    )
    (map_push (λ (x : Packet). (r.note.number, x)) r.written p ∙ ap (λ (n : ℕ). row_packets r ++ (n, p) ∷ []) k.number)
    c.sessions c.runs
    (c.made.2 ∙ t.are_faults ∙ rw t.last.split (faults_push_none fr r k.no_fault ∙ sym (faults_push_none fr q refl)))
    k.number (λ _ _. (refl, made.writer refl)) tt (refl, refl) (rw c.made.2 t.notes) (λ _. c.made.1) c.sound (λ e. c.made.2 ∙ t.safe e) c.want_counts (λ n x e. no_want (wanted h) u x)
put_made {out = out} {o = o} {T = T} {h = h} i p facts answer.Fault v w t u live at in_session made =
    let c = made.calls in
    let fr = t.last.front in
    let r = t.last.last in
    let k = open_row t u live in
    let n = note_at v (Put i) w in
    let q : Row = record { note = r.note; outcome = PutFailed i p; fault = Some n; written = r.written; before = r.before; after = w.shelf; first = r.first; next = number_of w } in
    let stop = numbers_after out.seg r.first (number_of v) (number_of w) (calls_of out r) (put_calls out r.first r.written p) r.before v.shelf w.shelf k.done k.numbers c.made.0 c.made.5 in
    let shut = fault_closes o h (trying o h) i facts in
    replaced t q (Tried (trying o h) i facts answer.Fault ∷ h) [] w.shelf w.kit.writer w.runs w.sessions w.faults
    refl refl refl refl refl (
      (k.begun, k.closed, at, stop.0, stop.1),
      (in_session ∙ sym k.number, refl, c.counts, c.made.4, k.counts, refl),
      omega (arith, k.counts, c.counts),
      omega (arith, k.want_counts, c.want_counts),
    )
    (sym (append-nil (row_packets r)))
    c.sessions c.runs
    (c.made.2 ∙ ap (λ (ns : List FaultNote). ns ++ n ∷ []) (t.are_faults ∙ rw t.last.split (faults_push_none fr r k.no_fault)) ∙ sym (faults_push_some fr q n refl))
    k.number (λ _ l. absurd (not_live o (Tried (trying o h) i facts answer.Fault ∷ h) shut l)) tt (refl, refl)
    (v.faults, n, c.made.2, in_session, inl refl, t.notes) (λ _. c.made.1 ∙ sym shut) c.sound (λ e. absurd (c.safe (t.sound e).0 refl)) c.want_counts (λ l x e. no_want (wanted h) u x)
put_made {out = out} {o = o} {T = T} {h = h} i p facts answer.NoMemory v w t u live at in_session made = put_wanted i p facts v w t u live at made made.calls.made

next_differs : (s n : ℕ) → s ≡ n + 1 → s ≢ n
next_differs s n e d = omega (arith, e, d)

-- a session was begun for the last packet, and then memory was wanted for the packet
opened_wanted : {out : Origin} {o : FifoOptions} {T : List Given} {h : History} (i : ℕ) (p : Packet) (facts : PacketFacts) (v mid w : JobView)
    → Table out o T h [] v.shelf v.kit.writer v.runs v.sessions v.faults → wanted h ≡ false → Gives T i p → session_in v.fifo ≡ trying o h → trying o h ≡ session_of h + 1
    → Opens out v answer.Done mid → Puts out (number_of v) [] p (Put i) mid answer.NoMemory w
    → ShelfWants out.seg (put_calls out (number_of v) [] p) mid w ⊎ ListWants out.seg mid w
    → Table out o T (Tried (trying o h) i facts answer.NoMemory ∷ h) [] w.shelf w.kit.writer w.runs w.sessions w.faults
opened_wanted {out = out} {o = o} {h = h} i p facts v mid w t u at in_session next op made (inl m) =
    let c = made.calls in
    let s = session_in v.fifo in
    let n = number_of v in
    let before : out.shelf.wants ≤ mid.shelf.wants = omega (arith, t.wants, op.want_counts) in
    let q : Row = record { note = record { number = s; begun = true; closed = false }; outcome = PutFailed i p; fault = None; written = []; before = v.shelf; after = w.shelf; first = n; next = number_of w } in
    let begun : Completed (begin_calls out n s ++ puts out n []) v.shelf mid.shelf = rw (no_puts out n s) op.made.0 in
    let numbered : number_of mid ≡ number_after out.seg n (begin_calls out n s ++ puts out n []) = rw (no_puts out n s) op.made.4 in
    let stop = numbers_after out.seg n (number_of mid) (number_of w) (begin_calls out n s ++ puts out n []) (put_calls out n [] p) v.shelf mid.shelf w.shelf begun numbered m.0 m.5 in
    appended t q (Tried (trying o h) i facts answer.NoMemory ∷ h) [] w.shelf w.kit.writer w.runs w.sessions w.faults
    refl refl refl refl (
      (refl, refl, at, stop.0, stop.1),
      λ e. rose_later v.shelf.wants mid.shelf.wants w.shelf.wants op.want_counts m.4,
      omega (arith, op.counts, c.counts),
      omega (arith, op.want_counts, c.want_counts),
    )
    refl
    (c.sessions ∙ op.sessions) (c.runs ∙ op.runs)
    (m.2 ∙ op.made.2 ∙ t.are_faults ∙ sym (faults_push_none t.rows q refl))
    (in_session ∙ next) in_session (λ x. absurd (cc x)) (inl (refl, refl)) (refl, refl) (rw (m.2, op.made.2) t.notes) (λ x. absurd (cc x))
    (sound_then v.shelf mid.shelf w.shelf op.sound c.sound) (λ e. m.2 ∙ op.made.2 ∙ t.safe e) (omega (arith, op.want_counts, c.want_counts))
    (λ l x e. rose_later out.shelf.wants mid.shelf.wants w.shelf.wants before m.4)
opened_wanted {out = out} {o = o} {h = h} i p facts v mid w t u at in_session next op made (inr m) =
    let c = made.calls in
    let s = session_in v.fifo in
    let n = number_of v in
    let q : Row = record { note = record { number = s; begun = true; closed = false }; outcome = Open; fault = None; written = []; before = v.shelf; after = w.shelf; first = n; next = number_of w } in
    appended t q (Tried (trying o h) i facts answer.NoMemory ∷ h) [] w.shelf w.kit.writer w.runs w.sessions w.faults
    refl refl refl refl (
      (refl, refl, rw (no_puts out n s, m.1) op.made.0, rw (no_puts out n s) (m.4 ∙ op.made.4)),
      λ e. absurd (cc e),
      omega (arith, op.counts, c.counts),
      omega (arith, op.want_counts, c.want_counts),
    )
    refl
    (c.sessions ∙ op.sessions) (c.runs ∙ op.runs)
    (m.2 ∙ op.made.2 ∙ t.are_faults ∙ sym (faults_push_none t.rows q refl))
    (in_session ∙ next) in_session (λ x. absurd (cc x)) tt (refl, refl) (rw (m.2, op.made.2) t.notes) (λ x. absurd (cc x))
    (sound_then v.shelf mid.shelf w.shelf op.sound c.sound) (λ e. m.2 ∙ op.made.2 ∙ t.safe e) (omega (arith, op.want_counts, c.want_counts))
    (λ l x e. both_lists (asks_list out.seg) m.0 l)

-- memory was wanted for the session that was to be opened
begin_wanted : {out : Origin} {o : FifoOptions} {T : List Given} {h : History} (i : ℕ) (p : Packet) (facts : PacketFacts) (v w : JobView)
    → Table out o T h [] v.shelf v.kit.writer v.runs v.sessions v.faults → wanted h ≡ false → session_in v.fifo ≡ trying o h → trying o h ≡ session_of h + 1
    → Opens out v answer.NoMemory w → ShelfWants out.seg (begin_calls out (number_of v) (session_in v.fifo)) v w ⊎ ListWants out.seg v w
    → Table out o T (Tried (trying o h) i facts answer.NoMemory ∷ h) [] w.shelf w.kit.writer w.runs w.sessions w.faults
begin_wanted {out = out} {o = o} {h = h} i p facts v w t u in_session next op (inl m) =
    let s = session_in v.fifo in
    let q : Row = record { note = record { number = s; begun = false; closed = false }; outcome = NotBegun; fault = None; written = []; before = v.shelf; after = w.shelf; first = number_of v; next = number_of w } in
    appended t q (Tried (trying o h) i facts answer.NoMemory ∷ h) [] w.shelf w.kit.writer w.runs w.sessions w.faults
    refl refl refl refl ((refl, refl, refl, m.0, m.5), λ e. m.4, op.counts, op.want_counts) refl op.sessions op.runs
    (m.2 ∙ t.are_faults ∙ sym (faults_push_none t.rows q refl))
    (in_session ∙ next) in_session (λ x. absurd (cc x)) tt (refl, refl) (rw m.2 t.notes) (λ x. absurd (cc x))
    op.sound (λ e. m.2 ∙ t.safe e) op.want_counts (λ l x e. rose_later out.shelf.wants v.shelf.wants w.shelf.wants t.wants m.4)
begin_wanted {out = out} {o = o} {h = h} i p facts v w t u in_session next op (inr m) =
    let s = session_in v.fifo in
    let q : Row = record { note = record { number = s; begun = false; closed = false }; outcome = NotCalled; fault = None; written = []; before = v.shelf; after = w.shelf; first = number_of v; next = number_of w } in
    appended t q (Tried (trying o h) i facts answer.NoMemory ∷ h) [] w.shelf w.kit.writer w.runs w.sessions w.faults
    refl refl refl refl ((refl, refl, refl, m.0, m.1, m.4), λ e. absurd (cc e), op.counts, op.want_counts) refl op.sessions op.runs
    (m.2 ∙ t.are_faults ∙ sym (faults_push_none t.rows q refl))
    (in_session ∙ next) in_session (λ x. absurd (cc x)) tt (refl, refl) (rw m.2 t.notes) (λ x. absurd (cc x))
    op.sound (λ e. m.2 ∙ t.safe e) op.want_counts (λ l x e. both_lists (asks_list out.seg) m.0 l)

-- the last packet was tried in a new session
pub opened_put : {out : Origin} {o : FifoOptions} {T : List Given} {h : History} (i : ℕ) (p : Packet) (facts : PacketFacts) (a : Answer) (v w : JobView)
    → Table out o T h [] v.shelf v.kit.writer v.runs v.sessions v.faults → wanted h ≡ false → Gives T i p → session_in v.fifo ≡ trying o h → trying o h ≡ session_of h + 1
    → OpensAndPuts out p (Put i) v a w
    → Table out o T (Tried (trying o h) i facts a ∷ h) (ahead_of (trying o h) p a) w.shelf w.kit.writer w.runs w.sessions w.faults
opened_put {out = out} {o = o} {h = h} i p facts answer.Done v w t u at in_session next (inl m) =
    let mid = m.0 in
    let op = m.1 in
    let c = m.2.calls in
    let s = session_in v.fifo in
    let n = number_of v in
    let q : Row = record { note = record { number = s; begun = true; closed = false }; outcome = Open; fault = None; written = p ∷ []; before = v.shelf; after = w.shelf; first = n; next = number_of w } in
    let numbered : number_of w ≡ number_after out.seg n (begin_calls out n s ++ put_calls out n [] p) =
    c.made.4 ∙ ap (λ (x : ℕ). number_after out.seg x (put_calls out n [] p)) op.made.4 ∙ sym (number_then out.seg n (begin_calls out n s) (put_calls out n [] p)) in
    appended t q (Tried (trying o h) i facts answer.Done ∷ h) ((trying o h, p) ∷ []) w.shelf w.kit.writer w.runs w.sessions w.faults
    refl refl refl refl (
      (refl, refl, rw (first_puts out n s p) (done_joined (begin_calls out n s) (put_calls out n [] p) v.shelf mid.shelf w.shelf op.made.0 c.made.0), rw (first_puts out n s p) numbered),
      λ e. absurd (cc e),
      omega (arith, op.counts, c.counts),
      omega (arith, op.want_counts, c.want_counts),
    )
    (ap (λ (x : ℕ). (x, p) ∷ []) in_session)
    (c.sessions ∙ op.sessions) (c.runs ∙ op.runs)
    (c.made.2 ∙ op.made.2 ∙ t.are_faults ∙ sym (faults_push_none t.rows q refl))
    (in_session ∙ next) in_session (λ _ _. (refl, m.2.writer refl)) tt (refl, refl) (rw (c.made.2, op.made.2) t.notes) (λ _. c.made.1)
    (sound_then v.shelf mid.shelf w.shelf op.sound c.sound) (λ e. c.made.2 ∙ op.made.2 ∙ t.safe e) (omega (arith, op.want_counts, c.want_counts)) (λ l x e. no_want (wanted h) u x)
opened_put {out = out} {o = o} {h = h} i p facts answer.Fault v w t u at in_session next (inl m) =
    let mid = m.0 in
    let op = m.1 in
    let c = m.2.calls in
    let s = session_in v.fifo in
    let first = number_of v in
    let n = note_at mid (Put i) w in
    let same : session_in mid.fifo ≡ s = ap session_in op.fifo in
    let q : Row = record { note = record { number = s; begun = true; closed = false }; outcome = PutFailed i p; fault = Some n; written = []; before = v.shelf; after = w.shelf; first = first; next = number_of w } in
    let begun : Completed (begin_calls out first s ++ puts out first []) v.shelf mid.shelf = rw (no_puts out first s) op.made.0 in
    let numbered : number_of mid ≡ number_after out.seg first (begin_calls out first s ++ puts out first []) = rw (no_puts out first s) op.made.4 in
    let stop = numbers_after out.seg first (number_of mid) (number_of w) (begin_calls out first s ++ puts out first []) (put_calls out first [] p) v.shelf mid.shelf w.shelf begun numbered c.made.0 c.made.5 in
    let shut = fault_closes o h (trying o h) i facts in
    appended t q (Tried (trying o h) i facts answer.Fault ∷ h) [] w.shelf w.kit.writer w.runs w.sessions w.faults
    refl refl refl refl (
      (refl, refl, at, stop.0, stop.1),
      (same, refl, c.counts, c.made.4, op.counts, refl),
      omega (arith, op.counts, c.counts),
      omega (arith, op.want_counts, c.want_counts),
    )
    refl
    (c.sessions ∙ op.sessions) (c.runs ∙ op.runs)
    (c.made.2 ∙ ap (λ (ns : List FaultNote). ns ++ n ∷ []) (op.made.2 ∙ t.are_faults) ∙ sym (faults_push_some t.rows q n refl))
    (in_session ∙ next) in_session (λ _ l. absurd (not_live o (Tried (trying o h) i facts answer.Fault ∷ h) shut l)) tt (refl, refl)
    (mid.faults, n, c.made.2, same ∙ in_session, inl refl, rw op.made.2 t.notes) (λ _. c.made.1 ∙ sym shut)
    (sound_then v.shelf mid.shelf w.shelf op.sound c.sound) (λ e. absurd (c.safe (op.sound (t.sound e).0).0 refl)) (omega (arith, op.want_counts, c.want_counts)) (λ l x e. no_want (wanted h) u x)
opened_put i p facts answer.NoMemory v w t u at in_session next (inl m) = opened_wanted i p facts v m.0 w t u at in_session next m.1 m.2 m.2.calls.made
opened_put {o = o} {h = h} i p facts answer.Done v w t u at in_session next (inr m) = absurd (cc m.0)
opened_put {out = out} {o = o} {h = h} i p facts answer.Fault v w t u at in_session next (inr m) =
    let op = m.1 in
    let s = session_in v.fifo in
    let n = note_at v Begin w in
    let q : Row = record { note = record { number = s; begun = false; closed = false }; outcome = NotBegun; fault = Some n; written = []; before = v.shelf; after = w.shelf; first = number_of v; next = number_of w } in
    let shut = fault_closes o h (trying o h) i facts in
    appended t q (Tried (trying o h) i facts answer.Fault ∷ h) [] w.shelf w.kit.writer w.runs w.sessions w.faults
    refl refl refl refl
    ((refl, refl, refl, op.made.0, op.made.5), (refl, refl, op.counts, op.made.4, omega arith, refl), op.counts, op.want_counts)
    refl op.sessions op.runs
    (op.made.2 ∙ ap (λ (ns : List FaultNote). ns ++ n ∷ []) t.are_faults ∙ sym (faults_push_some t.rows q n refl))
    (in_session ∙ next) in_session (λ _ l. absurd (not_live o (Tried (trying o h) i facts answer.Fault ∷ h) shut l)) tt (refl, refl)
    (v.faults, n, op.made.2, in_session, inr (refl, next_differs (trying o h) (session_of h) next), t.notes) (λ _. op.made.1 ∙ sym shut)
    op.sound (λ e. absurd (op.safe (t.sound e).0 refl)) op.want_counts (λ l x e. no_want (wanted h) u x)
opened_put i p facts answer.NoMemory v w t u at in_session next (inr m) = begin_wanted i p facts v w t u in_session next m.1 m.1.made

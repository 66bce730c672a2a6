-- What the end does to the job.
use Rattle.std.proofs.Common.{◌≡◌, ℕ, ◌⊎◌, inl, inr, Bool, true, false, ◌&&◌, List, [], ◌∷◌, ◌++◌, map, flat_map, filter_map, Some, None, refl, ap, sym, ◌∙◌, arith, if◌then◌else◌, not}
use Rattle.std.proofs.lemmas.List.{append-nil}
use Rattle.fifo_core.specs.declared.types.FifoOptions.{FifoOptions}
use Rattle.fifo_core.specs.declared.types.Answer.{Answer}
use Rattle.fifo_core.specs.declared.types.Answer.TheVariants as answer
use Rattle.fifo_core.specs.declared.types.Mode.{Mode}
use Rattle.fifo_core.specs.declared.types.Mode.TheVariants.{Live, Broken, Dead}
use Rattle.fifo_core.specs.History.{History, mode_of, mode_is_live, session_of, fates_of, wanted}
use Rattle.fifo_core.specs.State.{session_in}
use Rattle.rmx_edge.specs.Shelf.{ShelfState, ShelfCall}
use Rattle.slave.proofs.CallsLemmas.{done_joined, stopped_after, sound_then}
use Rattle.rmx_media.specs.declared.packet.Packet.{Packet}
use Rattle.slave.specs.Origin.{Origin}
use Rattle.slave.specs.declared.records.SessionNote.{SessionNote}
use Rattle.slave.specs.declared.records.FaultAt.TheVariants.{End}
use Rattle.slave.specs.declared.records.FaultNote.{FaultNote}
use Rattle.slave.specs.Calls.{end_calls}
use Rattle.slave.specs.Segments.{start_of}
use Rattle.rmx_edge.specs.Count.{raised, Rose}
use Rattle.rmx_edge.specs.Counted.{with_count}
use Rattle.rmx_edge.proofs.Run.{rose_later}
use Rattle.fifo_core.specs.declared.types.EndState.TheVariants as ends
use Rattle.slave.specs.Job.{JobView, SoundStays, note_at, number_of, ShelfWants, ListWants}
use Rattle.slave.specs.Table.{EndFailed, Closed, Row, calls_of, RowHolds, AllRows, Chain, GoesOnFrom, row_note, row_fault, row_packets, written_among, Numbered}
use Rattle.slave.proofs.Rows.{map_push, faults_push_none, faults_push_some, packets_push, chain_last, segments_last, rows_push, rows_front, numbered_push, numbered_last, numbered_front}
use Rattle.slave.specs.Table.{KeepsAll}
use Rattle.slave.specs.Given.{Given, Gives}
use Rattle.fifo_core.specs.History.{is_live, end_of}
use Rattle.slave.specs.Job.{Closes}
use Rattle.slave.specs.End.{EndView, EndsAs, EndNotes, EndedAllBy}
use Rattle.slave.proofs.Steps.{open_row}

live_bools : (w : Bool) (m : Mode) (b : Bool) → b ≡ true → b ≡ (if w then false else mode_is_live m) → (w ≡ false) × (m ≡ Live)
live_bools true m b e d = let t : true ≡ false = sym e ∙ d in absurd (cc t)
live_bools false Live b e d = (refl, refl)
live_bools false (Broken f) b e d = let t : true ≡ false = sym e ∙ d in absurd (cc t)
live_bools false (Dead f) b e d = let t : true ≡ false = sym e ∙ d in absurd (cc t)

-- what is known of an output that is live at its end
pub live_now : {out : Origin} {o : FifoOptions} {T : List Given} {v : JobView} (k : KeepsAll out o T v) (b : Bool) → b ≡ true → b ≡ is_live o k.history
    → (wanted k.history ≡ false) × (mode_of o k.history ≡ Live)
live_now {o = o} k b e d = live_bools (wanted k.history) (mode_of o k.history) b e (d ∙ not_and (wanted k.history) (mode_is_live (mode_of o k.history)))
  where
    not_and : (w m : Bool) → (not w && m) ≡ (if w then false else m)
    not_and true m = refl
    not_and false m = refl

-- memory was wanted where the output ends so without a call
want_shown : (w : Bool) → (if w then ends.NoMemory else ends.Failed) ≡ ends.NoMemory → w ≡ true
want_shown true e = refl
want_shown false e = absurd (cc e)

-- what an end tells beside the table
pub record EndTells (v : JobView) (e : EndView) : Type 0 where
  pub before : ℕ
  pub added : ℕ
  pub shelf : with_count e.shelf before added ≡ v.shelf
  pub bytes : e.bytes ≡ raised before added
  pub fates : e.fates ≡ v.runs
  pub sessions : e.sessions ≡ v.sessions
  pub faults : e.faults ≡ v.faults
  pub inline : e.inline ≡ false
  pub lane : e.lane ≡ None

same_want_counts : {v : JobView} {e : EndView} (k : EndTells v e) → e.shelf.wants ≡ v.shelf.wants
same_want_counts k = ap (λ (s : ShelfState). s.wants) k.shelf

told_sound : {v : JobView} {e : EndView} (first : ShelfState) (k : EndTells v e) → SoundStays first v.shelf → first.sound ≡ true → e.shelf.faults ≡ first.faults
told_sound first k s x = ap (λ (y : ShelfState). y.faults) k.shelf ∙ (s x).1

-- the muxer's end was not called
pub ended_closed : {out : Origin} {o : FifoOptions} {T : List Given} (v : JobView) (e : EndView) (k : KeepsAll out o T v) (b : Bool) → b ≡ false → b ≡ is_live o k.history
    → EndTells v e → e.state ≡ end_of k.history None → EndedAllBy out o T k.history e
ended_closed {out = out} v e k b shut is_b told st =
    let t = k.stands.table in (
      record {
        history = k.history;
        follows = k.follows;
        count = k.stands.count;
        indexed = k.stands.indexed;
        order = rw told.fates k.stands.order;
        end_answer = None;
        end_called = sym shut ∙ is_b;
        state = st;
        fates = rw told.fates t.fates;
        rows = t.rows;
        front = t.last.front;
        last = t.last.last;
        split = t.last.split;
        numbered = t.numbered;
        number = t.last.number;
        ends_as = t.last.unended;
        are_sessions = told.sessions ∙ t.are_sessions;
        are_faults = told.faults ∙ t.are_faults;
        counts = k.stands.kit.counts;
        before = told.before;
        added = told.added;
        chain = rw told.shelf t.chain;
        next_segment = number_of v;
        segments = t.segments;
        bytes = told.bytes;
        each = t.each;
        packets = t.packets ∙ append-nil _;
        notes = rw told.faults t.notes;
        inline = told.inline;
        lane = told.lane;
        sound = told_sound out.shelf told t.sound;
        safe = λ x. told.faults ∙ t.safe x;
        wants = rw (same_want_counts told) t.wants;
        excuse = λ n q x none. rw (same_want_counts told) (t.excuse n q (want_shown (wanted k.history) (sym st ∙ x)) (sym told.faults ∙ none));
      },
      refl,
    )

end_wanted : (a : Answer) (h : History) → end_of h (Some a) ≡ ends.NoMemory → a ≡ answer.NoMemory
end_wanted answer.Done h e = absurd (cc e)
end_wanted answer.Fault h e = absurd (cc e)
end_wanted answer.NoMemory h e = refl

-- what memory the muxer's end wants the shelf wants
shelf_wants : {calls : List ShelfCall} (v w : JobView) → ShelfWants None calls v w ⊎ ListWants None v w → ShelfWants None calls v w
shelf_wants v w (inl m) = m
shelf_wants v w (inr m) = absurd (cc m.0)

wants_at : {out : Origin} {first : ℕ} {before : List Packet} (b : Answer) (v w : JobView) → Closes out first before v b w → b ≡ answer.NoMemory → Rose v.shelf.wants w.shelf.wants
wants_at answer.Done v w c e = absurd (cc e)
wants_at answer.Fault v w c e = absurd (cc e)
wants_at answer.NoMemory v w c e = (shelf_wants v w c.made).4

no_note : {out : Origin} {first : ℕ} {before : List Packet} (b : Answer) (v w : JobView) → Closes out first before v b w → v.faults ≡ [] → (b ≡ answer.Fault → ⊥) → w.faults ≡ []
no_note answer.Done v w c none fine = c.made.2 ∙ none
no_note answer.Fault v w c none fine = absurd (fine refl)
no_note answer.NoMemory v w c none fine = (shelf_wants v w c.made).2 ∙ none

module _ {out : Origin} {o : FifoOptions} {T : List Given} (v w : JobView) (e : EndView) (k : KeepsAll out o T v) (u : wanted k.history ≡ false) (live : mode_of o k.history ≡ Live)
    (told : EndTells w e) where
  closing : (b : Answer) (q : Row) → Closes out k.stands.table.last.last.first k.stands.table.last.last.written v b w → e.state ≡ end_of k.history (Some b) → is_live o k.history ≡ true
      → q.note.number ≡ k.stands.table.last.last.note.number → q.before ≡ k.stands.table.last.last.before → q.first ≡ k.stands.table.last.last.first → q.after ≡ w.shelf → RowHolds out (Gives T) q
      → q.written ≡ k.stands.table.last.last.written → EndsAs k.history (Some b) q
      → w.sessions ≡ map row_note (k.stands.table.last.front ++ q ∷ []) → w.faults ≡ filter_map row_fault (k.stands.table.last.front ++ q ∷ [])
      → EndNotes k.history (Some b) w.faults → EndedAllBy out o T k.history e
  closing b q c st is_open same_number same_before same_first is_after holds same_written ends_so ss fs ns =
      let t = k.stands.table in
      let fr = t.last.front in
      let x = t.last.last in
      let chained : Chain out.shelf (fr ++ x ∷ []) v.shelf = rw t.last.split at t.chain in
      let going : GoesOnFrom (start_of out.seg) (fr ++ x ∷ []) (number_of v) = rw t.last.split at t.segments in
      let all : AllRows out (Gives T) (fr ++ x ∷ []) = rw t.last.split at t.each in
      let numbers : Numbered 0 (fr ++ x ∷ []) = rw t.last.split at t.numbered in
      let before : flat_map row_packets (fr ++ x ∷ []) ≡ written_among T (fates_of k.history) ++ [] = rw t.last.split at t.packets in (
        record {
          history = k.history;
          follows = k.follows;
          count = k.stands.count;
          indexed = k.stands.indexed;
          order = rw (told.fates, c.runs) k.stands.order;
          end_answer = Some b;
          end_called = sym is_open;
          state = st;
          fates = rw (told.fates, c.runs) t.fates;
          rows = fr ++ q ∷ [];
          front = fr;
          last = q;
          split = refl;
          numbered = numbered_push 0 fr q (numbered_front 0 fr x numbers) (same_number ∙ numbered_last 0 fr x numbers);
          number = same_number ∙ t.last.number;
          ends_as = ends_so;
          are_sessions = told.sessions ∙ ss;
          are_faults = told.faults ∙ fs;
          counts = k.stands.kit.counts;
          before = told.before;
          added = told.added;
          chain = rw (told.shelf, ← is_after) (chain_last out.shelf v.shelf fr x q chained same_before);
          next_segment = q.next;
          segments = segments_last (start_of out.seg) (number_of v) fr x q going same_first;
          bytes = told.bytes;
          each = rows_push out (Gives T) fr q (rows_front out (Gives T) fr x all) holds;
          packets = packets_push fr q ∙ rw (same_number, same_written) (sym (packets_push fr x) ∙ before ∙ append-nil (written_among T (fates_of k.history)));
          notes = rw told.faults ns;
          inline = told.inline;
          lane = told.lane;
          sound = told_sound out.shelf told (sound_then out.shelf v.shelf w.shelf t.sound c.sound);
          safe = λ x. told.faults ∙ no_note b v w c (t.safe x) (c.safe (t.sound x).0);
          wants = rw (same_want_counts told) (omega (arith, t.wants, c.want_counts));
          excuse = λ n q y none. rw (same_want_counts told)
              (rose_later out.shelf.wants v.shelf.wants w.shelf.wants t.wants (wants_at b v w c (end_wanted b k.history (sym st ∙ y))));
        },
        refl,
      )

  pub ended_live : (b : Answer) → Closes out k.stands.table.last.last.first k.stands.table.last.last.written v b w → e.state ≡ end_of k.history (Some b) → is_live o k.history ≡ true → EndedAllBy out o T k.history e
  ended_live answer.Done c st is_open =
      let t = k.stands.table in
      let fr = t.last.front in
      let x = t.last.last in
      let g = open_row t u live in
      let n : SessionNote = record { number = x.note.number; begun = x.note.begun; closed = true } in
      let q : Row = record { note = n; outcome = Closed; fault = None; written = x.written; before = x.before; after = w.shelf; first = x.first; next = number_of v } in
      closing answer.Done q c st is_open refl refl refl refl (
        (g.begun, refl, done_joined (calls_of out x) (end_calls out x.first x.written) x.before v.shelf w.shelf g.done c.made.0, g.numbers),
        λ y. absurd (cc y),
        omega (arith, g.counts, c.counts),
        omega (arith, g.want_counts, c.want_counts),
      ) refl refl
      (c.sessions (map row_note fr) x.note (t.are_sessions ∙ rw t.last.split (map_push row_note fr x)) ∙ sym (map_push row_note fr q))
      (c.made.2 ∙ t.are_faults ∙ rw t.last.split (faults_push_none fr x g.no_fault ∙ sym (faults_push_none fr q refl)))
      (rw c.made.2 t.notes)
  ended_live answer.Fault c st is_open =
      let t = k.stands.table in
      let fr = t.last.front in
      let x = t.last.last in
      let g = open_row t u live in
      let m = note_at v End w in
      let q : Row = record { note = x.note; outcome = EndFailed; fault = Some m; written = x.written; before = x.before; after = w.shelf; first = x.first; next = number_of v } in
      let in_session : session_in v.fifo ≡ session_of k.history = k.stands.shows.session in
      closing answer.Fault q c st is_open refl refl refl refl (
        (g.begun, g.closed, stopped_after (calls_of out x) (end_calls out x.first x.written) x.before v.shelf w.shelf g.done c.made.0, g.numbers),
        (in_session ∙ sym t.last.number, refl, c.counts, c.made.4, g.counts, refl),
        omega (arith, g.counts, c.counts),
        omega (arith, g.want_counts, c.want_counts),
      ) refl refl
      (c.sessions ∙ t.are_sessions ∙ rw t.last.split (map_push row_note fr x ∙ sym (map_push row_note fr q)))
      (c.made.2 ∙ ap (λ (ns : List FaultNote). ns ++ m ∷ []) (t.are_faults ∙ rw t.last.split (faults_push_none fr x g.no_fault)) ∙ sym (faults_push_some fr q m refl))
      (v.faults, m, c.made.2, in_session, refl, t.notes)
  ended_live answer.NoMemory c st is_open =
      let t = k.stands.table in
      let fr = t.last.front in
      let x = t.last.last in
      let g = open_row t u live in
      let m = shelf_wants v w c.made in
      let q : Row = record { note = x.note; outcome = EndFailed; fault = None; written = x.written; before = x.before; after = w.shelf; first = x.first; next = number_of v } in
      closing answer.NoMemory q c st is_open refl refl refl refl (
        (g.begun, g.closed, stopped_after (calls_of out x) (end_calls out x.first x.written) x.before v.shelf w.shelf g.done m.0, g.numbers),
        λ y. rose_later x.before.wants v.shelf.wants w.shelf.wants g.want_counts m.4,
        omega (arith, g.counts, c.counts),
        omega (arith, g.want_counts, c.want_counts),
      ) refl refl
      (c.sessions ∙ t.are_sessions ∙ rw t.last.split (map_push row_note fr x ∙ sym (map_push row_note fr q)))
      (m.2 ∙ t.are_faults ∙ rw t.last.split (faults_push_none fr x g.no_fault ∙ sym (faults_push_none fr q refl)))
      (rw m.2 t.notes)

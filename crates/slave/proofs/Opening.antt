-- What the start does to the job.
use Rattle.std.proofs.Common.{◌≡◌, ℕ, ◌-◌, ◌≤◌, ◌⊎◌, inl, inr, Bool, true, false, List, [], ◌∷◌, Some, None, refl, ap, sym, ◌∙◌, arith, if◌then◌else◌}
use Rattle.fifo_core.specs.declared.types.FifoOptions.{FifoOptions}
use Rattle.fifo_core.specs.declared.types.Answer.{Answer}
use Rattle.fifo_core.specs.declared.types.Answer.TheVariants as answer
use Rattle.fifo_core.specs.declared.types.Mode.TheVariants.{Broken, Dead}
use Rattle.fifo_core.specs.History.{Begun, Want, mode_of, mode_is_live, notes, attempts, is_spent}
use Rattle.fifo_core.specs.State.{session_in}
use Rattle.slave.specs.declared.records.FaultAt.TheVariants.{Begin}
use Rattle.slave.specs.Origin.{Origin}
use Rattle.slave.proofs.CallsLemmas.{no_puts}
use Rattle.slave.specs.Job.{JobView, note_at, number_of, Opens, ShelfWants, ListWants}
use Rattle.slave.specs.Segments.{asks_list}
use Rattle.slave.specs.Calls.{begin_calls}
use Rattle.slave.specs.Table.{Open, NotCalled, NotBegun, Row, Table}
use Rattle.fifo_core.specs.declared.state.FifoState.{FifoState}
use Rattle.fifo_core.specs.State.{Shows, next_of}
use Rattle.slave.specs.Table.{Keeps}
use Rattle.rmx_edge.proofs.Run.{rose_later}
use Rattle.slave.specs.declared.records.Run.{Run}
use Rattle.slave.specs.Runs.{AreInOrder}
use Rattle.slave.proofs.Steps.{want_now, not_live, not_empty, both_lists}
use Rattle.slave.specs.Fresh.{IsFresh}
use Rattle.slave.specs.Job.{Asks}
use Rattle.slave.proofs.Turns.{with_fifo}

begun_bools : (b : Bool) (f : ℕ) → mode_is_live (if b then Dead f else Broken f) ≡ false
begun_bools true f = refl
begun_bools false f = refl

begun_shut : (o : FifoOptions) → mode_is_live (mode_of o (Begun answer.Fault ∷ [])) ≡ false
begun_shut o = begun_bools (is_spent o (attempts (Begun answer.Fault ∷ []))) (notes (Begun answer.Fault ∷ []) - 1)

same_wants : {out : Origin} {o : FifoOptions} {v : JobView} → IsFresh out o v → out.shelf.wants ≤ v.shelf.wants
same_wants k = rw (← k.shelf) (omega arith)

-- memory was wanted for the first session
first_want : {out : Origin} {o : FifoOptions} (v w : JobView) → IsFresh out o v → Opens out v answer.NoMemory w
    → ShelfWants out.seg (begin_calls out (number_of v) (session_in v.fifo)) v w ⊎ ListWants out.seg v w
    → Table out o [] (Begun answer.NoMemory ∷ []) [] w.shelf w.kit.writer w.runs w.sessions w.faults
first_want {out = out} {o = o} v w k c (inl m) =
    let q : Row = record { note = record { number = session_in v.fifo; begun = false; closed = false }; outcome = NotBegun; fault = None; written = []; before = v.shelf; after = w.shelf; first = number_of v; next = number_of w } in
    record {
      rows = q ∷ [];
      last = record { front = []; last = q; split = refl; number = k.shows.session; is_open = λ u. absurd (cc u); unended = tt };
      numbered = (k.shows.session, tt);
      are_sessions = c.sessions ∙ rw k.sessions refl;
      are_faults = m.2 ∙ k.faults;
      chain = (k.shelf, refl);
      segments = (k.number, refl);
      each = (((refl, refl, refl, m.0, m.5), λ e. m.4, c.counts, c.want_counts), tt);
      packets = refl;
      fates = rw (c.runs, k.runs) refl;
      notes = m.2 ∙ k.faults;
      writing = λ u. absurd (cc u);
      sound = rw k.shelf at c.sound;
      safe = λ e. m.2 ∙ k.faults;
      wants = omega (arith, same_wants k, c.want_counts);
      excuse = λ n q x e. rose_later out.shelf.wants v.shelf.wants w.shelf.wants (same_wants k) m.4;
    }
first_want {out = out} {o = o} v w k c (inr m) =
    let q : Row = record { note = record { number = session_in v.fifo; begun = false; closed = false }; outcome = NotCalled; fault = None; written = []; before = v.shelf; after = w.shelf; first = number_of v; next = number_of w } in
    record {
      rows = q ∷ [];
      last = record { front = []; last = q; split = refl; number = k.shows.session; is_open = λ u. absurd (cc u); unended = tt };
      numbered = (k.shows.session, tt);
      are_sessions = c.sessions ∙ rw k.sessions refl;
      are_faults = m.2 ∙ k.faults;
      chain = (k.shelf, refl);
      segments = (k.number, refl);
      each = (((refl, refl, refl, m.0, m.1, m.4), λ e. absurd (cc e), c.counts, c.want_counts), tt);
      packets = refl;
      fates = rw (c.runs, k.runs) refl;
      notes = m.2 ∙ k.faults;
      writing = λ u. absurd (cc u);
      sound = rw k.shelf at c.sound;
      safe = λ e. m.2 ∙ k.faults;
      wants = omega (arith, same_wants k, c.want_counts);
      excuse = λ n q x e. both_lists (asks_list out.seg) m.0 n;
    }

first_table : {out : Origin} {o : FifoOptions} (a : Answer) (v w : JobView) → IsFresh out o v → Opens out v a w
    → Table out o [] (Begun a ∷ []) [] w.shelf w.kit.writer w.runs w.sessions w.faults
first_table {out = out} {o = o} answer.Done v w k c =
    let s = session_in v.fifo in
    let q : Row = record { note = record { number = s; begun = true; closed = false }; outcome = Open; fault = None; written = []; before = v.shelf; after = w.shelf; first = number_of v; next = number_of w } in
    record {
      rows = q ∷ [];
      last = record { front = []; last = q; split = refl; number = k.shows.session; is_open = λ _ _. (refl, c.writer refl); unended = tt };
      numbered = (k.shows.session, tt);
      are_sessions = c.sessions ∙ rw k.sessions refl;
      are_faults = c.made.2 ∙ k.faults;
      chain = (k.shelf, refl);
      segments = (k.number, refl);
      each = (((refl, refl, rw (no_puts out (number_of v) s) c.made.0, rw (no_puts out (number_of v) s) c.made.4), λ e. absurd (cc e), c.counts, c.want_counts), tt);
      packets = refl;
      fates = rw (c.runs, k.runs) refl;
      notes = c.made.2 ∙ k.faults;
      writing = λ _. c.made.1;
      sound = rw k.shelf at c.sound;
      safe = λ e. c.made.2 ∙ k.faults;
      wants = omega (arith, same_wants k, c.want_counts);
      excuse = λ n q x. absurd (cc x);
    }
first_table {out = out} {o = o} answer.Fault v w k c =
    let n = note_at v Begin w in
    let q : Row = record { note = record { number = session_in v.fifo; begun = false; closed = false }; outcome = NotBegun; fault = Some n; written = []; before = v.shelf; after = w.shelf; first = number_of v; next = number_of w } in
    record {
      rows = q ∷ [];
      last = record { front = []; last = q; split = refl; number = k.shows.session; is_open = λ _ l. absurd (not_live o (Begun answer.Fault ∷ []) (begun_shut o) l); unended = tt };
      numbered = (k.shows.session, tt);
      are_sessions = c.sessions ∙ rw k.sessions refl;
      are_faults = c.made.2 ∙ rw k.faults refl;
      chain = (k.shelf, refl);
      segments = (k.number, refl);
      each = (((refl, refl, refl, c.made.0, c.made.5), (refl, refl, c.counts, c.made.4, omega arith, refl), c.counts, c.want_counts), tt);
      packets = refl;
      fates = rw (c.runs, k.runs) refl;
      notes = (v.faults, n, c.made.2, k.shows.session, refl, k.faults);
      writing = λ _. c.made.1 ∙ sym (begun_shut o);
      sound = rw k.shelf at c.sound;
      safe = λ e. absurd (c.safe (rw k.shelf e) refl);
      wants = omega (arith, same_wants k, c.want_counts);
      excuse = λ n q x. absurd (cc x);
    }
first_table answer.NoMemory v w k c = first_want v w k c c.made

no_runs : (rs : List Run) → rs ≡ [] → AreInOrder 0 rs
no_runs rs e = rw e (omega arith, tt)

-- session 0 was begun, or memory was wanted for it
pub started_done : {out : Origin} {o : FifoOptions} (v w : JobView) (x : FifoState) → IsFresh out o v → Opens out v answer.Done w
    → Shows o (Begun answer.Done ∷ []) None x → next_of x ≡ next_of w.fifo → Keeps out o [] (with_fifo w x)
started_done {o = o} v w x k c shows next = record {
  history = Begun answer.Done ∷ [];
  follows = (answer.Done, Begun answer.Done ∷ [], inl refl, refl);
  stands = record {
    shows = shows;
    next = next ∙ ap next_of c.fifo ∙ k.next;
    kit = c.kit;
    count = refl;
    indexed = refl;
    order = no_runs w.runs (c.runs ∙ k.runs);
    table = first_table answer.Done v w k c;
    places = record { runs = inl (omega (arith, k.run_places, c.run_places)); sessions = λ _ l. absurd (cc l); faults = λ _. omega (arith, k.fault_places, c.made.3); first = λ _. omega (arith, k.run_places, c.run_places) };
  };
}

pub started_want : {out : Origin} {o : FifoOptions} (v w : JobView) (x : FifoState) → IsFresh out o v → Opens out v answer.NoMemory w
    → Shows o (Begun answer.NoMemory ∷ []) None x → next_of x ≡ next_of w.fifo → Keeps out o [] (with_fifo w x)
started_want {o = o} v w x k c shows next = record {
  history = Begun answer.NoMemory ∷ [];
  follows = (answer.NoMemory, Begun answer.NoMemory ∷ [], inl refl, refl);
  stands = record {
    shows = shows;
    next = next ∙ ap next_of c.fifo ∙ k.next;
    kit = c.kit;
    count = refl;
    indexed = refl;
    order = no_runs w.runs (c.runs ∙ k.runs);
    table = first_table answer.NoMemory v w k c;
    places = record { runs = inl (omega (arith, k.run_places, c.run_places)); sessions = λ u. absurd (cc u); faults = λ u. absurd (cc u); first = λ _. omega (arith, k.run_places, c.run_places) };
  };
}

-- it was not begun: places were granted, or refused
pub started_fault : {out : Origin} {o : FifoOptions} (v w y : JobView) (x : FifoState) (b : Bool) → b ≡ true → IsFresh out o v → Opens out v answer.Fault w
    → Shows o (Begun answer.Fault ∷ []) None x → next_of x ≡ next_of w.fifo → Asks (with_fifo w x) b y → Keeps out o [] y
started_fault {out = out} {o = o} v w y x b granted k c shows next m = record {
  history = Begun answer.Fault ∷ [];
  follows = (answer.Fault, Begun answer.Fault ∷ [], inl refl, refl);
  stands = record {
    shows = rw m.fifo shows;
    next = ap next_of m.fifo ∙ next ∙ ap next_of c.fifo ∙ k.next;
    kit = rw m.kit c.kit;
    count = refl;
    indexed = refl;
    order = no_runs y.runs (m.runs ∙ c.runs ∙ k.runs);
    table = rw (m.shelf, m.kit, m.runs, m.sessions, m.faults) (first_table answer.Fault v w k c);
    places = (let p = m.granted_all granted in record { runs = inl (omega (arith, p.0)); sessions = λ _ _. p.1; faults = λ _. p.2; first = λ _. p.0 });
  };
}

pub started_refused : {out : Origin} {o : FifoOptions} (v w y : JobView) (x z : FifoState) (b : Bool) → IsFresh out o v → Opens out v answer.Fault w
    → Shows o (Begun answer.Fault ∷ []) None x → next_of x ≡ next_of w.fifo → Asks (with_fifo w x) b y
    → Shows o (Want ∷ Begun answer.Fault ∷ []) None z → next_of z ≡ next_of y.fifo → Keeps out o [] (with_fifo y z)
started_refused {out = out} {o = o} v w y x z b k c shows next m wants wants_next = record {
  history = Want ∷ Begun answer.Fault ∷ [];
  follows = (answer.Fault, Want ∷ Begun answer.Fault ∷ [], inr refl, refl);
  stands = record {
    shows = wants;
    next = wants_next ∙ ap next_of m.fifo ∙ next ∙ ap next_of c.fifo ∙ k.next;
    kit = rw m.kit c.kit;
    count = refl;
    indexed = refl;
    order = no_runs y.runs (m.runs ∙ c.runs ∙ k.runs);
    table = want_now (rw (m.shelf, m.kit, m.runs, m.sessions, m.faults) (first_table answer.Fault v w k c)) (λ n q e. absurd (not_empty v.faults (note_at v Begin w) (sym e ∙ m.faults ∙ c.made.2)));
    places = record { runs = inl (omega (arith, k.run_places, c.run_places, m.run_places)); sessions = λ u. absurd (cc u); faults = λ u. absurd (cc u); first = λ _. omega (arith, k.run_places, c.run_places, m.run_places) };
  };
}

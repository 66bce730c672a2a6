-- What a turn does to the job.
use Rattle.std.proofs.Common.{◌≡◌, ℕ, ◌+◌, ◌≤◌, ◌⊎◌, inl, inr, Bool, true, false, ◌==◌, ◌&&◌, List, [], ◌∷◌, ◌++◌, length, map, Some, None, refl, ap, sym, ◌∙◌, subst, arith, length-append, if◌then◌else◌}
use Rattle.fifo_core.specs.declared.types.FifoOptions.{FifoOptions}
use Rattle.fifo_core.specs.declared.types.PacketFacts.{PacketFacts}
use Rattle.fifo_core.specs.declared.types.Fate.{Fate}
use Rattle.fifo_core.specs.declared.types.Fate.TheVariants as fate
use Rattle.fifo_core.specs.declared.types.Answer.{Answer}
use Rattle.fifo_core.specs.declared.types.Answer.TheVariants as answer
use Rattle.fifo_core.specs.declared.types.Mode.{Mode}
use Rattle.fifo_core.specs.declared.types.Mode.TheVariants.{Live, Broken, Dead}
use Rattle.fifo_core.specs.History.{Tried, Fated, Want, History, mode_of, mode_is_live, notes, trying, fates_of, wanted, after_of, session_of, answered_done, answered_fault}
use Rattle.rmx_edge.specs.Shelf.{ShelfState, ShelfCall}
use Rattle.rmx_media.specs.declared.packet.Packet.{Packet}
use Rattle.slave.specs.Origin.{Origin}
use Rattle.slave.specs.declared.records.Run.{Run}
use Rattle.slave.specs.declared.records.SessionNote.{SessionNote}
use Rattle.slave.specs.declared.records.FaultAt.TheVariants.{Put}
use Rattle.slave.specs.declared.records.FaultNote.{FaultNote}
use Rattle.rmx_edge.specs.Count.{Rose}
use Rattle.slave.specs.Given.{Given, Sent, Swept, index_of, turn_of, end_from, IsGapless}
use Rattle.slave.specs.Runs.{Joins, AreInOrder}
use Rattle.slave.specs.Segments.{asks_list}
use Rattle.slave.proofs.Lists.{joins_later, order_later}
use Rattle.slave.specs.Job.{JobView, KitOf, Writer, WriterAfter, Calls, Puts, OpensAndPuts, Settles}
use Rattle.slave.specs.Table.{if_written, if_given, indices, Table, ahead_of}
use Rattle.slave.proofs.Rows.{map_push, gives_last, end_push, indices_push}
use Rattle.fifo_core.specs.declared.types.After.{After}
use Rattle.fifo_core.specs.declared.types.After.TheVariants as after
use Rattle.fifo_core.specs.declared.types.Action.{Action}
use Rattle.fifo_core.specs.declared.types.Action.TheVariants as action
use Rattle.fifo_core.specs.declared.state.FifoState.{FifoState}
use Rattle.fifo_core.specs.History.{action_of, needs_restart, after_answer_of, action_in, is_waiting, flushed_in, flush_of}
use Rattle.fifo_core.specs.State.{Shows, next_of}
use Rattle.fifo_core.specs.Follows.{Turn, MayWant, Turned, Made, Runs, Follows}
use Rattle.slave.specs.Origin.{facts_of}
use Rattle.slave.specs.Table.{HasPlaces, Stands, Holds, Tells, Ends, Concludes, Primed, PrimedFor, Acts, Sweeps, KeepsAll, GrowsAll}
use Rattle.slave.specs.Job.{MakesRoom}
use Rattle.slave.proofs.Later.{turn_adds, turn_dead, fated_adds, fated_dead}
use Rattle.slave.proofs.Steps.{widened, recorded, want_before, want_now, put_made, opened_put, fault_closes}

same_fate : {f g : Fate} → after.Settle f ≡ after.Settle g → f ≡ g
same_fate e = cc

told_fates : (h g : History) → MayWant h g → fates_of g ≡ fates_of h
told_fates h g (inl e) = rw e refl
told_fates h g (inr e) = rw e refl

told_table : {out : Origin} {o : FifoOptions} {T : List Given} {ahead : List (ℕ × Packet)} {shelf : ShelfState} {writer : Writer} {runs : List Run} {sessions : List SessionNote} {faults : List FaultNote}
    (h g : History) (i : ℕ) (facts : PacketFacts) (a : Answer) → MayWant h g → (answered_fault a ≡ false → g ≡ h)
    → Table out o T (Tried (trying o h) i facts a ∷ h) ahead shelf writer runs sessions faults → Table out o T (Tried (trying o g) i facts a ∷ g) ahead shelf writer runs sessions faults
told_table {out = out} {o = o} {T = T} {ahead = ahead} {shelf = shelf} {writer = writer} {runs = runs} {sessions = sessions} {faults = faults} h g i facts a (inl e) same t =
    subst (λ (x : History). Table out o T (Tried (trying o x) i facts a ∷ x) ahead shelf writer runs sessions faults) (sym e) t
told_table {out = out} {o = o} {T = T} {ahead = ahead} {shelf = shelf} {writer = writer} {runs = runs} {sessions = sessions} {faults = faults} h g i facts answer.Fault (inr e) same t =
    subst (λ (x : History). Table out o T (Tried (trying o x) i facts answer.Fault ∷ x) ahead shelf writer runs sessions faults) (sym e) (want_before (trying o h) i facts t)
told_table {out = out} {o = o} {T = T} {ahead = ahead} {shelf = shelf} {writer = writer} {runs = runs} {sessions = sessions} {faults = faults} h g i facts answer.Done (inr e) same t =
    subst (λ (x : History). Table out o T (Tried (trying o x) i facts answer.Done ∷ x) ahead shelf writer runs sessions faults) (sym (same refl)) t
told_table {out = out} {o = o} {T = T} {ahead = ahead} {shelf = shelf} {writer = writer} {runs = runs} {sessions = sessions} {faults = faults} h g i facts answer.NoMemory (inr e) same t =
    subst (λ (x : History). Table out o T (Tried (trying o x) i facts answer.NoMemory ∷ x) ahead shelf writer runs sessions faults) (sym (same refl)) t

-- a fault settles no packet as written
fault_fate : (p : Packet) (w b n : Bool) (m : ℕ) (f : Fate)
    → (if w then after.Settle fate.NoMemory else (if b then (if n then after.Settle fate.KeyWait else after.Again) else after.Settle (fate.Lost m))) ≡ after.Settle f
    → if_written p f ≡ []
fault_fate p true b n m f e = rw (sym (same_fate e)) refl
fault_fate p false true true m f e = rw (sym (same_fate e)) refl
fault_fate p false true false m f e = absurd (cc e)
fault_fate p false false n m f e = rw (sym (same_fate e)) refl

done_fate : (w : Bool) (x f : Fate) → w ≡ false → (if w then after.Settle fate.NoMemory else after.Settle x) ≡ after.Settle f → x ≡ f
done_fate true x f u e = absurd (cc u)
done_fate false x f u e = same_fate e

-- after a want every fate is NoMemory
wanted_fate : (w : Bool) (x : After) (f : Fate) → w ≡ true → (if w then after.Settle fate.NoMemory else x) ≡ after.Settle f → fate.NoMemory ≡ f
wanted_fate true x f u e = same_fate e
wanted_fate false x f u e = absurd (cc u)

want_fate : (w : Bool) (f : Fate) → (if w then after.Settle fate.NoMemory else after.Settle fate.NoMemory) ≡ after.Settle f → fate.NoMemory ≡ f
want_fate true f e = same_fate e
want_fate false f e = same_fate e

-- the fate says what was written
ahead_is : (o : FifoOptions) (h g : History) (i : ℕ) (p : Packet) (facts : PacketFacts) (a : Answer) (f : Fate) → after_of o g i facts a ≡ after.Settle f
    → (answered_fault a ≡ false → g ≡ h) → wanted h ≡ false → ahead_of (trying o h) p a ≡ if_written p f
ahead_is o h g i p facts answer.Done f e same u =
    let ug : wanted g ≡ false = rw (same refl) u in
    rw (sym (done_fate (wanted g) (fate.Written (trying o g)) f ug e), same refl) refl
ahead_is o h g i p facts answer.Fault f e same u = sym (fault_fate p (wanted g) (mode_is_live (mode_of o g) && o.attempt_recovery && (o.wait_ms == 0)) (needs_restart o (Tried (trying o g) i facts answer.Fault ∷ g) i facts) (notes g) f e)
ahead_is o h g i p facts answer.NoMemory f e same u = rw (sym (want_fate (wanted g) f e)) refl

-- a list whose last run goes on is not empty
joined_some : (rs front : List Run) (r : Run) → rs ≡ front ++ r ∷ [] → rs ≡ [] → ⊥
joined_some rs [] r e z = let x : [] ≡ r ∷ [] = sym z ∙ e in cc x
joined_some rs (q ∷ front) r e z = let x : [] ≡ q ∷ (front ++ r ∷ []) = sym z ∙ e in cc x

-- which places are left after a turn
settled_places : {out : Origin} {o : FifoOptions} {T : List Given} {i : ℕ} {p : Packet} {h : History} (a : Answer) (v w x : JobView) (r : After) (f : Fate) (g : History)
    → Holds out o T i p h a v → Tells o h i (facts_of out p) a v r w → Settles i f w x
    → MayWant h g → (answered_fault a ≡ false → g ≡ h) → (answered_fault a ≡ true → g ≡ h → (2 ≤ w.run_places) × (1 ≤ w.session_places) × (1 ≤ w.fault_places))
    → after_of o g i (facts_of out p) a ≡ after.Settle f → next_of x.fifo ≡ i + 1
    → HasPlaces o (Fated i f ∷ Tried (trying o g) i (facts_of out p) a ∷ g) x
settled_places {out = out} {o = o} {T = T} {i = i} {p = p} {h = h} answer.Done v w x r f g d k s may same granted is next =
    let ug : wanted g ≡ false = rw (same refl) d.unwanted in
    let f_is : f ≡ fate.Written (trying o h) = sym (done_fate (wanted g) (fate.Written (trying o g)) f ug is) ∙ rw (same refl) refl in
    record {
      runs = inl (elim d.room [
        | inl j ↦ (let j' : Joins w.runs i f = rw (k.runs, f_is) j in
            let e = s.kept_places j' in omega (arith, e, k.run_places, d.last_place))
        | inr two ↦ omega (arith, two, k.run_places, s.run_places)
      ]);
      sessions = λ u l. absurd (cc l);
      faults = λ u. omega (arith, d.places refl, k.fault_places, s.fault_places);
      first = λ z. absurd (joined_some x.runs s.joins.0 s.joins.1 s.joins.2 z);
    }
settled_places {out = out} {o = o} {T = T} {i = i} {p = p} {h = h} answer.Fault v w x r f g d k s (inl e) same granted is next =
    let places = granted refl e in
    record {
      runs = inl (omega (arith, places.0, s.run_places));
      sessions = λ u l. omega (arith, places.1, s.session_places);
      faults = λ u. omega (arith, places.2, s.fault_places);
      first = λ z. absurd (joined_some x.runs s.joins.0 s.joins.1 s.joins.2 z);
    }
settled_places {out = out} {o = o} {T = T} {i = i} {p = p} {h = h} answer.Fault v w x r f g d k s (inr e) same granted is next =
    let wg : wanted g ≡ true = rw e refl in
    let f_is = wanted_fate (wanted g) (after_answer_of o g i (facts_of out p) answer.Fault) f wg is in
    let not_free : wanted g ≡ false → ⊥ = λ (u : wanted g ≡ false). (let t : true ≡ false = sym wg ∙ u in cc t) in
    record {
      runs = inr (wg, rw next (subst (λ (y : Fate). Joins x.runs (i + 1) y) (sym f_is) s.joins));
      sessions = λ u l. absurd (not_free u);
      faults = λ u. absurd (not_free u);
      first = λ z. absurd (joined_some x.runs s.joins.0 s.joins.1 s.joins.2 z);
    }
settled_places {out = out} {o = o} {T = T} {i = i} {p = p} {h = h} answer.NoMemory v w x r f g d k s may same granted is next =
    let f_is = want_fate (wanted g) f is in
    record {
      runs = inr (refl, rw next (subst (λ (y : Fate). Joins x.runs (i + 1) y) (sym f_is) s.joins));
      sessions = λ u l. absurd (cc u);
      faults = λ u. absurd (cc u);
      first = λ z. absurd (joined_some x.runs s.joins.0 s.joins.1 s.joins.2 z);
    }

-- the turn is over
pub settled : {out : Origin} {o : FifoOptions} {T : List Given} {i : ℕ} {p : Packet} {h : History} {a : Answer} (v w x : JobView) (r : After) (f : Fate)
    → Holds out o T i p h a v → Tells o h i (facts_of out p) a v r w → r ≡ after.Settle f → Settles i f w x → Ends out o T i p h a x
settled {out = out} {o = o} {T = T} {i = i} {p = p} {h = h} {a = a} v w x r f d k e s =
    let facts = facts_of out p in
    let g = k.told in
    let is = sym k.result ∙ e in
    let same_count : length (fates_of g) ≡ length T = rw (told_fates h g k.may) d.count in
    let moved : Table out o (T ++ Sent i p ∷ []) (Tried (trying o g) i facts a ∷ g) (if_written p f) x.shelf x.kit.writer w.runs x.sessions x.faults
    = rw (s.shelf ∙ k.shelf, s.kit ∙ k.kit, s.sessions ∙ k.sessions, s.faults ∙ k.faults, k.runs, ← ahead_is o h g i p facts a f is k.not_asked d.unwanted)
    (told_table h g i facts a k.may k.not_asked d.table) in
    record {
      fate_is = f;
      told = g;
      may = k.may;
      result = is;
      stands = record {
        shows = rw s.fifo (rw e at k.shows);
        next = ap next_of s.fifo ∙ k.next ∙ d.next ∙ sym (end_push 0 T (Sent i p));
        kit = rw (s.kit ∙ k.kit) d.kit;
        indexed = indices_push T (Sent i p) (fates_of g) i f (rw (told_fates h g k.may) d.indexed) refl;
        order = rw (end_push 0 T (Sent i p)) (s.order (rw k.runs d.order));
        count = omega (arith, length-append (fates_of g) ((i, f) ∷ []), length-append T (Sent i p ∷ []), same_count);
        table = recorded T (Sent i p) i f same_count moved (s.fates (rw k.runs d.order));
        places = settled_places a v w x r f g d k s k.may k.not_asked k.granted is (ap next_of s.fifo ∙ k.next ∙ d.next);
      };
    }

-- a packet is tried again only after a fault of a live output, with no want of memory
again_bools : (w b n : Bool) (m : ℕ)
    → (if w then after.Settle fate.NoMemory else (if b then (if n then after.Settle fate.KeyWait else after.Again) else after.Settle (fate.Lost m))) ≡ after.Again
    → w ≡ false
again_bools true b n m e = absurd (cc e)
again_bools false b n m e = refl

again_settled : (w : Bool) (x : Fate) → (if w then after.Settle fate.NoMemory else after.Settle x) ≡ after.Again → ⊥
again_settled true x e = cc e
again_settled false x e = cc e

again_fault : (o : FifoOptions) (h : History) (i : ℕ) (facts : PacketFacts) (a : Answer) → after_of o h i facts a ≡ after.Again → (answered_fault a ≡ true) × (wanted h ≡ false)
again_fault o h i facts answer.Done e = absurd (again_settled (wanted h) (fate.Written (trying o h)) e)
again_fault o h i facts answer.Fault e =
    (refl, again_bools (wanted h) (mode_is_live (mode_of o h) && o.attempt_recovery && (o.wait_ms == 0)) (needs_restart o (Tried (trying o h) i facts answer.Fault ∷ h) i facts) (notes h) e)
again_fault o h i facts answer.NoMemory e = absurd (again_settled (wanted h) fate.NoMemory e)

free_told : (h g : History) → MayWant h g → wanted g ≡ false → g ≡ h
free_told h g (inl e) u = e
free_told h g (inr e) u = let t : true ≡ false = rw e at u in absurd (cc t)

is_fault_only : (a : Answer) → answered_fault a ≡ true → a ≡ answer.Fault
is_fault_only answer.Done e = absurd (cc e)
is_fault_only answer.Fault e = refl
is_fault_only answer.NoMemory e = absurd (cc e)

-- what is known where the packet is to be tried again
pub record Retries (out : Origin) (o : FifoOptions) (T : List Given) (i : ℕ) (p : Packet) (h : History) (w : JobView) : Type 0 where
  pub shows : Shows o h (Some (i, facts_of out p)) w.fifo
  pub next : next_of w.fifo ≡ i + 1
  pub kit : KitOf out w.kit
  pub count : length (fates_of h) ≡ length T
  pub indexed : indices (fates_of h) ≡ map index_of T
  pub order : AreInOrder i w.runs
  pub unwanted : wanted h ≡ false
  pub closed_now : mode_is_live (mode_of o h) ≡ false
  pub table : Table out o (T ++ Sent i p ∷ []) h [] w.shelf w.kit.writer w.runs w.sessions w.faults
  pub run_places : 1 ≤ w.run_places
  pub session_places : 1 ≤ w.session_places
  pub fault_places : 1 ≤ w.fault_places
  pub room : Joins w.runs i (fate.Written (trying o h)) ⊎ (2 ≤ w.run_places)

pub retries : {out : Origin} {o : FifoOptions} {T : List Given} {i : ℕ} {p : Packet} {h : History} {a : Answer} (v w : JobView) (r : After)
    → Holds out o T i p h a v → Tells o h i (facts_of out p) a v r w → r ≡ after.Again
    → (a ≡ answer.Fault) × Retries out o T i p (Tried (trying o h) i (facts_of out p) answer.Fault ∷ h) w
retries {out = out} {o = o} {T = T} {i = i} {p = p} {h = h} {a = a} v w r d k e =
    let known = again_fault o k.told i (facts_of out p) a (sym k.result ∙ e) in
    let same = free_told h k.told k.may known.1 in
    let is = is_fault_only a known.0 in
    let places = k.granted known.0 same in (
      is,
      record {
        shows = rw (e, same, is) at k.shows;
        next = k.next ∙ d.next;
        kit = rw k.kit d.kit;
        count = d.count;
        indexed = d.indexed;
        order = rw k.runs d.order;
        unwanted = d.unwanted;
        closed_now = fault_closes o h (trying o h) i (facts_of out p);
        table = rw (k.shelf, k.kit, k.sessions, k.faults, k.runs) (rw is at d.table);
        run_places = omega (arith, places.0);
        session_places = places.1;
        fault_places = places.2;
        room = inr places.0;
      },
    )

-- the writing of a shelf on which a session is to be opened
pub retry_idle : {out : Origin} {o : FifoOptions} {T : List Given} {i : ℕ} {p : Packet} {h : History} (w : JobView) → Retries out o T i p h w → w.shelf.writing ≡ false
retry_idle w t = t.table.writing t.unwanted ∙ t.closed_now

opened_same : {out : Origin} {p : Packet} {i : ℕ} (b : Answer) (w x : JobView) → OpensAndPuts out p (Put i) w b x
    → (x.fifo ≡ w.fifo) × (x.runs ≡ w.runs) × (x.run_places ≡ w.run_places) × (answered_done b ≡ true → x.fault_places ≡ w.fault_places) × KitOf out x.kit
opened_same answer.Done w x (inl m) =
    (m.2.calls.fifo ∙ m.1.fifo, m.2.calls.runs ∙ m.1.runs, m.2.calls.run_places ∙ m.1.run_places, λ e. m.2.calls.made.3 ∙ m.1.made.3, m.2.calls.kit)
opened_same answer.Fault w x (inl m) = (m.2.calls.fifo ∙ m.1.fifo, m.2.calls.runs ∙ m.1.runs, m.2.calls.run_places ∙ m.1.run_places, λ e. absurd (cc e), m.2.calls.kit)
opened_same answer.NoMemory w x (inl m) = (m.2.calls.fifo ∙ m.1.fifo, m.2.calls.runs ∙ m.1.runs, m.2.calls.run_places ∙ m.1.run_places, λ e. absurd (cc e), m.2.calls.kit)
opened_same answer.Done w x (inr m) = absurd (cc m.0)
opened_same answer.Fault w x (inr m) = (m.1.fifo, m.1.runs, m.1.run_places, λ e. absurd (cc e), m.1.kit)
opened_same answer.NoMemory w x (inr m) = (m.1.fifo, m.1.runs, m.1.run_places, λ e. absurd (cc e), m.1.kit)

closed_trying : (o : FifoOptions) (h : History) → mode_is_live (mode_of o h) ≡ false → trying o h ≡ session_of h + 1
closed_trying o h e = rw e refl

-- a session is opened for the packet
pub opened_holds : {out : Origin} {o : FifoOptions} {T : List Given} {i : ℕ} {p : Packet} {h : History} (b : Answer) (w x : JobView)
    → Retries out o T i p h w → OpensAndPuts out p (Put i) w b x → Holds out o T i p h b x
opened_holds {out = out} {o = o} {T = T} {i = i} {p = p} {h = h} b w x t c =
    let same = opened_same b w x c in
    record {
      shows = rw same.0 t.shows;
      next = ap next_of same.0 ∙ t.next;
      kit = same.4;
      count = t.count;
      indexed = t.indexed;
      order = rw same.1 t.order;
      unwanted = t.unwanted;
      table = opened_put i p (facts_of out p) b w x t.table t.unwanted (gives_last T i p) t.shows.session (closed_trying o h t.closed_now) c;
      room = rw (same.1, same.2) t.room;
      last_place = omega (arith, t.run_places, same.2);
      places = λ e. omega (arith, t.fault_places, same.3 e);
    }

-- what is known where the packet is to be written in the open session
pub record Writes (out : Origin) (o : FifoOptions) (T : List Given) (i : ℕ) (p : Packet) (h : History) (v : JobView) : Type 0 where
  pub shows : Shows o h (Some (i, facts_of out p)) v.fifo
  pub next : next_of v.fifo ≡ i + 1
  pub kit : KitOf out v.kit
  pub count : length (fates_of h) ≡ length T
  pub indexed : indices (fates_of h) ≡ map index_of T
  pub order : AreInOrder i v.runs
  pub unwanted : wanted h ≡ false
  pub live : mode_of o h ≡ Live
  pub table : Table out o (T ++ Sent i p ∷ []) h [] v.shelf v.kit.writer v.runs v.sessions v.faults
  pub run_places : 1 ≤ v.run_places
  pub fault_places : 1 ≤ v.fault_places
  pub room : Joins v.runs i (fate.Written (trying o h)) ⊎ (2 ≤ v.run_places)

put_faults : {out : Origin} {calls : List ShelfCall} {i : ℕ} (a : Answer) (v w : JobView) → Calls out calls (Put i) v a w → answered_done a ≡ true → w.fault_places ≡ v.fault_places
put_faults answer.Done v w c e = c.made.3
put_faults answer.Fault v w c e = absurd (cc e)
put_faults answer.NoMemory v w c e = absurd (cc e)

-- the packets of the session that is open
abbrev pub written_before : {out : Origin} {o : FifoOptions} {T : List Given} {i : ℕ} {p : Packet} {h : History} {v : JobView} → Writes out o T i p h v → List Packet
written_before t = t.table.last.last.written

-- the number of its first segment
abbrev pub first_in : {out : Origin} {o : FifoOptions} {T : List Given} {i : ℕ} {p : Packet} {h : History} {v : JobView} → Writes out o T i p h v → ℕ
first_in t = t.table.last.last.first

pub put_after : {out : Origin} {o : FifoOptions} {T : List Given} {i : ℕ} {p : Packet} {h : History} {v : JobView} (t : Writes out o T i p h v) → WriterAfter out (first_in t) (written_before t) v.kit.writer
put_after t = (t.table.last.is_open t.unwanted t.live).1

pub put_holds : {out : Origin} {o : FifoOptions} {T : List Given} {i : ℕ} {p : Packet} {h : History} (a : Answer) (v w : JobView)
    (t : Writes out o T i p h v) → Puts out (first_in t) (written_before t) p (Put i) v a w → Holds out o T i p h a w
put_holds {out = out} {o = o} {T = T} {i = i} {p = p} {h = h} a v w t made =
    let c = made.calls in
    record {
      shows = rw c.fifo t.shows;
      next = ap next_of c.fifo ∙ t.next;
      kit = c.kit;
      count = t.count;
      indexed = t.indexed;
      order = rw c.runs t.order;
      unwanted = t.unwanted;
      table = put_made i p (facts_of out p) a v w t.table t.unwanted t.live (gives_last T i p) t.shows.session made;
      room = rw (c.runs, c.run_places) t.room;
      last_place = omega (arith, t.run_places, c.run_places);
      places = λ e. omega (arith, t.fault_places, put_faults a v w c e);
    }

pub put_writing : {out : Origin} {o : FifoOptions} {T : List Given} {i : ℕ} {p : Packet} {h : History} (v : JobView) → Writes out o T i p h v → v.shelf.writing ≡ true
put_writing v t = t.table.writing t.unwanted ∙ rw t.live refl

-- what an action says of the machine
write_bools : (w : Bool) (m : Mode) (wait needs : Bool) → action.Write ≡ (if w then action.Settle fate.NoMemory else action_in m wait needs) → (w ≡ false) × (m ≡ Live)
write_bools true m wait needs e = absurd (cc e)
write_bools false Live wait needs e = (refl, refl)
write_bools false (Broken f) true needs e = absurd (cc e)
write_bools false (Broken f) false true e = absurd (cc e)
write_bools false (Broken f) false false e = absurd (cc e)
write_bools false (Dead f) wait needs e = absurd (cc e)

open_bools : (w : Bool) (m : Mode) (wait needs : Bool) → action.OpenAndWrite ≡ (if w then action.Settle fate.NoMemory else action_in m wait needs) → (w ≡ false) × (mode_is_live m ≡ false)
open_bools true m wait needs e = absurd (cc e)
open_bools false Live wait true e = absurd (cc e)
open_bools false Live wait false e = absurd (cc e)
open_bools false (Broken f) wait needs e = (refl, refl)
open_bools false (Dead f) wait needs e = absurd (cc e)

same_settled : {f g : Fate} → action.Settle f ≡ action.Settle g → f ≡ g
same_settled e = cc

settle_bools : (p : Packet) (f : Fate) (w : Bool) (m : Mode) (wait needs : Bool) → action.Settle f ≡ (if w then action.Settle fate.NoMemory else action_in m wait needs)
    → (if_written p f ≡ []) × (w ≡ true → f ≡ fate.NoMemory)
settle_bools p f true m wait needs e = (rw (same_settled e) refl, λ _. same_settled e)
settle_bools p f false Live wait true e = (rw (same_settled e) refl, λ t. absurd (cc t))
settle_bools p f false Live wait false e = absurd (cc e)
settle_bools p f false (Broken n) true needs e = (rw (same_settled e) refl, λ t. absurd (cc t))
settle_bools p f false (Broken n) false true e = (rw (same_settled e) refl, λ t. absurd (cc t))
settle_bools p f false (Broken n) false false e = absurd (cc e)
settle_bools p f false (Dead n) wait needs e = (rw (same_settled e) refl, λ t. absurd (cc t))

a_place : {o : FifoOptions} {h : History} (v : JobView) → HasPlaces o h v → wanted h ≡ false → 1 ≤ v.run_places
a_place v k u = elim k.runs [ inl le ↦ le | inr m ↦ absurd (let t : true ≡ false = sym m.0 ∙ u in cc t) ]

pub primed_writes : {out : Origin} {o : FifoOptions} {T : List Given} {i : ℕ} {p : Packet} {h : History} (v w : JobView)
    → PrimedFor out o T i p h v → action.Write ≡ action_of o h i (facts_of out p)
    → Shows o h (Some (i, facts_of out p)) w.fifo → next_of w.fifo ≡ i + 1
    → w.shelf ≡ v.shelf → w.kit ≡ v.kit → w.runs ≡ v.runs → w.sessions ≡ v.sessions → w.faults ≡ v.faults → w.run_places ≡ v.run_places → w.fault_places ≡ v.fault_places
    → Writes out o T i p h w
primed_writes {out = out} {o = o} {T = T} {i = i} {p = p} {h = h} v w k e shows next a y b c d f g =
    let is = write_bools (wanted h) (mode_of o h) (is_waiting o h (facts_of out p)) (needs_restart o h i (facts_of out p)) e in
    record {
      shows = shows;
      next = next;
      kit = rw y k.kit;
      count = k.count;
      indexed = k.indexed;
      order = rw b k.order;
      unwanted = is.0;
      live = is.1;
      table = rw (a, y, b, c, d) k.table;
      run_places = omega (arith, a_place v k.places is.0, f);
      fault_places = omega (arith, k.places.faults is.0, g);
      room = rw (b, f) (rw (← e) at (k.room is.0));
    }

pub primed_retries : {out : Origin} {o : FifoOptions} {T : List Given} {i : ℕ} {p : Packet} {h : History} (v w : JobView)
    → PrimedFor out o T i p h v → action.OpenAndWrite ≡ action_of o h i (facts_of out p)
    → Shows o h (Some (i, facts_of out p)) w.fifo → next_of w.fifo ≡ i + 1
    → w.shelf ≡ v.shelf → w.kit ≡ v.kit → w.runs ≡ v.runs → w.sessions ≡ v.sessions → w.faults ≡ v.faults → w.run_places ≡ v.run_places
    → w.session_places ≡ v.session_places → w.fault_places ≡ v.fault_places → Retries out o T i p h w
primed_retries {out = out} {o = o} {T = T} {i = i} {p = p} {h = h} v w k e shows next a y b c d f s g =
    let is = open_bools (wanted h) (mode_of o h) (is_waiting o h (facts_of out p)) (needs_restart o h i (facts_of out p)) e in
    record {
      shows = shows;
      next = next;
      kit = rw y k.kit;
      count = k.count;
      indexed = k.indexed;
      order = rw b k.order;
      unwanted = is.0;
      closed_now = is.1;
      table = rw (a, y, b, c, d) k.table;
      run_places = omega (arith, a_place v k.places is.0, f);
      session_places = omega (arith, k.places.sessions is.0 is.1, s);
      fault_places = omega (arith, k.places.faults is.0, g);
      room = rw (b, f) (rw (← e) at (k.room is.0));
    }

-- the room for a fate that is settled at once
place_by : {o : FifoOptions} {h : History} (i : ℕ) (v : JobView) (f : Fate) → HasPlaces o h v → next_of v.fifo ≤ i → (wanted h ≡ true → f ≡ fate.NoMemory)
    → (1 ≤ v.run_places) ⊎ Joins v.runs i f
place_by i v f k later only = elim k.runs [ inl le ↦ inl le | inr m ↦ inr (rw (only m.0) (joins_later v.runs (next_of v.fifo) i m.1 later)) ]

pub settle_place : {out : Origin} {o : FifoOptions} {T : List Given} {i : ℕ} {p : Packet} {h : History} (v : JobView) (f : Fate)
    → PrimedFor out o T i p h v → action.Settle f ≡ action_of o h i (facts_of out p) → (1 ≤ v.run_places) ⊎ Joins v.runs i f
settle_place {out = out} {o = o} {T = T} {i = i} {p = p} {h = h} v f k e =
    let is = settle_bools p f (wanted h) (mode_of o h) (is_waiting o h (facts_of out p)) (needs_restart o h i (facts_of out p)) e in
    place_by i v f k.places k.later is.1

settled_runs : {out : Origin} {o : FifoOptions} {T : List Given} {t : Given} {h : History} (v w x : JobView) (f : Fate) (b : Bool) → wanted h ≡ b
    → Primed out o T t f h v → (wanted h ≡ true → f ≡ fate.NoMemory)
    → w.runs ≡ v.runs → w.run_places ≡ v.run_places → Settles (index_of t) f w x → next_of x.fifo ≡ index_of t + 1
    → (1 ≤ x.run_places) ⊎ ((wanted h ≡ true) × Joins x.runs (next_of x.fifo) fate.NoMemory)
settled_runs {t = t} v w x f true u k only a b s next = inr (u, rw next (subst (λ (y : Fate). Joins x.runs (index_of t + 1) y) (only u) s.joins))
settled_runs {t = t} v w x f false u k only a b s next =
    let one = a_place v k.places u in
    inl (elim (k.room u) [
      | inl j ↦ (let j' : Joins w.runs (index_of t) f = rw a j in let same = s.kept_places j' in omega (arith, same, b, one))
      | inr two ↦ omega (arith, two, b, s.run_places)
    ])

-- a fate with which no call goes
settled_at_once : {out : Origin} {o : FifoOptions} {T : List Given} {t : Given} {h : History} (v w x : JobView) (f : Fate)
    → Primed out o T t f h v → if_given t f ≡ [] → (wanted h ≡ true → f ≡ fate.NoMemory)
    → Shows o (Fated (index_of t) f ∷ h) None w.fifo → next_of w.fifo ≡ index_of t + 1
    → w.shelf ≡ v.shelf → w.kit ≡ v.kit → w.runs ≡ v.runs → w.sessions ≡ v.sessions → w.faults ≡ v.faults → w.run_places ≡ v.run_places
    → w.session_places ≡ v.session_places → w.fault_places ≡ v.fault_places → Settles (index_of t) f w x → Stands out o (T ++ t ∷ []) (Fated (index_of t) f ∷ h) x
settled_at_once {out = out} {o = o} {T = T} {t = t} {h = h} v w x f k nothing only shows next a y b c d r ss g s =
    let moved : Table out o (T ++ t ∷ []) h (if_given t f) x.shelf x.kit.writer w.runs x.sessions x.faults
    = rw (s.shelf ∙ a, s.kit ∙ y, s.sessions ∙ c, s.faults ∙ d, b, nothing) k.table in
    let same_next = ap next_of s.fifo ∙ next in
    record {
      shows = rw s.fifo shows;
      next = same_next ∙ sym (end_push 0 T t);
      kit = rw (s.kit ∙ y) k.kit;
      indexed = indices_push T t (fates_of h) (index_of t) f k.indexed refl;
      order = rw (end_push 0 T t) (s.order (rw b k.order));
      count = omega (arith, length-append (fates_of h) ((index_of t, f) ∷ []), length-append T (t ∷ []), k.count);
      table = recorded T t (index_of t) f k.count moved (s.fates (rw b k.order));
      places = record {
        runs = settled_runs v w x f (wanted h) refl k only b r s same_next;
        sessions = λ u l. omega (arith, k.places.sessions u l, s.session_places, ss);
        faults = λ u. omega (arith, k.places.faults u, s.fault_places, g);
        first = λ z. absurd (joined_some x.runs s.joins.0 s.joins.1 s.joins.2 z);
      };
    }

pub primed_settles : {out : Origin} {o : FifoOptions} {T : List Given} {i : ℕ} {p : Packet} {h : History} (v w x : JobView) (f : Fate)
    → PrimedFor out o T i p h v → action.Settle f ≡ action_of o h i (facts_of out p)
    → Shows o (Fated i f ∷ h) None w.fifo → next_of w.fifo ≡ i + 1
    → w.shelf ≡ v.shelf → w.kit ≡ v.kit → w.runs ≡ v.runs → w.sessions ≡ v.sessions → w.faults ≡ v.faults → w.run_places ≡ v.run_places
    → w.session_places ≡ v.session_places → w.fault_places ≡ v.fault_places → Settles i f w x → Acts out o T i p h x
primed_settles {out = out} {o = o} {T = T} {i = i} {p = p} {h = h} v w x f k e shows next a y b c d r ss g s =
    let is = settle_bools p f (wanted h) (mode_of o h) (is_waiting o h (facts_of out p)) (needs_restart o h i (facts_of out p)) e in
    let primed : Primed out o T (Sent i p) f h v = rw (← e) at k in
    record {
      new = Fated i f ∷ h;
      acted = rw (← e) refl;
      stands = settled_at_once v w x f primed is.0 is.1 shows next a y b c d r ss g s;
    }

-- a packet that is flushed
flush_bools : (w : Bool) (m : Mode) (n : ℕ) → w ≡ true → (if w then fate.NoMemory else flushed_in m n) ≡ fate.NoMemory
flush_bools true m n e = refl
flush_bools false m n e = absurd (cc e)

pub sweep_place : {out : Origin} {o : FifoOptions} {T : List Given} {i n : ℕ} {h : History} (v : JobView)
    → Primed out o T (Swept i n) (flush_of o h n) h v → (1 ≤ v.run_places) ⊎ Joins v.runs i (flush_of o h n)
sweep_place {o = o} {i = i} {n = n} {h = h} v k = place_by i v (flush_of o h n) k.places k.later (flush_bools (wanted h) (mode_of o h) n)

pub primed_sweeps : {out : Origin} {o : FifoOptions} {T : List Given} {i n : ℕ} {h : History} (v w x : JobView) (f : Fate)
    → Primed out o T (Swept i n) (flush_of o h n) h v → f ≡ flush_of o h n
    → Shows o (Fated i f ∷ h) None w.fifo → next_of w.fifo ≡ i + 1
    → w.shelf ≡ v.shelf → w.kit ≡ v.kit → w.runs ≡ v.runs → w.sessions ≡ v.sessions → w.faults ≡ v.faults → w.run_places ≡ v.run_places
    → w.session_places ≡ v.session_places → w.fault_places ≡ v.fault_places → Settles i f w x → Sweeps out o T i n h x
primed_sweeps {out = out} {o = o} {T = T} {i = i} {n = n} {h = h} v w x f k e shows next a y b c d r ss g s =
    let primed : Primed out o T (Swept i n) f h v = rw (← e) at k in
    let only : wanted h ≡ true → f ≡ fate.NoMemory = λ (u : wanted h ≡ true). e ∙ flush_bools (wanted h) (mode_of o h) n u in
    record { stands = rw (← e) (settled_at_once v w x f primed refl only shows next a y b c d r ss g s) }

-- how the turn ended
pub ends_concludes : {out : Origin} {o : FifoOptions} {T : List Given} {i : ℕ} {p : Packet} {h : History} {a : Answer} {v : JobView} → Ends out o T i p h a v → Concludes out o T i p h a v
ends_concludes {out = out} {o = o} {T = T} {i = i} {p = p} {h = h} {a = a} k = record {
  new = Fated i k.fate_is ∷ Tried (trying o k.told) i (facts_of out p) a ∷ k.told;
  finished = (k.told, k.may, rw k.result refl);
  stands = k.stands;
}

-- after a second try
pub second_concludes : {out : Origin} {o : FifoOptions} {T : List Given} {i : ℕ} {p : Packet} {h : History} {a b : Answer} {v : JobView}
    → a ≡ answer.Fault → (g : History) → MayWant h g → after_of o g i (facts_of out p) a ≡ after.Again → g ≡ h
    → Ends out o T i p (Tried (trying o h) i (facts_of out p) answer.Fault ∷ h) b v → Concludes out o T i p h a v
second_concludes {out = out} {o = o} {T = T} {i = i} {p = p} {h = h} {a = a} {b = b} is g may again same k = record {
  new = Fated i k.fate_is ∷ Tried (trying o k.told) i (facts_of out p) b ∷ k.told;
  finished = (g, may, rw again (rw (same, is) (b, k.told, k.may, rw k.result refl)));
  stands = k.stands;
}

pub concludes_acts : {out : Origin} {o : FifoOptions} {T : List Given} {i : ℕ} {p : Packet} {h : History} {a : Answer} {v : JobView} (r : Action)
    → (r ≡ action.Write) ⊎ (r ≡ action.OpenAndWrite) → r ≡ action_of o h i (facts_of out p) → Concludes out o T i p h a v → Acts out o T i p h v
concludes_acts {a = a} r (inl w) e k = record { new = k.new; acted = rw (← e, w) (a, k.finished.0, k.finished.1, k.finished.2); stands = k.stands }
concludes_acts {a = a} r (inr w) e k = record { new = k.new; acted = rw (← e, w) (a, k.finished.0, k.finished.1, k.finished.2); stands = k.stands }

-- whole runs
runs_push : (o : FifoOptions) (h : History) (ts : List Turn) (t : Turn) (mid new : History) → Runs o h ts mid → Made o mid t new → Runs o h (ts ++ t ∷ []) new
runs_push o h [] t mid new r m = (new, rw (← r) m, refl)
runs_push o h (u ∷ ts) t mid new r m = (r.0, r.1, runs_push o r.0 ts t mid new r.2 m)

follows_on : {out : Origin} {o : FifoOptions} {T : List Given} {v : JobView} (k : KeepsAll out o T v) (t : Given) (g new : History)
    → MayWant k.history g → Turned o g (turn_of out t) new → Follows o (map (turn_of out) (T ++ t ∷ [])) new
follows_on {out = out} {o = o} {T = T} k t g new may turned = (
  k.follows.0,
  k.follows.1,
  k.follows.2,
  rw (map_push (turn_of out) T t) (runs_push o k.follows.1 (map (turn_of out) T) (turn_of out t) k.history new k.follows.3 (g, may, turned)),
)

pub grows : {out : Origin} {o : FifoOptions} {T : List Given} {i : ℕ} {p : Packet} {v w : JobView} (k : KeepsAll out o T v) (g : History)
    → MayWant k.history g → Acts out o T i p g w → GrowsAll out o (T ++ Sent i p ∷ []) k.history w
grows {out = out} {o = o} {T = T} {i = i} {p = p} k g may a =
    let adds = turn_adds o k.history g i (facts_of out p) a.new may a.acted in
    record {
      keeps = record { history = a.new; follows = follows_on k (Sent i p) g a.new may a.acted; stands = a.stands };
      later = adds.0;
      goes_on = adds.1;
      stays_dead = turn_dead o k.history g i (facts_of out p) a.new may a.acted;
    }

pub sweeps_on : {out : Origin} {o : FifoOptions} {T : List Given} {i n : ℕ} {v w : JobView} (k : KeepsAll out o T v) (g : History)
    → MayWant k.history g → Sweeps out o T i n g w → GrowsAll out o (T ++ Swept i n ∷ []) k.history w
sweeps_on {out = out} {o = o} {T = T} {i = i} {n = n} k g may a =
    let adds = fated_adds k.history g i (flush_of o g n) may in
    record {
      keeps = record { history = Fated i (flush_of o g n) ∷ g; follows = follows_on k (Swept i n) g (Fated i (flush_of o g n) ∷ g) may refl; stands = a.stands };
      later = adds.0;
      goes_on = adds.1;
      stays_dead = fated_dead o k.history g i (flush_of o g n) may;
    }

-- room was made for what comes next, or refused
pub roomy : {out : Origin} {o : FifoOptions} {T : List Given} {h : History} (t : Given) (f : Fate) (b : Bool) (v w : JobView)
    → Stands out o T h v → end_from 0 T ≤ index_of t → MakesRoom (index_of t) f v b w → b ≡ true → Primed out o T t f h w
roomy {T = T} t f b v w k later m granted = record {
  shows = rw m.fifo k.shows;
  later = omega (arith, later, ap next_of m.fifo ∙ k.next);
  kit = rw m.kit k.kit;
  count = k.count;
  indexed = k.indexed;
  order = rw m.runs (order_later (end_from 0 T) (index_of t) v.runs k.order later);
  table = widened t k.count (rw (m.shelf, m.kit, m.runs, m.sessions, m.faults) k.table);
  places = record {
    runs = elim k.places.runs [ inl le ↦ inl (omega (arith, le, m.run_places)) | inr x ↦ inr (x.0, rw (m.runs, m.fifo) x.1) ];
    sessions = λ u l. omega (arith, k.places.sessions u l, m.session_places);
    faults = λ u. omega (arith, k.places.faults u, m.fault_places);
    first = λ z. (let before = k.places.first (sym m.runs ∙ z) in omega (arith, before, m.run_places));
  };
  room = λ u. m.room granted;
}

-- the job with the machine in another state
abbrev pub with_fifo : JobView → FifoState → JobView
with_fifo v x = record v { fifo = x }

-- memory was wanted for the run
pub wanting : {out : Origin} {o : FifoOptions} {T : List Given} {h : History} (t : Given) (f e : Fate) (b : Bool) (v w : JobView) (x : FifoState)
    → Stands out o T h v → end_from 0 T ≤ index_of t → MakesRoom (index_of t) f v b w → Shows o (Want ∷ h) None x → next_of x ≡ next_of w.fifo
    → (asks_list out.seg ≡ false → IsGapless (T ++ t ∷ []) → v.faults ≡ [] → Rose out.shelf.wants v.shelf.wants) → Primed out o T t e (Want ∷ h) (with_fifo w x)
wanting {T = T} t f e b v w x k later m shows next excused = record {
  shows = shows;
  later = omega (arith, later, next ∙ ap next_of m.fifo ∙ k.next);
  kit = rw m.kit k.kit;
  count = k.count;
  indexed = k.indexed;
  order = rw m.runs (order_later (end_from 0 T) (index_of t) v.runs k.order later);
  table = want_now (widened t k.count (rw (m.shelf, m.kit, m.runs, m.sessions, m.faults) k.table)) (λ n q none. rw m.shelf (excused n q (sym m.faults ∙ none)));
  places = record {
    runs = elim k.places.runs [ inl le ↦ inl (omega (arith, le, m.run_places)) | inr y ↦ inr (refl, rw (m.runs, next ∙ ap next_of m.fifo) y.1) ];
    sessions = λ u l. absurd (cc u);
    faults = λ u. absurd (cc u);
    first = λ z. (let before = k.places.first (sym m.runs ∙ z) in omega (arith, before, m.run_places));
  };
  room = λ u. absurd (cc u);
}

again_closed : (w live recovers now needs : Bool) (m : ℕ)
    → (if w then after.Settle fate.NoMemory else (if live && recovers && now then (if needs then after.Settle fate.KeyWait else after.Again) else after.Settle (fate.Lost m))) ≡ after.Again
    → live ≡ false → ⊥
again_closed true live recovers now needs m e c = cc e
again_closed false true recovers now needs m e c = cc c
again_closed false false recovers now needs m e c = cc e

-- an output that isn't live tries a packet once
pub no_again : {out : Origin} {o : FifoOptions} {T : List Given} {i : ℕ} {p : Packet} {h : History} {a : Answer} (v w : JobView) (r : After)
    → Holds out o T i p h a v → Tells o h i (facts_of out p) a v r w → mode_is_live (mode_of o h) ≡ false → r ≡ after.Again → ⊥
no_again {out = out} {o = o} {T = T} {i = i} {p = p} {h = h} {a = a} v w r d k shut e =
    let known = again_fault o k.told i (facts_of out p) a (sym k.result ∙ e) in
    let same = free_told h k.told k.may known.1 in
    let is = is_fault_only a known.0 in
    let at_fault : after_of o h i (facts_of out p) answer.Fault ≡ after.Again = rw (same, is) at (sym k.result ∙ e) in
    again_closed (wanted h) (mode_is_live (mode_of o h)) o.attempt_recovery (o.wait_ms == 0)
    (needs_restart o (Tried (trying o h) i (facts_of out p) answer.Fault ∷ h) i (facts_of out p)) (notes h) at_fault shut

pub again_told : {out : Origin} {o : FifoOptions} {T : List Given} {i : ℕ} {p : Packet} {h : History} {a : Answer} (v w : JobView) (r : After)
    → Holds out o T i p h a v → (k : Tells o h i (facts_of out p) a v r w) → r ≡ after.Again → k.told ≡ h
again_told {out = out} {o = o} {T = T} {i = i} {p = p} {h = h} {a = a} v w r d k e =
    free_told h k.told k.may (again_fault o k.told i (facts_of out p) a (sym k.result ∙ e)).1

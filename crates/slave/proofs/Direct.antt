-- An output that is given packets without gaps.
use Rattle.std.proofs.Common.{◌≡◌, ℕ, suc, ◌+◌, ◌-◌, inl, inr, ◌&&◌, List, [], ◌∷◌, ◌++◌, length, map, slice_get, Some, refl, ap, sym, ◌∙◌, subst, arith}
use Rattle.std.proofs.lemmas.List.{append-nil}
use Rattle.fifo_core.specs.declared.types.FifoOptions.{FifoOptions}
use Rattle.fifo_core.specs.declared.types.Fate.{Fate}
use Rattle.fifo_core.specs.History.{Begun, Tried, Fated, Want, History, fates_of}
use Rattle.fifo_core.specs.Follows.{Turn, Comes}
use Rattle.rmx_media.specs.declared.packet.Packet.{Packet}
use Rattle.slave.specs.Origin.{Origin, facts_of}
use Rattle.slave.specs.Given.{Given, Sent, index_of, turn_of, end_from, Gives, sent_from, IsGapless}
use Rattle.slave.specs.Runs.{gap_count, gap_after, is_no_memory, AreInOrder}
use Rattle.slave.specs.Job.{JobView}
use Rattle.slave.specs.Table.{StandsAt, if_written, written_of, written_among, covered, indices, Indexed, turns_from, Keeps, KeepsAll, Grows, GrowsAll}
use Rattle.slave.specs.End.{EndView, EndedBy, EndedAllBy}
use Rattle.slave.proofs.Lists.{no_gap}
use Rattle.slave.proofs.Rows.{rows_other}

-- packets without gaps, one by one
pub sent_push : (n : ℕ) (L : List Packet) (p : Packet) → sent_from n (L ++ p ∷ []) ≡ sent_from n L ++ Sent (n + length L) p ∷ []
sent_push n [] p = (let e : n + 0 ≡ n = omega arith in rw e refl)
sent_push n (q ∷ L) p =
    let e : (n + 1) + length L ≡ n + suc (length L) = omega arith in
    ap (λ (ts : List Given). Sent n q ∷ ts) (rw (← e) (sent_push (n + 1) L p))

pub sent_end : (n : ℕ) (L : List Packet) → end_from n (sent_from n L) ≡ n + length L
sent_end n [] = omega arith
sent_end n (q ∷ L) = omega (arith, sent_end (n + 1) L)

sent_count : (n : ℕ) (L : List Packet) → length (sent_from n L) ≡ length L
sent_count n [] = refl
sent_count n (q ∷ L) = ap suc (sent_count (n + 1) L)

pub sent_turns : (out : Origin) (n : ℕ) (L : List Packet) → map (turn_of out) (sent_from n L) ≡ turns_from out n L
sent_turns out n [] = refl
sent_turns out n (p ∷ L) = ap (λ (ts : List Turn). Comes n (facts_of out p) ∷ ts) (sent_turns out (n + 1) L)

sent_indexed : (n : ℕ) (L : List Packet) (fs : List (ℕ × Fate)) → indices fs ≡ map index_of (sent_from n L) → Indexed n fs
sent_indexed n [] [] e = tt
sent_indexed n [] (x ∷ fs) e = absurd (cc e)
sent_indexed n (p ∷ L) [] e = absurd (cc e)
sent_indexed n (p ∷ L) (x ∷ fs) e =
    let head : x.0 ≡ n = cc in
    let tail : indices fs ≡ map index_of (sent_from (n + 1) L) = cc in
    (head, sent_indexed (n + 1) L fs tail)

sent_written : (n : ℕ) (L : List Packet) (fs : List (ℕ × Fate)) → written_among (sent_from n L) fs ≡ written_of L fs
sent_written n [] fs = refl
sent_written n (p ∷ L) [] = refl
sent_written n (p ∷ L) (f ∷ fs) = ap (λ zs. if_written p f.1 ++ zs) (sent_written (n + 1) L fs)

sent_above : (n : ℕ) (L : List Packet) (i : ℕ) (p : Packet) → Gives (sent_from n L) i p → (k : ℕ) × (i ≡ n + k) × (slice_get L k ≡ Some p)
sent_above n [] i p g = absurd g
sent_above n (q ∷ L) i p (inl e) = (0, omega (arith, e.0), rw e.1 refl)
sent_above n (q ∷ L) i p (inr g) = (let k = sent_above (n + 1) L i p g in (suc k.0, omega (arith, k.1), k.2))

sent_at : (L : List Packet) (i : ℕ) (p : Packet) → Gives (sent_from 0 L) i p → StandsAt L i p
sent_at L i p g = (let k = sent_above 0 L i p g in let e : k.0 ≡ i = omega (arith, k.1) in rw e at k.2)

-- nothing lies between the packets
gap_none : (n : ℕ) (fs : List (ℕ × Fate)) (i : ℕ) (f : Fate) → Indexed n fs → i ≡ n + length fs → gap_after fs i f ≡ []
gap_none n [] i f k e = refl
gap_none n (x ∷ []) i f k e =
    let d : i - (x.0 + 1) ≡ 0 = omega (arith, e, k.0) in
    let none : gap_count x.1 f (x.0 + 1) i ≡ 0 = no_gap (is_no_memory x.1 && is_no_memory f) (i - (x.0 + 1)) d in
    rw none refl
gap_none n (x ∷ y ∷ fs) i f k e = gap_none (n + 1) (y ∷ fs) i f k.1 (omega (arith, e))

indexed_split : (n : ℕ) (fs : List (ℕ × Fate)) (i : ℕ) (f : Fate) → Indexed n (fs ++ (i, f) ∷ []) → Indexed n fs × (i ≡ n + length fs)
indexed_split n [] i f k = (tt, omega (arith, k.0))
indexed_split n (x ∷ fs) i f k = (let r = indexed_split (n + 1) fs i f k.1 in ((k.0, r.0), omega (arith, r.1)))

covered_plain : (h : History) → Indexed 0 (fates_of h) → covered h ≡ fates_of h
covered_plain [] k = refl
covered_plain (Begun a ∷ h) k = covered_plain h k
covered_plain (Tried s i facts a ∷ h) k = covered_plain h k
covered_plain (Fated i f ∷ h) k =
    let r = indexed_split 0 (fates_of h) i f k in
    let none = gap_none 0 (fates_of h) i f r.0 r.1 in
    rw (covered_plain h r.0, none, append-nil) refl
covered_plain (Want ∷ h) k = covered_plain h k

pub plain_fates : (L : List Packet) (h : History) → indices (fates_of h) ≡ map index_of (sent_from 0 L) → covered h ≡ fates_of h
plain_fates L h e = covered_plain h (sent_indexed 0 L (fates_of h) e)

-- what was given without gaps ends with a packet
last_of : (n : ℕ) (T : List Given) (t : Given) (M : List Packet) → T ++ t ∷ [] ≡ sent_from n M
    → (L : List Packet) × (p : Packet) × (T ≡ sent_from n L) × (t ≡ Sent (n + length L) p)
last_of n [] t [] e = absurd (cc e)
last_of n [] t (p ∷ []) e = (let z : n + 0 ≡ n = omega arith in let head : t ≡ Sent n p = cc in ([], p, refl, rw z head))
last_of n [] t (p ∷ q ∷ M) e = absurd (cc e)
last_of n (x ∷ T) t [] e = absurd (cc e)
last_of n (x ∷ T) t (p ∷ M) e =
    let head : x ≡ Sent n p = cc in
    let tail : T ++ t ∷ [] ≡ sent_from (n + 1) M = cc in
    let k = last_of (n + 1) T t M tail in
    let d : (n + 1) + length k.0 ≡ n + suc (length k.0) = omega arith in
    (p ∷ k.0, k.1, rw (head, k.2) refl, rw d at k.3)

pub gapless_last : (T : List Given) (t : Given) → IsGapless (T ++ t ∷ []) → (L : List Packet) × (p : Packet) × (T ≡ sent_from 0 L) × (t ≡ Sent (0 + length L) p)
gapless_last T t k = last_of 0 T t k.0 k.1

-- the two ways to say what was given
abbrev pub keeps_all : {out : Origin} {o : FifoOptions} {L : List Packet} {v : JobView} (k : Keeps out o L v) → KeepsAll out o (sent_from 0 L) v
keeps_all {out = out} {L = L} k = record { history = k.history; follows = rw (sent_turns out 0 L) k.follows; stands = k.stands }

abbrev pub keeps_direct : {out : Origin} {o : FifoOptions} {L : List Packet} {v : JobView} (k : KeepsAll out o (sent_from 0 L) v) → Keeps out o L v
keeps_direct {out = out} {L = L} k = record { history = k.history; follows = rw (sent_turns out 0 L) at k.follows; stands = k.stands }

pub grows_direct : {out : Origin} {o : FifoOptions} (L : List Packet) (p : Packet) (i : ℕ) (h : History) (v : JobView) → length L ≡ i
    → GrowsAll out o (sent_from 0 L ++ Sent i p ∷ []) h v → Grows out o (L ++ p ∷ []) h v
grows_direct {out = out} {o = o} L p i h v at k =
    let e : 0 + length L ≡ i = omega (arith, at) in
    let same : sent_from 0 L ++ Sent i p ∷ [] ≡ sent_from 0 (L ++ p ∷ []) = rw (← e) (sym (sent_push 0 L p)) in
    let g = subst (λ (ts : List Given). GrowsAll out o ts h v) same k in
    record { keeps = keeps_direct g.keeps; later = g.later; goes_on = g.goes_on; stays_dead = g.stays_dead }

pub ended_direct : {out : Origin} {o : FifoOptions} {L : List Packet} {h : History} {e : EndView} → EndedAllBy out o (sent_from 0 L) h e → EndedBy out o L h e
ended_direct {out = out} {o = o} {L = L} {h = h} {e = e} k =
    let a = k.0 in (
      record {
        history = a.history;
        follows = rw (sent_turns out 0 L) at a.follows;
        count = a.count ∙ sent_count 0 L;
        indexed = sent_indexed 0 L (fates_of a.history) a.indexed;
        order = subst (λ (n : ℕ). AreInOrder n e.fates) (let z : 0 + length L ≡ length L = omega arith in sent_end 0 L ∙ z) a.order;
        end_answer = a.end_answer;
        end_called = a.end_called;
        state = a.state;
        fates = a.fates ∙ plain_fates L a.history a.indexed;
        rows = a.rows;
        front = a.front;
        last = a.last;
        split = a.split;
        numbered = a.numbered;
        number = a.number;
        ends_as = a.ends_as;
        are_sessions = a.are_sessions;
        are_faults = a.are_faults;
        counts = a.counts;
        before = a.before;
        added = a.added;
        chain = a.chain;
        next_segment = a.next_segment;
        segments = a.segments;
        bytes = a.bytes;
        each = rows_other out (Gives (sent_from 0 L)) (StandsAt L) a.rows (sent_at L) a.each;
        packets = a.packets ∙ sent_written 0 L (fates_of a.history);
        notes = a.notes;
        inline = a.inline;
        lane = a.lane;
        sound = a.sound;
        safe = a.safe;
        wants = a.wants;
        excuse = λ n. a.excuse n (L, refl);
      },
      k.1,
    )

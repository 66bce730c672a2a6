-- From the first packet to the last.
use Rattle.std.proofs.Common.{◌≡◌, ℕ, ◌+◌, ◌<◌, ◌≤◌, ◌⊎◌, inl, inr, Bool, true, false, List, [], ◌∷◌, ◌++◌, length, ap, ◌∙◌, sym, refl, subst, arith, length-append, append_assoc, Option, Some, None}
use Rattle.std.specs.Prelude.{◌≤ℤ◌, ◌^◌}
use Rattle.std.proofs.lemmas.Bool.{cases_lt}
use Rattle.std.proofs.lemmas.List.{append-nil}
use Rattle.rmx_media.specs.declared.packet.Packet.{Packet}
use Rattle.flv_tags.specs.declared.tag.Tag.{Tag}
use Rattle.flv_tags.specs.declared.tag.TagFault.TheVariants as tag_fault
use Rattle.flv_tags.specs.Tags.{reading_of}
use Rattle.flv_demux.specs.declared.deal.Kinds.{Kinds}
use Rattle.flv_demux.specs.Probe.{probe_of, is_decided}
use Rattle.flv_demux.specs.Deal.{packets_by, last_dts}
use Rattle.interleaver.specs.Interleave.{interleave, emitted}
use Rattle.interleaver.specs.Queues.{Pending, last_of}
use Rattle.rmx_edge.specs.Inputs.{InputState}
use Rattle.tee.specs.declared.fed.Fed.TheVariants.{More, Stop}
use Rattle.remux.specs.declared.probe.Reached.{Reached}
use Rattle.remux.specs.declared.probe.Reached.TheVariants as reached
use Rattle.remux.specs.declared.read.ReadEnd.{ReadEnd}
use Rattle.remux.specs.declared.read.ReadEnd.TheVariants as ending
use Rattle.remux.specs.Carried.{Ready, GivenOut, Carried, Carries, limited, last_of_all}
use Rattle.remux.specs.Finding.{LateProbe, ByReached}
use Rattle.remux.specs.Fit.{Each}
use Rattle.remux.specs.Flow.{Flow, Flowing, Stopped, CutShort}
use Rattle.remux.specs.Gave.{Advances, Flushed, FlushedSome}
use Rattle.remux.specs.Handed.{Handed, HandedSome}
use Rattle.remux.specs.Pumped.{AllGiven}
use Rattle.remux.specs.Reading.{Late, StopsEarly, Reaches, Breaks, Drains, Ends}
use Rattle.remux.proofs.Counting.{ready_for, ready_all}
use Rattle.remux.proofs.Flushing.{whole_order}
use Rattle.remux.proofs.Least.{least_tags}
use Rattle.remux.proofs.Probing.{not_both}
use Rattle.remux.proofs.Pumping.{flowing_more, stopped_by, all_given, all_out, cut_at, in_order, few_streams}
use Rattle.remux.proofs.Reading.{short_of}
use Rattle.remux.proofs.Starting.{no_packets}
use Rattle.remux.proofs.Taking.{took_none}

-- before the first packet, whatever the demuxer holds back
pub start_of : (s : Kinds) (b : List ℕ) (first : Option Packet) (r : Reached) (left : ℕ) (now : InputState) (ended : Bool) (known : Option Kinds) (has : List ℕ → List Tag → Type 0) (v : Pending) (keeps : List Packet → Type 0) (dead : ℕ → Bool) (takes : Packet → Type 0) →
    Ready s b first r left now ended known has v keeps takes → Flowing s b known (λ (c : List ℕ) (ts : List Tag). ts ≡ []) v keeps dead takes
start_of s b first r left now ended known has v keeps dead takes y = record {
  tags = [];
  given = [];
  streams = y.finds.known_is;
  count = y.count;
  some = y.finds.some;
  begin = ((reading_of b).tags, refl);
  dealt = refl;
  kept = y.kept;
  flow = subst (λ (ps : List Packet). Flow ps [] v) (sym (no_packets s)) y.flow;
  stuck = y.stuck;
  alive = λ u l m. absurd (omega arith);
  pending = subst (Each takes) (sym y.none) tt;
  accepts = y.accepts;
}

pub late_any : (b : List ℕ) (n : ℕ) → LateProbe b → Late b n
late_any b n l = record {
  front = l.front;
  piece = l.piece;
  whole = l.whole;
  small = l.small;
  old = λ p rest w d. absurd (not_both _ d (l.undecided p rest w));
}

-- no packet came with the streams
pub flows_none : (s : Kinds) (b : List ℕ) (r : Reached) (left : ℕ) (now : InputState) (ended : Bool) (known : Option Kinds) (has : List ℕ → List Tag → Type 0) (v : Pending) (keeps : List Packet → Type 0) (dead : ℕ → Bool) (takes : Packet → Type 0) →
    Ready s b None r left now ended known has v keeps takes → Flowing s b known has v keeps dead takes
unfolding start_of
flows_none s b r left now ended known has v keeps dead takes y =
    (all_given s b known known (λ (c : List ℕ) (ts : List Tag). ts ≡ []) has v keeps dead takes (start_of s b None r left now ended known has v keeps dead takes y) y.finds.known_is y.first_is).flowing

-- the packet that did was given
pub flows_some : (s : Kinds) (b : List ℕ) (p : Packet) (r : Reached) (left : ℕ) (now : InputState) (ended : Bool) (known : Option Kinds) (has : List ℕ → List Tag → Type 0) (v0 v1 : Pending) (k0 k1 : List Packet → Type 0) (d0 d1 : ℕ → Bool) (t0 t1 : Packet → Type 0) →
    Ready s b (Some p) r left now ended known has v0 k0 t0 → v1.streams ≡ v0.streams → Handed More (p ∷ []) [] v1 k1 d0 d1 → Each t1 v1.pending → ((q : Packet) → t0 q → t1 q) →
    Flowing s b known has v1 k1 d1 t1
unfolding start_of packets_by
flows_some s b p r left now ended known has v0 v1 k0 k1 d0 d1 t0 t1 y n h e a =
    flowing_more s b known known (λ (c : List ℕ) (ts : List Tag). ts ≡ []) has v0 v1 k0 k1 d0 d1 t0 t1 p (start_of s b (Some p) r left now ended known has v0 k0 d0 t0 y) y.finds.known_is y.first_is n h e a

-- the end was not seen, where the tags decide the probe
decided_more : (r : Reached) (b : List ℕ) (ended : Bool) (left : ℕ) (now : InputState) → ByReached r b ended left now → is_decided (probe_of (reading_of b).tags) ≡ true → now.readable ≡ true
decided_more reached.More b ended left now h d = h.1
decided_more reached.End b ended left now h d = absurd (not_both _ d h.2)
decided_more reached.Limit b ended left now h d = absurd (not_both _ d h.2)

stops_here : (s : Kinds) (b : List ℕ) (r : Reached) (left : ℕ) (now : InputState) (ended : Bool) (has : List ℕ → List Tag → Type 0) (v : Pending) (k : List Packet → Type 0) (d : ℕ → Bool) →
    ByReached r b ended left now → Late b 0 → Stopped s b 0 v.streams v.delta has k d → StopsEarly s b left now now has v k d
stops_here s b r left now ended has v k d how late st =
    let st1 : Stopped s (b ++ []) 0 v.streams v.delta has k d = subst (λ (x : List ℕ). Stopped s x 0 v.streams v.delta has k d) (sym (append-nil b)) st in
    record {
      more = [];
      long = omega arith;
      only = λ x. refl;
      took = took_none now;
      unspent = λ x. decided_more r b ended left now how (subst (λ (c : List ℕ). is_decided (probe_of (reading_of c).tags) ≡ true) (append-nil b) x);
      done = 0;
      stopped = st1;
      least = least_tags s (b ++ []) _ v.streams v.delta has k d st1;
      short = λ x. short_of (b ++ []) 0 (length st1.before + 1) (subst (λ (c : List ℕ). Late c 0) (sym (append-nil b)) late) (omega arith);
    }

pub first_stops : (s : Kinds) (b : List ℕ) (p : Packet) (r : Reached) (left : ℕ) (now : InputState) (ended : Bool) (known : Option Kinds) (has : List ℕ → List Tag → Type 0) (v0 v1 : Pending) (k0 k1 : List Packet → Type 0) (d0 d1 : ℕ → Bool) (t0 : Packet → Type 0) →
    Ready s b (Some p) r left now ended known has v0 k0 t0 → v1.streams ≡ v0.streams → v1.delta ≡ v0.delta → Handed Stop (p ∷ []) [] v1 k1 d0 d1 →
    StopsEarly s b left now now has v1 k1 d1
unfolding start_of packets_by
first_stops s b p r left now ended known has v0 v1 k0 k1 d0 d1 t0 y n e h =
    stops_here s b r left now ended has v1 k1 d1 y.how (late_any b 0 y.late)
    (stopped_by s b known (λ (c : List ℕ) (ts : List Tag). ts ≡ []) has v0 v1 k0 k1 d0 d1 t0 p 0 (start_of s b (Some p) r left now ended known has v0 k0 d0 t0 y) (omega arith) y.first_is n e h)

breaks_of : (s : Kinds) (b : List ℕ) (left : ℕ) (now : InputState) (has : List ℕ → List Tag → Type 0) (v : Pending) (k : List Packet → Type 0) (d : ℕ → Bool) →
    CutShort s b v.streams v.delta has k d → Breaks s b left now now has v k d
breaks_of s b left now has v k d c = record { more = []; long = omega arith; only = λ x. refl; took = took_none now; cut = subst (λ (x : List ℕ). CutShort s x v.streams v.delta has k d) (sym (append-nil b)) c }

pub first_breaks : (s : Kinds) (b : List ℕ) (p : Packet) (r : Reached) (left : ℕ) (now : InputState) (ended : Bool) (known : Option Kinds) (has : List ℕ → List Tag → Type 0) (v0 v1 : Pending) (k0 k1 : List Packet → Type 0) (d0 d1 : ℕ → Bool) (t0 : Packet → Type 0) →
    Ready s b (Some p) r left now ended known has v0 k0 t0 → v1.streams ≡ v0.streams → v1.delta ≡ v0.delta → HandedSome v0.streams v0.delta (p ∷ []) [] k1 d0 d1 →
    Breaks s b left now now has v1 k1 d1
unfolding start_of packets_by
first_breaks s b p r left now ended known has v0 v1 k0 k1 d0 d1 t0 y n e h =
    breaks_of s b left now has v1 k1 d1
    (cut_at s b known (λ (c : List ℕ) (ts : List Tag). ts ≡ []) has v0 v1 k0 k1 d0 d1 t0 p (start_of s b (Some p) r left now ended known has v0 k0 d0 t0 y) y.first_is n e h)

-- the rest was dealt with where the end was told
reaches_of : (s : Kinds) (b : List ℕ) (left : ℕ) (now : InputState) (known : Option Kinds) (has : List ℕ → List Tag → Type 0) (v : Pending) (k : List Packet → Type 0) (d : ℕ → Bool) (t : Packet → Type 0) →
    AllGiven s b known has v k d t → (r : Reaches s b left now now known has v k d t) × (b ++ r.more ≡ b) × (length r.more ≡ 0)
reaches_of s b left now known has v k d t a = (
  record { more = []; long = omega arith; only = λ x. refl; took = took_none now; all = subst (λ (x : List ℕ). AllGiven s x known has v k d t) (sym (append-nil b)) a },
  append-nil b,
  refl,
)

pub drained_end : (e : ReadEnd) (s : Kinds) (b : List ℕ) (ended : Bool) (left done : ℕ) (now : InputState) (known : Option Kinds) (has : List ℕ → List Tag → Type 0) (v : Pending) (k : List Packet → Type 0) (d : ℕ → Bool) (t : Packet → Type 0) →
    ByReached reached.End b ended left now → LateProbe b → Drains e s b done known has v k d t → (Stopped s b done v.streams v.delta has k d → Stopped s b 0 v.streams v.delta has k d) →
    Ends e s b left now now known has v k d t
drained_end ending.Whole s b ended left done now known has v k d t how late q f =
    let r = reaches_of s b left now known has v k d t q.1 in (r.0, how.1, subst (λ (x : List ℕ). (reading_of x).verdict ≡ None) (sym r.1) q.0, omega (arith, r.2, how.3))
drained_end ending.Cut s b ended left done now known has v k d t how late q f =
    let r = reaches_of s b left now known has v k d t q.1 in (r.0, how.1, subst (λ (x : List ℕ). (reading_of x).verdict ≡ Some tag_fault.CutTag) (sym r.1) q.0, omega (arith, r.2, how.3))
drained_end ending.Limit s b ended left done now known has v k d t how late q f = absurd q
drained_end ending.InputFault s b ended left done now known has v k d t how late q f = absurd q
drained_end ending.Stop s b ended left done now known has v k d t how late q f = stops_here s b reached.End left now ended has v k d how (late_any b 0 late) (f q)
drained_end ending.NoMemory s b ended left done now known has v k d t how late q f = breaks_of s b left now has v k d q

pub drained_limit : (e : ReadEnd) (s : Kinds) (b : List ℕ) (ended : Bool) (left done : ℕ) (now : InputState) (known : Option Kinds) (has : List ℕ → List Tag → Type 0) (v : Pending) (k : List Packet → Type 0) (d : ℕ → Bool) (t : Packet → Type 0) →
    ByReached reached.Limit b ended left now → LateProbe b → Drains e s b done known has v k d t → (Stopped s b done v.streams v.delta has k d → Stopped s b 0 v.streams v.delta has k d) →
    Ends (limited e) s b left now now known has v k d t
drained_limit ending.Whole s b ended left done now known has v k d t how late q f =
    let r = reaches_of s b left now known has v k d t q.1 in (r.0, r.2 ∙ sym how.1)
drained_limit ending.Cut s b ended left done now known has v k d t how late q f =
    let r = reaches_of s b left now known has v k d t q.1 in (r.0, r.2 ∙ sym how.1)
drained_limit ending.Limit s b ended left done now known has v k d t how late q f = absurd q
drained_limit ending.InputFault s b ended left done now known has v k d t how late q f = absurd q
drained_limit ending.Stop s b ended left done now known has v k d t how late q f = stops_here s b reached.Limit left now ended has v k d how (late_any b 0 late) (f q)
drained_limit ending.NoMemory s b ended left done now known has v k d t how late q f = breaks_of s b left now has v k d q

-- a stop behind more tags is one behind none
pub stopped_less : (s : Kinds) (b : List ℕ) (done n delta : ℕ) (has : List ℕ → List Tag → Type 0) (k : List Packet → Type 0) (d : ℕ → Bool) → Stopped s b done n delta has k d → Stopped s b 0 n delta has k d
stopped_less s b done n delta has k d st = record {
  before = st.before;
  later = omega arith;
  tag = st.tag;
  begin = st.begin;
  given = st.given;
  dealt = st.dealt;
  kept = st.kept;
  rest = st.rest;
  enough = st.enough;
  less = st.less;
  dies = st.dies;
  alive = st.alive;
}

-- all that was pending was given at the end, or all up to a stop
out_of_all : (stopped : Bool) (s : Kinds) (b : List ℕ) (known : Option Kinds) (has : List ℕ → List Tag → Type 0) (v : Pending) (rest : List Packet) (k0 k1 : List Packet → Type 0) (d0 d1 : ℕ → Bool) (t : Packet → Type 0) →
    AllGiven s b known has v k0 d0 t → Flushed stopped v.pending rest k0 k1 d0 d1 → GivenOut s b v.streams v.delta has k1 d1
out_of_all stopped s b known has v rest k0 k1 d0 d1 t a fl =
    let f = a.flowing in
    let adv = fl.dead f.given f.kept in
    let len : length (f.given ++ fl.packets) ≡ length f.given + length fl.packets = length-append f.given fl.packets in
    record {
      dealt = subst (has b) a.all f.dealt;
      given = f.given ++ fl.packets;
      rest = rest;
      kept = fl.keeps_all f.given f.kept;
      order = subst (λ (ts : List Tag). interleave v.streams v.delta (packets_by s ts) ≡ (f.given ++ fl.packets) ++ rest) a.all
          (whole_order (packets_by s f.tags) f.given v f.stuck f.flow ∙ ap (λ (xs : List Packet). f.given ++ xs) fl.whole ∙ sym (append_assoc f.given fl.packets rest));
      alive = λ u l m. living (length f.given) (length fl.packets) f.alive adv u l (omega (arith, len, m));
      last = by stopped refl len adv;
      late = λ some dies.
          let e : length (emitted v.streams v.delta (packets_by s (reading_of b).tags)) ≡ length f.given =
          subst (λ (ts : List Tag). length (emitted v.streams v.delta (packets_by s ts)) ≡ length f.given) a.all (ap length (all_out (packets_by s f.tags) f.given v f.stuck f.flow)) in
          omega (arith, e, len, at_the_end (length f.given) (length fl.packets) f.alive adv (omega (arith, some, len)) (sym (ap d1 len) ∙ dies));
    }
  where
    -- what went out before the end left the outputs alive
    at_the_end : (n m : ℕ) → ((u : ℕ) → 0 < u → u ≤ n → d0 u ≡ false) → Advances stopped d0 d1 n (n + m) → 0 < n + m → d1 (n + m) ≡ true → 0 < m
    at_the_end n m alive adv some dies = at (cases_lt 0 m)
      where
        at : (0 < m) ⊎ (m ≤ 0) → 0 < m
        at (inl x) = x
        at (inr x) = absurd (not_both (d1 (n + m)) dies (adv.same (n + m) (omega (arith, x)) ∙ alive (n + m) some (omega (arith, x))))

    living : (n m : ℕ) → ((u : ℕ) → 0 < u → u ≤ n → d0 u ≡ false) → Advances stopped d0 d1 n (n + m) → (u : ℕ) → 0 < u → u < n + m → d1 u ≡ false
    living n m alive adv u l lt = at (cases_lt n u)
      where
        at : (n < u) ⊎ (u ≤ n) → d1 u ≡ false
        at (inl x) = adv.alive u x lt
        at (inr x) = adv.same u x ∙ alive u l x

    by : (c : Bool) → stopped ≡ c → length (a.flowing.given ++ fl.packets) ≡ length a.flowing.given + length fl.packets → Advances stopped d0 d1 (length a.flowing.given) (length a.flowing.given + length fl.packets) → (rest ≡ []) ⊎ ((0 < length (a.flowing.given ++ fl.packets)) × (d1 (length (a.flowing.given ++ fl.packets)) ≡ true))
    by false e len adv = inl (fl.all e)
    by true e len adv =
        let m : 0 < length fl.packets = fl.some e in
        inr (omega arith, ap d1 len ∙ adv.last (omega arith) ∙ e)

pub cut_flush : (s : Kinds) (b : List ℕ) (known : Option Kinds) (has : List ℕ → List Tag → Type 0) (v : Pending) (k0 k1 : List Packet → Type 0) (d0 d1 : ℕ → Bool) (t : Packet → Type 0) →
    AllGiven s b known has v k0 d0 t → FlushedSome v.pending k0 k1 d0 d1 → CutShort s b v.streams v.delta has k1 d1
cut_flush s b known has v k0 k1 d0 d1 t a fl =
    let f = a.flowing in
    let adv = fl.dead f.given f.kept in
    let len : length (f.given ++ fl.packets) ≡ length f.given + length fl.packets = length-append f.given fl.packets in
    record {
      tags = f.tags;
      begin = f.begin;
      fed = b;
      dealt = f.dealt;
      given = f.given ++ fl.packets;
      rest = fl.rest;
      kept = fl.keeps_all f.given f.kept;
      order = subst (λ (ts : List Tag). interleave v.streams v.delta (packets_by s ts) ≡ (f.given ++ fl.packets) ++ fl.rest) a.all
          (whole_order (packets_by s f.tags) f.given v f.stuck f.flow ∙ ap (λ (xs : List Packet). f.given ++ xs) fl.whole ∙ sym (append_assoc f.given fl.packets fl.rest));
      alive = λ u l m. lives_on (length f.given) (length fl.packets) f.alive adv u l (omega (arith, len, m));
    }
  where
    lives_on : (n m : ℕ) → ((u : ℕ) → 0 < u → u ≤ n → d0 u ≡ false) → Advances false d0 d1 n (n + m) → (u : ℕ) → 0 < u → u ≤ n + m → d1 u ≡ false
    lives_on n m alive adv u l le = at (cases_lt n u) (cases_lt u (n + m))
      where
        at : (n < u) ⊎ (u ≤ n) → (u < n + m) ⊎ (n + m ≤ u) → d1 u ≡ false
        at (inr x) z = adv.same u x ∙ alive u l x
        at (inl x) (inl z) = adv.alive u x z
        at (inl x) (inr z) = let e : u ≡ n + m = omega arith in ap d1 e ∙ adv.last (omega arith)

-- the same for a reading that ended
carried_by : (stopped : Bool) (s : Kinds) (b : List ℕ) (left : ℕ) (old new : InputState) (known : Option Kinds) (has : List ℕ → List Tag → Type 0) (v v2 : Pending) (k0 k1 : List Packet → Type 0) (d0 d1 : ℕ → Bool) (t : Packet → Type 0) →
    v2.streams ≡ v.streams → v2.delta ≡ v.delta → (r : Reaches s b left old new known has v k0 d0 t) → Flushed stopped v.pending v2.pending k0 k1 d0 d1 → (c : Carried s b left old new v2.streams v2.delta has k1 d1) × (c.more ≡ r.more)
carried_by stopped s b left old new known has v v2 k0 k1 d0 d1 t n e r fl = (
  record {
    more = r.more;
    long = r.long;
    only = r.only;
    took = r.took;
    out = rw (n, e) (out_of_all stopped s (b ++ r.more) known has v v2.pending k0 k1 d0 d1 t r.all fl);
  },
  refl,
)

pub carried : (e : ReadEnd) (stopped : Bool) (s : Kinds) (b : List ℕ) (left : ℕ) (old new : InputState) (known : Option Kinds) (has : List ℕ → List Tag → Type 0) (v v2 : Pending) (k0 k1 : List Packet → Type 0) (d0 d1 : ℕ → Bool) (t : Packet → Type 0) →
    last_of_all e ≡ false → v2.streams ≡ v.streams → v2.delta ≡ v.delta → Ends e s b left old new known has v k0 d0 t → Flushed stopped v.pending v2.pending k0 k1 d0 d1 → Carries e s b left old new v2 has k1 d1
carried ending.Whole stopped s b left old new known has v v2 k0 k1 d0 d1 t f n e h fl =
    let c = carried_by stopped s b left old new known has v v2 k0 k1 d0 d1 t n e h.0 fl in (c.0, h.1, subst (λ (m : List ℕ). (reading_of (b ++ m)).verdict ≡ None) (sym c.1) h.2, omega (arith, ap length c.1, h.3))
carried ending.Cut stopped s b left old new known has v v2 k0 k1 d0 d1 t f n e h fl =
    let c = carried_by stopped s b left old new known has v v2 k0 k1 d0 d1 t n e h.0 fl in (c.0, h.1, subst (λ (m : List ℕ). (reading_of (b ++ m)).verdict ≡ Some tag_fault.CutTag) (sym c.1) h.2, omega (arith, ap length c.1, h.3))
carried ending.Limit stopped s b left old new known has v v2 k0 k1 d0 d1 t f n e h fl =
    let c = carried_by stopped s b left old new known has v v2 k0 k1 d0 d1 t n e h.0 fl in (c.0, ap length c.1 ∙ h.1)
carried ending.InputFault stopped s b left old new known has v v2 k0 k1 d0 d1 t f n e h fl =
    let c = carried_by stopped s b left old new known has v v2 k0 k1 d0 d1 t n e h.0 fl in (c.0, h.1)
carried ending.Stop stopped s b left old new known has v v2 k0 k1 d0 d1 t f n e h fl = absurd (not_both true refl f)
carried ending.NoMemory stopped s b left old new known has v v2 k0 k1 d0 d1 t f n e h fl = absurd (not_both true refl f)

-- a reading that ended reached all that it took
reached_by : (e : ReadEnd) (s : Kinds) (b : List ℕ) (left : ℕ) (old new : InputState) (known : Option Kinds) (has : List ℕ → List Tag → Type 0) (v : Pending) (k : List Packet → Type 0) (d : ℕ → Bool) (t : Packet → Type 0) →
    last_of_all e ≡ false → Ends e s b left old new known has v k d t → Reaches s b left old new known has v k d t
reached_by ending.Whole s b left old new known has v k d t f h = h.0
reached_by ending.Cut s b left old new known has v k d t f h = h.0
reached_by ending.Limit s b left old new known has v k d t f h = h.0
reached_by ending.InputFault s b left old new known has v k d t f h = h.0
reached_by ending.Stop s b left old new known has v k d t f h = absurd (not_both true refl f)
reached_by ending.NoMemory s b left old new known has v k d t f h = absurd (not_both true refl f)

pub pending_of : (e : ReadEnd) (s : Kinds) (b : List ℕ) (left : ℕ) (old new : InputState) (known : Option Kinds) (has : List ℕ → List Tag → Type 0) (v : Pending) (k : List Packet → Type 0) (d : ℕ → Bool) (t : Packet → Type 0) →
    last_of_all e ≡ false → Ends e s b left old new known has v k d t → Each t v.pending
pending_of e s b left old new known has v k d t f h = (reached_by e s b left old new known has v k d t f h).all.flowing.pending

pub broken_flush : (e : ReadEnd) (s : Kinds) (b : List ℕ) (left : ℕ) (old new : InputState) (known : Option Kinds) (has : List ℕ → List Tag → Type 0) (v v2 : Pending) (k0 k1 : List Packet → Type 0) (d0 d1 : ℕ → Bool) (t : Packet → Type 0) →
    last_of_all e ≡ false → v2.streams ≡ v.streams → v2.delta ≡ v.delta → Ends e s b left old new known has v k0 d0 t → FlushedSome v.pending k0 k1 d0 d1 → Breaks s b left old new has v2 k1 d1
broken_flush e s b left old new known has v v2 k0 k1 d0 d1 t f n x h fl =
    let r = reached_by e s b left old new known has v k0 d0 t f h in
    record { more = r.more; long = r.long; only = r.only; took = r.took; cut = rw (n, x) (cut_flush s (b ++ r.more) known has v k0 k1 d0 d1 t r.all fl) }

-- a reading after which nothing further is handed over
pub carried_last : (e : ReadEnd) (s : Kinds) (b : List ℕ) (left : ℕ) (old new : InputState) (known : Option Kinds) (has : List ℕ → List Tag → Type 0) (v : Pending) (k : List Packet → Type 0) (d : ℕ → Bool) (t : Packet → Type 0) →
    last_of_all e ≡ true → Ends e s b left old new known has v k d t → Carries e s b left old new v has k d
carried_last ending.Whole s b left old new known has v k d t f h = absurd (not_both false f refl)
carried_last ending.Cut s b left old new known has v k d t f h = absurd (not_both false f refl)
carried_last ending.Limit s b left old new known has v k d t f h = absurd (not_both false f refl)
carried_last ending.InputFault s b left old new known has v k d t f h = absurd (not_both false f refl)
carried_last ending.Stop s b left old new known has v k d t f h = h
carried_last ending.NoMemory s b left old new known has v k d t f h = h

-- a packet that came with the streams can be pushed
pub first_order : (s : Kinds) (b : List ℕ) (p : Packet) (r : Reached) (left : ℕ) (now : InputState) (ended : Bool) (known : Option Kinds) (has : List ℕ → List Tag → Type 0) (v : Pending) (keeps : List Packet → Type 0) (takes : Packet → Type 0) →
    Ready s b (Some p) r left now ended known has v keeps takes → last_of v p.stream ≤ℤ p.dts
first_order s b p r left now ended known has v keeps takes y =
    in_order [] [] v p (omega (arith, y.first_is.stream, few_streams s)) y.flow (subst (λ (ps : List Packet). last_dts p.stream ps ≤ℤ p.dts) (no_packets s) y.first_is.order)

pub ready_at : (s : Kinds) (b : List ℕ) (x y : Option Packet) (r : Reached) (left : ℕ) (now : InputState) (ended : Bool) (known : Option Kinds) (has : List ℕ → List Tag → Type 0) (v : Pending) (keeps : List Packet → Type 0) (takes : Packet → Type 0) →
    x ≡ y → Ready s b x r left now ended known has v keeps takes → Ready s b y r left now ended known has v keeps takes
ready_at s b x y r left now ended known has v keeps takes e h = subst (λ (z : Option Packet). Ready s b z r left now ended known has v keeps takes) e h

-- what is pending at the end has numbers
pub flush_ready : (e : ReadEnd) (s : Kinds) (b : List ℕ) (left : ℕ) (old new : InputState) (known : Option Kinds) (has : List ℕ → List Tag → Type 0) (v : Pending) (k : List Packet → Type 0) (d : ℕ → Bool) (t : Packet → Type 0) →
    last_of_all e ≡ false → Ends e s b left old new known has v k d t → length b + left < 2 ^ 61 → (given : List Packet) × k given × (length given + length v.pending < 2 ^ 61)
flush_ready e s b left old new known has v k d t f h small =
    let r = reached_by e s b left old new known has v k d t f h in
    let w = r.all.flowing in
    (w.given, w.kept, ready_all s (b ++ r.more) w.given v w.tags (omega (arith, small, r.long, length-append b r.more)) w.flow w.begin)

-- and so has a packet that came with the streams
pub first_ready : (s : Kinds) (b : List ℕ) (p : Packet) (r : Reached) (left : ℕ) (now : InputState) (ended : Bool) (known : Option Kinds) (has : List ℕ → List Tag → Type 0) (v : Pending) (keeps : List Packet → Type 0) (takes : Packet → Type 0) →
    Ready s b (Some p) r left now ended known has v keeps takes → length b + left < 2 ^ 61 → length {A = Packet} [] + length v.pending + 1 < 2 ^ 61
first_ready s b p r left now ended known has v keeps takes y small =
    ready_for s b [] v p [] (has b) (omega (arith, small)) (subst (λ (ps : List Packet). Flow ps [] v) (sym (no_packets s)) y.flow) y.first_is

-- The steps of a reading loop.
use Rattle.std.proofs.Common.{◌≡◌, ℕ, ◌+◌, ◌-◌, ◌<◌, ◌≤◌, ◌⊎◌, inl, inr, Bool, true, false, List, [], ◌∷◌, ◌++◌, length, ap, ◌∙◌, sym, refl, subst, arith, length-append, append_assoc, Option, Some, None}
use Rattle.std.proofs.lemmas.Bool.{cases_lt}
use Rattle.std.proofs.lemmas.List.{append-nil, nil_from_length}
use Rattle.rmx_media.specs.declared.packet.Packet.{Packet}
use Rattle.flv_tags.specs.declared.tag.Tag.{Tag}
use Rattle.flv_tags.specs.Tags.{reading_of}
use Rattle.flv_tags.proofs.Grow.{tags_grow}
use Rattle.flv_demux.specs.declared.deal.Kinds.{Kinds}
use Rattle.flv_demux.specs.Probe.{probe_of, is_decided}
use Rattle.flv_tags.specs.Tags.{Begins}
use Rattle.interleaver.specs.Queues.{Pending}
use Rattle.rmx_edge.specs.Inputs.{InputState}
use Rattle.flv_tags.specs.declared.tag.TagFault.TheVariants as tag_fault
use Rattle.remux.specs.declared.read.ReadEnd.{ReadEnd}
use Rattle.remux.specs.declared.read.ReadEnd.TheVariants as ending
use Rattle.remux.specs.Flow.{Flowing, Stopped, CutShort}
use Rattle.remux.specs.Pumped.{AllGiven}
use Rattle.remux.specs.Took.{Took, Piece, Dropped, SawEnd}
use Rattle.remux.specs.Reading.{Late, IsShort, StopsEarly, Reaches, Breaks, Drains, Ends}
use Rattle.remux.specs.Under.{Under}
use Rattle.remux.proofs.Least.{least_tags}
use Rattle.remux.proofs.Pumping.{cut_between}
use Rattle.remux.proofs.Taking.{took_two, took_none}

pub both : (b : Bool) → b ≡ false → b ≡ true → ⊥
both b f t = no (sym f ∙ t)
  where
    no : false ≡ true → ⊥
    no h = cc

same_cons : (x y : ℕ) (a b : List ℕ) → x ≡ y → a ≡ b → x ∷ a ≡ y ∷ b
same_cons x y a b e f = ap (λ (z : ℕ). z ∷ a) e ∙ ap (λ (l : List ℕ). y ∷ l) f

-- one of two prefixes of a text goes on with the other
split : (a b c d : List ℕ) → a ++ b ≡ c ++ d → length c ≤ length a → (r : List ℕ) × (a ≡ c ++ r)
split a b [] d e h = (a, refl)
split [] b (y ∷ c) d e h = absurd (omega arith)
split (x ∷ a) b (y ∷ c) d e h =
    let heads : x ≡ y = cc in
    let tails : a ++ b ≡ c ++ d = cc in
    let k = split a b c d tails (omega arith) in
    (k.0, same_cons x y a (c ++ k.0) heads k.1)

pub late_next : (b piece : List ℕ) (n : ℕ) → length piece ≤ 65536 → n ≡ length (reading_of b).tags → Late (b ++ piece) n
late_next b piece n small e = record {
  front = b;
  piece = piece;
  whole = refl;
  small = small;
  old = λ p rest w d.
      let k = tags_grow p rest in
      let g : length (reading_of b).tags ≡ length (reading_of p).tags + length k.0 = ap (λ (t : List ℕ). length (reading_of t).tags) w ∙ ap length k.1 ∙ length-append (reading_of p).tags k.0 in
      omega arith;
}

pub short_of : (b : List ℕ) (n t : ℕ) → Late b n → n < t → IsShort b t
short_of b n t l lt = λ p rest w d enough. by p rest w d enough (cases_lt (length l.front) (length p))
  where
    by : (p rest : List ℕ) → b ≡ p ++ rest → is_decided (probe_of (reading_of p).tags) ≡ true → t ≤ length (reading_of p).tags → (length l.front < length p) ⊎ (length p ≤ length l.front) → length b < length p + 65536
    by p rest w d enough (inl lt2) = omega (arith, ap length l.whole, length-append l.front l.piece, l.small)
    by p rest w d enough (inr le) =
        let k = split l.front l.piece p rest (sym l.whole ∙ w) le in
        absurd (let o = l.old p k.0 k.1 d in omega arith)

pub under_start : (s : Kinds) (b : List ℕ) (limit : ℕ) (st : InputState) (kn : Option Kinds) (h : List ℕ → List Tag → Type 0) (v : Pending) (k : List Packet → Type 0) (d : ℕ → Bool) (t : Packet → Type 0) →
    (f : Flowing s b kn h v k d t) → Late b (length f.tags) → Under s b limit limit st st kn h v k d t
under_start s b limit st kn h v k d t f l =
    let q = subst (λ (x : List ℕ). (g : Flowing s x kn h v k d t) × Late x (length g.tags)) (sym (append-nil b)) (f, l) in
    record { more = []; long = omega arith; took = took_none st; flowing = q.0; late = q.1 }

pub begin_fed : (b more : List ℕ) (ts : List Tag) → Begins b ts → Begins (b ++ more) ts
begin_fed b more ts f =
    let g = tags_grow b more in
    (f.0 ++ g.0, g.1 ∙ ap (λ (l : List Tag). l ++ g.0) f.1 ∙ append_assoc ts f.0 g.0)

-- the demuxer went on
pub refed : (s : Kinds) (b c : List ℕ) (kn0 kn1 : Option Kinds) (h0 h1 : List ℕ → List Tag → Type 0) (v : Pending) (k : List Packet → Type 0) (d : ℕ → Bool) (t : Packet → Type 0) →
    (f : Flowing s b kn0 h0 v k d t) → kn1 ≡ kn0 → Begins c f.tags → h1 c f.tags → (g : Flowing s c kn1 h1 v k d t) × (g.tags ≡ f.tags)
refed s b c kn0 kn1 h0 h1 v k d t f e fb h = (
  record {
    tags = f.tags;
    given = f.given;
    streams = e ∙ f.streams;
    count = f.count;
    some = f.some;
    begin = fb;
    dealt = h;
    kept = f.kept;
    flow = f.flow;
    stuck = f.stuck;
    alive = f.alive;
    pending = f.pending;
    accepts = f.accepts;
  },
  refl,
)

pub still : (x : List ℕ) (st0 st1 : InputState) (h0 h1 : List ℕ → List Tag → Type 0) (ts : List Tag) → Piece 0 st0 st1 h0 h1 → h0 x ts → h1 x ts
still x st0 st1 h0 h1 ts p h = subst (λ (y : List ℕ). h1 y ts) (ap (λ (z : List ℕ). x ++ z) (nil_from_length p.bytes p.long) ∙ append-nil x) (p.fed x ts h)

pub all_still : (s : Kinds) (x : List ℕ) (st0 st1 : InputState) (kn0 kn1 : Option Kinds) (h0 h1 : List ℕ → List Tag → Type 0) (v : Pending) (k : List Packet → Type 0) (d : ℕ → Bool) (t : Packet → Type 0) →
    AllGiven s x kn0 h0 v k d t → kn1 ≡ kn0 → Piece 0 st0 st1 h0 h1 → AllGiven s x kn1 h1 v k d t
all_still s x st0 st1 kn0 kn1 h0 h1 v k d t a e p =
    let g = refed s x x kn0 kn1 h0 h1 v k d t a.flowing e a.flowing.begin (still x st0 st1 h0 h1 a.flowing.tags p a.flowing.dealt) in
    record { flowing = g.0; all = ap (λ (ts : List Tag). ts) g.1 ∙ a.all }

pub took_still : (more : List ℕ) (s t u : InputState) (h0 h1 : List ℕ → List Tag → Type 0) → Took more s t → Piece 0 t u h0 h1 → Took more s u
took_still more s t u h0 h1 m p = subst (λ (y : List ℕ). Took y s u) (ap (λ (z : List ℕ). more ++ z) (nil_from_length p.bytes p.long) ∙ append-nil more) (took_two more p.bytes s t u m p.took)

-- all was dealt with, and nothing more came
pub reaches : (s : Kinds) (b : List ℕ) (limit left : ℕ) (st0 st1 st2 : InputState) (kn0 kn1 : Option Kinds) (h0 h1 h2 h3 : List ℕ → List Tag → Type 0) (v0 v1 : Pending) (k0 k1 : List Packet → Type 0) (d0 d1 : ℕ → Bool) (t0 t1 : Packet → Type 0) →
    st0.readable ≡ true → (u : Under s b limit left st0 st1 kn0 h0 v0 k0 d0 t0) → Piece 0 st1 st2 h2 h3 → AllGiven s (b ++ u.more) kn1 h1 v1 k1 d1 t1 → (r : Reaches s b limit st0 st2 kn1 h1 v1 k1 d1 t1) × (r.more ≡ u.more)
reaches s b limit left st0 st1 st2 kn0 kn1 h0 h1 h2 h3 v0 v1 k0 k1 d0 d1 t0 t1 ra u p a =
    (record { more = u.more; long = omega (arith, u.long); only = λ h. absurd (both _ h ra); took = took_still u.more st0 st1 st2 h2 h3 u.took p; all = a }, refl)

-- a piece came
pub under_next : (s : Kinds) (b : List ℕ) (limit left n : ℕ) (st0 st1 st2 : InputState) (kn0 kn1 kn2 : Option Kinds) (h0 h1 h2 : List ℕ → List Tag → Type 0) (v0 v1 : Pending) (k0 k1 : List Packet → Type 0) (d0 d1 : ℕ → Bool) (t0 t1 : Packet → Type 0) →
    (u : Under s b limit left st0 st1 kn0 h0 v0 k0 d0 t0) → AllGiven s (b ++ u.more) kn1 h1 v1 k1 d1 t1 → Piece n st1 st2 h1 h2 → kn2 ≡ kn1 → n ≤ left → n ≤ 65536 → Under s b limit (left - n) st0 st2 kn2 h2 v1 k1 d1 t1
under_next s b limit left n st0 st1 st2 kn0 kn1 kn2 h0 h1 h2 v0 v1 k0 k1 d0 d1 t0 t1 u a p e le small =
    let g = refed s (b ++ u.more) ((b ++ u.more) ++ p.bytes) kn1 kn2 h1 h2 v1 k1 d1 t1 a.flowing e (begin_fed (b ++ u.more) p.bytes a.flowing.tags a.flowing.begin) (p.fed (b ++ u.more) a.flowing.tags a.flowing.dealt) in
    let l : Late ((b ++ u.more) ++ p.bytes) (length g.0.tags) = late_next (b ++ u.more) p.bytes (length g.0.tags) (omega (arith, p.long)) (ap length (g.1 ∙ a.all)) in
    let q = subst (λ (x : List ℕ). (f : Flowing s x kn2 h2 v1 k1 d1 t1) × Late x (length f.tags)) (append_assoc b u.more p.bytes) (g.0, l) in
    record {
      more = u.more ++ p.bytes;
      long = omega (arith, u.long, p.long, length-append u.more p.bytes);
      took = took_two u.more p.bytes st0 st1 st2 u.took p.took;
      flowing = q.0;
      late = q.1;
    }

pub stops : (s : Kinds) (b : List ℕ) (limit left : ℕ) (st0 st1 : InputState) (kn0 : Option Kinds) (h0 h1 : List ℕ → List Tag → Type 0) (v0 v1 : Pending) (k0 k1 : List Packet → Type 0) (d0 d1 : ℕ → Bool) (t0 : Packet → Type 0) →
    st0.readable ≡ true → (u : Under s b limit left st0 st1 kn0 h0 v0 k0 d0 t0) → st1.readable ≡ true → Stopped s (b ++ u.more) (length u.flowing.tags) v1.streams v1.delta h1 k1 d1 → StopsEarly s b limit st0 st1 h1 v1 k1 d1
stops s b limit left st0 st1 kn0 h0 h1 v0 v1 k0 k1 d0 d1 t0 ra u r st = record {
  more = u.more;
  long = omega (arith, u.long);
  only = λ h. absurd (both _ h ra);
  took = u.took;
  unspent = λ h. r;
  done = length u.flowing.tags;
  stopped = st;
  least = least_tags s (b ++ u.more) _ v1.streams v1.delta h1 k1 d1 st;
  short = λ h. short_of (b ++ u.more) (length u.flowing.tags) (length st.before + 1) u.late (omega (arith, st.later));
}

-- memory was wanted while packets were dealt with
pub breaks : (s : Kinds) (b : List ℕ) (limit left : ℕ) (st0 st1 : InputState) (kn0 : Option Kinds) (h0 h1 : List ℕ → List Tag → Type 0) (v0 v1 : Pending) (k0 k1 : List Packet → Type 0) (d0 d1 : ℕ → Bool) (t0 : Packet → Type 0) →
    st0.readable ≡ true → (u : Under s b limit left st0 st1 kn0 h0 v0 k0 d0 t0) → CutShort s (b ++ u.more) v1.streams v1.delta h1 k1 d1 → Breaks s b limit st0 st1 h1 v1 k1 d1
breaks s b limit left st0 st1 kn0 h0 h1 v0 v1 k0 k1 d0 d1 t0 ra u c = record { more = u.more; long = omega (arith, u.long); only = λ h. absurd (both _ h ra); took = u.took; cut = c }

-- memory was wanted while a piece was taken
pub breaks_taking : (s : Kinds) (b : List ℕ) (limit left : ℕ) (st0 st1 st2 : InputState) (kn0 kn1 : Option Kinds) (h0 h1 h2 : List ℕ → List Tag → Type 0) (v0 v1 : Pending) (k0 k1 : List Packet → Type 0) (d0 d1 : ℕ → Bool) (t0 t1 : Packet → Type 0) →
    st0.readable ≡ true → (u : Under s b limit left st0 st1 kn0 h0 v0 k0 d0 t0) → AllGiven s (b ++ u.more) kn1 h1 v1 k1 d1 t1 → Dropped left st1 st2 h1 h2 → Breaks s b limit st0 st2 h2 v1 k1 d1
breaks_taking s b limit left st0 st1 st2 kn0 kn1 h0 h1 h2 v0 v1 k0 k1 d0 d1 t0 t1 ra u a p =
    let f : Begins ((b ++ u.more) ++ p.bytes) a.flowing.tags = begin_fed (b ++ u.more) p.bytes a.flowing.tags a.flowing.begin in
    let c : CutShort s ((b ++ u.more) ++ p.bytes) v1.streams v1.delta h2 k1 d1 =
    cut_between s (b ++ u.more) ((b ++ u.more) ++ p.bytes) kn1 h1 h2 v1 k1 d1 t1 a.flowing.tags a.flowing f f (b ++ u.more) (p.same (b ++ u.more) a.flowing.tags a.flowing.dealt) in
    record {
      more = u.more ++ p.bytes;
      long = omega (arith, u.long, p.long, length-append u.more p.bytes);
      only = λ h. absurd (both _ h ra);
      took = took_two u.more p.bytes st0 st1 st2 u.took p.took;
      cut = subst (λ (x : List ℕ). CutShort s x v1.streams v1.delta h2 k1 d1) (append_assoc b u.more p.bytes) c;
    }

-- no stop where all tags were dealt with
pub no_stop : (s : Kinds) (x : List ℕ) (n delta done : ℕ) (h : List ℕ → List Tag → Type 0) (k : List Packet → Type 0) (d : ℕ → Bool) → done ≡ length (reading_of x).tags → Stopped s x done n delta h k d → ⊥
no_stop s x n delta done h k d e st =
    omega (arith, st.later, ap length st.begin.1, length-append (st.before ++ st.tag ∷ []) st.begin.0, length-append st.before (st.tag ∷ []))

-- memory was wanted between two pieces
pub breaks_here : (s : Kinds) (b : List ℕ) (limit left : ℕ) (st0 st1 : InputState) (kn0 : Option Kinds) (h0 : List ℕ → List Tag → Type 0) (v : Pending) (k : List Packet → Type 0) (d : ℕ → Bool) (t : Packet → Type 0) →
    st0.readable ≡ true → Under s b limit left st0 st1 kn0 h0 v k d t → Breaks s b limit st0 st1 h0 v k d
breaks_here s b limit left st0 st1 kn0 h0 v k d t ra u = record {
  more = u.more;
  long = omega (arith, u.long);
  only = λ h. absurd (both _ h ra);
  took = u.took;
  cut = cut_between s (b ++ u.more) (b ++ u.more) kn0 h0 h0 v k d t u.flowing.tags u.flowing u.flowing.begin u.flowing.begin (b ++ u.more) u.flowing.dealt;
}

-- the rest was dealt with once the end was seen
pub drained : (e : ReadEnd) (s : Kinds) (b : List ℕ) (limit left : ℕ) (st0 st1 st2 : InputState) (kn0 kn1 kn2 : Option Kinds) (h0 h1 h2 h3 : List ℕ → List Tag → Type 0) (v0 v1 v2 : Pending) (k0 k1 k2 : List Packet → Type 0) (d0 d1 d2 : ℕ → Bool) (t0 t1 t2 : Packet → Type 0) →
    st0.readable ≡ true → (u : Under s b limit left st0 st1 kn0 h0 v0 k0 d0 t0) → (a : AllGiven s (b ++ u.more) kn1 h2 v1 k1 d1 t1) → Piece 0 st1 st2 h1 h2 → SawEnd st2 → 0 < left →
    Drains e s (b ++ u.more) (length a.flowing.tags) kn2 h3 v2 k2 d2 t2 → Ends e s b limit st0 st2 kn2 h3 v2 k2 d2 t2
drained ending.Whole s b limit left st0 st1 st2 kn0 kn1 kn2 h0 h1 h2 h3 v0 v1 v2 k0 k1 k2 d0 d1 d2 t0 t1 t2 ra u a p saw some q =
    let z = reaches s b limit left st0 st1 st2 kn0 kn2 h0 h3 h1 h2 v0 v2 k0 k2 d0 d2 t0 t2 ra u p q.1 in
    (z.0, saw, subst (λ (m : List ℕ). (reading_of (b ++ m)).verdict ≡ None) (sym z.1) q.0, omega (arith, ap length z.1, u.long, some))
drained ending.Cut s b limit left st0 st1 st2 kn0 kn1 kn2 h0 h1 h2 h3 v0 v1 v2 k0 k1 k2 d0 d1 d2 t0 t1 t2 ra u a p saw some q =
    let z = reaches s b limit left st0 st1 st2 kn0 kn2 h0 h3 h1 h2 v0 v2 k0 k2 d0 d2 t0 t2 ra u p q.1 in
    (z.0, saw, subst (λ (m : List ℕ). (reading_of (b ++ m)).verdict ≡ Some tag_fault.CutTag) (sym z.1) q.0, omega (arith, ap length z.1, u.long, some))
drained ending.Limit s b limit left st0 st1 st2 kn0 kn1 kn2 h0 h1 h2 h3 v0 v1 v2 k0 k1 k2 d0 d1 d2 t0 t1 t2 ra u a p saw some q = absurd q
drained ending.InputFault s b limit left st0 st1 st2 kn0 kn1 kn2 h0 h1 h2 h3 v0 v1 v2 k0 k1 k2 d0 d1 d2 t0 t1 t2 ra u a p saw some q = absurd q
drained ending.Stop s b limit left st0 st1 st2 kn0 kn1 kn2 h0 h1 h2 h3 v0 v1 v2 k0 k1 k2 d0 d1 d2 t0 t1 t2 ra u a p saw some q =
    absurd (no_stop s (b ++ u.more) v2.streams v2.delta (length a.flowing.tags) h3 k2 d2 (ap length a.all) q)
drained ending.NoMemory s b limit left st0 st1 st2 kn0 kn1 kn2 h0 h1 h2 h3 v0 v1 v2 k0 k1 k2 d0 d1 d2 t0 t1 t2 ra u a p saw some q =
    record { more = u.more; long = omega (arith, u.long); only = λ h. absurd (both _ h ra); took = took_still u.more st0 st1 st2 h1 h2 u.took p; cut = q }

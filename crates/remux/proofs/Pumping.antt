-- One more packet of the tags.
use Rattle.std.proofs.Common.{◌≡◌, ℕ, ◌+◌, ◌<◌, ◌≤◌, ◌⊎◌, inl, inr, Bool, true, false, List, [], ◌∷◌, ◌++◌, length, ap, ◌∙◌, sym, refl, subst, arith, zero, suc, length-append, append_assoc, Option, Some}
use Rattle.std.specs.Prelude.{ℤ, ◌≤ℤ◌}
use Rattle.std.proofs.lemmas.Bool.{cases_lt}
use Rattle.std.proofs.lemmas.List.{append-nil}
use Rattle.rmx_media.specs.declared.packet.Packet.{Packet}
use Rattle.flv_tags.specs.declared.tag.Tag.{Tag}
use Rattle.flv_tags.specs.Tags.{reading_of}
use Rattle.flv_demux.specs.declared.deal.Kinds.{Kinds}
use Rattle.flv_demux.specs.Probe.{stream_count}
use Rattle.flv_demux.specs.Deal.{packets_by, packets_from, desk_of, last_dts}
use Rattle.flv_tags.specs.Tags.{Begins}
use Rattle.flv_demux.proofs.Longer.{packets_by-append}
use Rattle.interleaver.specs.Interleave.{Line, line_of, IsLined, emitted, interleave}
use Rattle.interleaver.specs.Queues.{Pending, goes, last_of}
use Rattle.interleaver.proofs.Steps.{lined_stuck, release_adds, emitted_adds}
use Rattle.tee.specs.declared.fed.Fed.TheVariants.{More, Stop}
use Rattle.remux.specs.Fit.{Each}
use Rattle.remux.specs.Gave.{Advances}
use Rattle.remux.specs.Flow.{Flow, Flowing, Stopped, CutShort}
use Rattle.remux.specs.Handed.{Handed, HandedSome}
use Rattle.remux.specs.Demuxed.{Gives, NoMore}
use Rattle.remux.specs.Pumped.{AllGiven}
use Rattle.remux.proofs.Handing.{stuck_line}

few : (a b : Bool) → stream_count record { video = a; audio = b } < 3
few true true = omega arith
few true false = omega arith
few false true = omega arith
few false false = omega arith

pub few_streams : (s : Kinds) → stream_count s < 3
few_streams s = few s.video s.audio

last_is : (packets given : List Packet) (v : Pending) (k : ℕ) → k < 2 → Flow packets given v → last_of v k ≡ last_dts k packets
last_is packets given v zero h f = f.first
last_is packets given v (suc zero) h f = f.second
last_is packets given v (suc (suc k)) h f = absurd (omega arith)

pub in_order : (packets given : List Packet) (v : Pending) (p : Packet) → p.stream < 2 → Flow packets given v → last_dts p.stream packets ≤ℤ p.dts → last_of v p.stream ≤ℤ p.dts
in_order packets given v p h f o = subst (λ (d : ℤ). d ≤ℤ p.dts) (sym (last_is packets given v p.stream h f)) o

lives : (dead deads : ℕ → Bool) (n m : ℕ) → Advances false dead deads n (n + m) → ((u : ℕ) → 0 < u → u ≤ n → dead u ≡ false) → (u : ℕ) → 0 < u → u ≤ n + m → deads u ≡ false
lives dead deads n m a f u h k = by (cases_lt n u)
  where
    late : n < u → (u < n + m) ⊎ (n + m ≤ u) → deads u ≡ false
    late l (inl lt) = a.alive u l lt
    late l (inr ge) = let e : u ≡ n + m = omega arith in ap deads e ∙ a.last (omega arith)

    by : (n < u) ⊎ (u ≤ n) → deads u ≡ false
    by (inr le) = a.same u le ∙ f u h le
    by (inl lt) = late lt (cases_lt u (n + m))

dies_later : (dead deads : ℕ → Bool) (n m : ℕ) → Advances true dead deads n (n + m) → ((u : ℕ) → 0 < u → u ≤ n → dead u ≡ false) → (u : ℕ) → 0 < u → u < n + m → deads u ≡ false
dies_later dead deads n m a f u h k = by (cases_lt n u)
  where
    by : (n < u) ⊎ (u ≤ n) → deads u ≡ false
    by (inr le) = a.same u le ∙ f u h le
    by (inl lt) = a.alive u lt k

pub flowing_more : (s : Kinds) (b : List ℕ) (kn0 kn1 : Option Kinds) (h0 h1 : List ℕ → List Tag → Type 0) (v0 v1 : Pending) (k0 k1 : List Packet → Type 0) (d0 d1 : ℕ → Bool) (t0 t1 : Packet → Type 0) (p : Packet) →
    (f : Flowing s b kn0 h0 v0 k0 d0 t0) → kn1 ≡ Some s → Gives s b f.tags p (h1 b) → v1.streams ≡ v0.streams → Handed More (packets_by s f.tags ++ p ∷ []) f.given v1 k1 d0 d1 → Each t1 v1.pending → ((q : Packet) → t0 q → t1 q) → Flowing s b kn1 h1 v1 k1 d1 t1
flowing_more s b kn0 kn1 h0 h1 v0 v1 k0 k1 d0 d1 t0 t1 p f kn gv n h e a = record {
  tags = gv.before ++ gv.tag ∷ [];
  given = f.given ++ h.more;
  streams = kn;
  count = n ∙ f.count;
  some = f.some;
  begin = gv.begin;
  dealt = gv.dealt;
  kept = h.kept;
  flow = subst (λ (ps : List Packet). Flow ps (f.given ++ h.more) v1) (sym gv.one) h.flow;
  stuck = h.stuck refl;
  alive = λ u l m. lives d0 d1 (length f.given) (length h.more) h.advances f.alive u l (omega (arith, length-append f.given h.more));
  pending = e;
  accepts = λ q x. a q (f.accepts q x);
}

out_of : (n delta : ℕ) (packets given pending : List Packet) → IsLined n delta packets given pending → (rest : List Packet) × (emitted n delta packets ≡ given ++ rest)
out_of n delta packets given pending e = let r = release_adds n delta given pending in (r.0, ap (λ (l : Line). l.out) (sym e) ∙ r.1)

pub all_out : (packets given : List Packet) (v : Pending) → goes v ≡ false → Flow packets given v → emitted v.streams v.delta packets ≡ given
all_out packets given v stuck f = ap (λ (l : Line). l.out) (lined_stuck v.streams v.delta packets given v.pending (stuck_line v stuck) f.lined)

pub stopped_by : (s : Kinds) (b : List ℕ) (kn0 : Option Kinds) (h0 h1 : List ℕ → List Tag → Type 0) (v0 v1 : Pending) (k0 k1 : List Packet → Type 0) (d0 d1 : ℕ → Bool) (t0 : Packet → Type 0) (p : Packet) (done : ℕ) →
    (f : Flowing s b kn0 h0 v0 k0 d0 t0) → done ≤ length f.tags → Gives s b f.tags p (h1 b) → v1.streams ≡ v0.streams → v1.delta ≡ v0.delta → Handed Stop (packets_by s f.tags ++ p ∷ []) f.given v1 k1 d0 d1 → Stopped s b done v1.streams v1.delta h1 k1 d1
stopped_by s b kn0 h0 h1 v0 v1 k0 k1 d0 d1 t0 p done f dn gv n e h =
    let o = out_of v1.streams v1.delta (packets_by s f.tags ++ p ∷ []) (f.given ++ h.more) v1.pending h.flow.lined in
    let few : emitted v1.streams v1.delta (packets_by s gv.before) ≡ f.given =
    rw (n, e, gv.none_before) (all_out (packets_by s f.tags) f.given v0 f.stuck f.flow) in
    let len : length (f.given ++ h.more) ≡ length f.given + length h.more = length-append f.given h.more in
    record {
      before = gv.before;
      later = omega (arith, gv.later);
      begin = gv.begin;
      tag = gv.tag;
      given = f.given ++ h.more;
      dealt = gv.dealt;
      kept = h.kept;
      rest = o.0;
      enough = ap (emitted v1.streams v1.delta) gv.one ∙ o.1;
      less = let m = h.some refl in rw few (omega arith);
      dies = ap d1 len ∙ h.advances.last (let m = h.some refl in omega arith);
      alive = λ u l m. dies_later d0 d1 (length f.given) (length h.more) h.advances f.alive u l (omega arith);
    }

-- no further packet
pub all_given : (s : Kinds) (b : List ℕ) (kn0 kn1 : Option Kinds) (h0 h1 : List ℕ → List Tag → Type 0) (v : Pending) (k : List Packet → Type 0) (d : ℕ → Bool) (t : Packet → Type 0) →
    (f : Flowing s b kn0 h0 v k d t) → kn1 ≡ Some s → NoMore s b f.tags (h1 b) → AllGiven s b kn1 h1 v k d t
all_given s b kn0 kn1 h0 h1 v k d t f kn m = record {
  flowing = record {
    tags = (reading_of b).tags;
    given = f.given;
    streams = kn;
    count = f.count;
    some = f.some;
    begin = ([], sym (append-nil (reading_of b).tags));
    dealt = m.dealt;
    kept = f.kept;
    flow = subst (λ (ps : List Packet). Flow ps f.given v) (sym m.none) f.flow;
    stuck = f.stuck;
    alive = f.alive;
    pending = f.pending;
    accepts = f.accepts;
  };
  all = refl;
}

-- the same, and no tag is forgotten
pub flowing_later : (s : Kinds) (b : List ℕ) (kn0 kn1 : Option Kinds) (h0 h1 : List ℕ → List Tag → Type 0) (v0 v1 : Pending) (k0 k1 : List Packet → Type 0) (d0 d1 : ℕ → Bool) (t0 t1 : Packet → Type 0) (p : Packet) (n : ℕ) →
    (f : Flowing s b kn0 h0 v0 k0 d0 t0) → n ≤ length f.tags → kn1 ≡ Some s → Gives s b f.tags p (h1 b) → v1.streams ≡ v0.streams → Handed More (packets_by s f.tags ++ p ∷ []) f.given v1 k1 d0 d1 → Each t1 v1.pending → ((q : Packet) → t0 q → t1 q) → (f1 : Flowing s b kn1 h1 v1 k1 d1 t1) × (n ≤ length f1.tags)
unfolding flowing_more
flowing_later s b kn0 kn1 h0 h1 v0 v1 k0 k1 d0 d1 t0 t1 p n f le kn gv e h ea ac =
    (flowing_more s b kn0 kn1 h0 h1 v0 v1 k0 k1 d0 d1 t0 t1 p f kn gv e h ea ac, omega (arith, le, gv.later, length-append gv.before (gv.tag ∷ [])))

-- what some tags emit is a beginning of the whole order
pub order_of : (s : Kinds) (n delta : ℕ) (b : List ℕ) (tags : List Tag) (given rest : List Packet) → Begins b tags → emitted n delta (packets_by s tags) ≡ given ++ rest →
    (more : List Packet) × (interleave n delta (packets_by s (reading_of b).tags) ≡ given ++ more)
order_of s n delta b tags given rest f e =
    let whole : packets_by s (reading_of b).tags ≡ packets_by s tags ++ packets_from s (desk_of s tags) f.0 = ap (packets_by s) f.1 ∙ packets_by-append s tags f.0 in
    let k = emitted_adds n delta (packets_by s tags) (packets_from s (desk_of s tags) f.0) in
    let last = (line_of n delta (packets_by s (reading_of b).tags)).pending in
    let out : emitted n delta (packets_by s (reading_of b).tags) ≡ (given ++ rest) ++ k.0 = ap (emitted n delta) whole ∙ k.1 ∙ ap (λ (xs : List Packet). xs ++ k.0) e in (
      (rest ++ k.0) ++ last,
      ap (λ (xs : List Packet). xs ++ last) (out ∙ append_assoc given rest k.0) ∙ append_assoc given (rest ++ k.0) last,
    )

-- memory was wanted at a packet
pub cut_at : (s : Kinds) (b : List ℕ) (kn0 : Option Kinds) (h0 h1 : List ℕ → List Tag → Type 0) (v0 v1 : Pending) (k0 k1 : List Packet → Type 0) (d0 d1 : ℕ → Bool) (t0 : Packet → Type 0) (p : Packet) →
    (f : Flowing s b kn0 h0 v0 k0 d0 t0) → Gives s b f.tags p (h1 b) → v1.streams ≡ v0.streams → v1.delta ≡ v0.delta → HandedSome v0.streams v0.delta (packets_by s f.tags ++ p ∷ []) f.given k1 d0 d1 → CutShort s b v1.streams v1.delta h1 k1 d1
cut_at s b kn0 h0 h1 v0 v1 k0 k1 d0 d1 t0 p f gv n e h =
    let o : emitted v1.streams v1.delta (packets_by s (gv.before ++ gv.tag ∷ [])) ≡ (f.given ++ h.more) ++ h.rest =
    rw (n, e) (ap (emitted v0.streams v0.delta) gv.one ∙ h.order) in
    let w = order_of s v1.streams v1.delta b (gv.before ++ gv.tag ∷ []) (f.given ++ h.more) h.rest gv.begin o in
    record {
      tags = gv.before ++ gv.tag ∷ [];
      begin = gv.begin;
      fed = b;
      dealt = gv.dealt;
      given = f.given ++ h.more;
      rest = w.0;
      kept = h.kept;
      order = w.1;
      alive = λ u l m. lives d0 d1 (length f.given) (length h.more) h.advances f.alive u l (omega (arith, length-append f.given h.more));
    }

-- or between two packets, where these tags are dealt with
pub cut_between : (s : Kinds) (b c : List ℕ) (kn0 : Option Kinds) (h0 h1 : List ℕ → List Tag → Type 0) (v : Pending) (k : List Packet → Type 0) (d : ℕ → Bool) (t : Packet → Type 0) (tags : List Tag) →
    (f : Flowing s b kn0 h0 v k d t) → Begins c f.tags → Begins c tags → (fed : List ℕ) → h1 fed tags → CutShort s c v.streams v.delta h1 k d
cut_between s b c kn0 h0 h1 v k d t tags f fb tb fed h =
    let w = order_of s v.streams v.delta c f.tags f.given [] fb (all_out (packets_by s f.tags) f.given v f.stuck f.flow ∙ sym (no_end f.given)) in
    record { tags = tags; begin = tb; fed = fed; dealt = h; given = f.given; rest = w.0; kept = f.kept; order = w.1; alive = f.alive }
  where
    no_end : (xs : List Packet) → xs ++ [] ≡ xs
    no_end [] = refl
    no_end (x ∷ xs) = ap (λ (ys : List Packet). x ∷ ys) (no_end xs)

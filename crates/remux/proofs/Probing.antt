-- The steps of the search for streams.
use Rattle.std.proofs.Common.{◌≡◌, ℕ, ◌+◌, ◌-◌, ◌<◌, ◌≤◌, ◌⊎◌, inl, inr, Bool, true, false, List, [], ◌∷◌, ◌++◌, length, ap, ◌∙◌, sym, refl, subst, arith, length-append, Option, None, Ok, Err}
use Rattle.rmx_media.specs.declared.packet.Packet.{Packet}
use Rattle.flv_tags.specs.declared.tag.Tag.{Tag}
use Rattle.flv_tags.specs.Tags.{reading_of}
use Rattle.flv_tags.proofs.Grow.{tags_grow}
use Rattle.flv_demux.specs.declared.deal.Kinds.{Kinds}
use Rattle.flv_demux.specs.Probe.{probe_of, is_decided}
use Rattle.flv_demux.proofs.Probing.{probe_of-none, probe_stays}
use Rattle.rmx_edge.specs.Count.{Rose}
use Rattle.rmx_edge.specs.Inputs.{InputState}
use Rattle.rmx_edge.proofs.Run.{rose_later}
use Rattle.remux.specs.declared.probe.Reached.{Reached}
use Rattle.remux.specs.declared.probe.Reached.TheVariants as reached
use Rattle.remux.specs.declared.probe.Unfound.{Unfound}
use Rattle.remux.specs.declared.probe.Unfound.TheVariants as unfound
use Rattle.remux.specs.declared.probe.Looked.TheVariants as looked
use Rattle.remux.specs.Demuxed.{Finds, Waits, is_refused}
use Rattle.remux.specs.Finding.{Looks, LateProbe, ByReached, Taking, Seeks, FoundIn, Broke, Finding, SeeksOn}
use Rattle.remux.specs.Took.{Took, Piece, Dropped, SawEnd}
use Rattle.remux.proofs.Taking.{took_two, took_none}
use Rattle.remux.proofs.Reading.{still, took_still}

pub not_both : (b : Bool) → b ≡ true → b ≡ false → ⊥
not_both b t f = no (sym t ∙ f)
  where
    no : true ≡ false → ⊥
    no h = cc

-- what isn't decided by a text isn't by a beginning of it
pub undecided_before : (p rest : List ℕ) → is_decided (probe_of (reading_of (p ++ rest)).tags) ≡ false → is_decided (probe_of (reading_of p).tags) ≡ false
undecided_before p rest e = by (is_decided (probe_of (reading_of p).tags)) refl
  where
    later : is_decided (probe_of (reading_of p).tags) ≡ true → is_decided (probe_of (reading_of (p ++ rest)).tags) ≡ true
    later d =
        let g = tags_grow p rest in
        ap (λ (ts : List Tag). is_decided (probe_of ts)) g.1 ∙ ap is_decided (probe_stays (reading_of p).tags g.0 d) ∙ d

    by : (b : Bool) → is_decided (probe_of (reading_of p).tags) ≡ b → is_decided (probe_of (reading_of p).tags) ≡ false
    by false d = d
    by true d = absurd (not_both _ (later d) e)

nothing_left : (p rest : List ℕ) → [] ≡ p ++ rest → p ≡ []
nothing_left [] rest e = refl
nothing_left (x ∷ p) rest e = cc

pub late_start : LateProbe []
late_start = record {
  front = [];
  piece = [];
  whole = refl;
  small = omega arith;
  undecided = λ p rest w. subst (λ (x : List ℕ). is_decided (probe_of (reading_of x).tags) ≡ false) (sym (nothing_left p rest w)) (ap is_decided probe_of-none);
  calm = λ long. absurd (omega (arith, long));
}

pub late_piece : (b piece : List ℕ) → length piece ≤ 65536 → is_decided (probe_of (reading_of b).tags) ≡ false → (9 ≤ length b → is_refused (reading_of b).verdict ≡ false) → LateProbe (b ++ piece)
late_piece b piece small e calm = record {
  front = b;
  piece = piece;
  whole = refl;
  small = small;
  undecided = λ p rest w. undecided_before p rest (subst (λ (x : List ℕ). is_decided (probe_of (reading_of x).tags) ≡ false) w e);
  calm = calm;
}

taking_of : (limit left : ℕ) (r : Reached) (old new : InputState) (ended : Bool) (known : Option Kinds) (has : List ℕ → List Tag → Type 0) → (k : Seeks limit left r old new ended known has) → Taking limit old new k.bytes
taking_of limit left r old new ended known has k = record { long = omega (arith, k.long); took = k.took }

-- the end was seen, or all bytes were taken that may be
seen_end : (r : Reached) (b : List ℕ) (ended : Bool) (limit left : ℕ) (now : InputState) → ByReached r b ended left now → length b + left ≡ limit → ended ≡ true → SawEnd now ⊎ (length b ≡ limit)
seen_end reached.More b ended limit left now h l e = absurd (not_both ended e h.0)
seen_end reached.End b ended limit left now h l e = inl h.1
seen_end reached.Limit b ended limit left now h l e = inr (omega (arith, h.1))

nine : (r : Reached) (b : List ℕ) (ended : Bool) (limit left : ℕ) (now : InputState) → ByReached r b ended left now → length b + left ≡ limit → 9 ≤ limit → (9 ≤ length b) ⊎ (ended ≡ true) → (9 ≤ length b) ⊎ SawEnd now
nine r b ended limit left now h l n (inl x) = inl x
nine r b ended limit left now h l n (inr e) = by (seen_end r b ended limit left now h l e)
  where
    by : SawEnd now ⊎ (length b ≡ limit) → (9 ≤ length b) ⊎ SawEnd now
    by (inl s) = inr s
    by (inr m) = inl (omega arith)

-- a look that finds no streams
pub unfound_by : (u : Unfound) (limit left : ℕ) (r : Reached) (old new : InputState) (e0 e1 : Bool) (kn0 kn1 : Option Kinds) (h0 h1 : List ℕ → List Tag → Type 0) → 9 ≤ limit →
    (k : Seeks limit left r old new e0 kn0 h0) → Looks (Err u) k.bytes e0 kn1 (h1 k.bytes) → Finding (Err u) limit old new e1 kn1 h1
unfound_by unfound.NotFlv limit left r old new e0 e1 kn0 kn1 h0 h1 n k l = (k.bytes, taking_of limit left r old new e0 kn0 h0 k, l.1, nine r k.bytes e0 limit left new k.how k.long n l.0, k.late)
unfound_by unfound.BadOffset limit left r old new e0 e1 kn0 kn1 h0 h1 n k l = (k.bytes, taking_of limit left r old new e0 kn0 h0 k, l.1, nine r k.bytes e0 limit left new k.how k.long n l.0, k.late)
unfound_by unfound.NoStreams limit left r old new e0 e1 kn0 kn1 h0 h1 n k l = record {
  bytes = k.bytes;
  taking = taking_of limit left r old new e0 kn0 h0 k;
  none = l.none;
  settled = by l.settled;
  calm = l.calm;
  late = k.late;
}
  where
    by : (is_decided (probe_of (reading_of k.bytes).tags) ≡ true) ⊎ (e0 ≡ true) → (is_decided (probe_of (reading_of k.bytes).tags) ≡ true) ⊎ (SawEnd new ⊎ (length k.bytes ≡ limit))
    by (inl d) = inl d
    by (inr e) = inr (seen_end r k.bytes e0 limit left new k.how k.long e)
unfound_by unfound.InputFault limit left r old new e0 e1 kn0 kn1 h0 h1 n k l = absurd l
unfound_by unfound.NoMemory limit left r old new e0 e1 kn0 kn1 h0 h1 n k l = (k.bytes, taking_of limit left r old new e0 kn0 h0 k)

pub seek_start : (limit : ℕ) (st : InputState) (ended : Bool) (known : Option Kinds) (has : List ℕ → List Tag → Type 0) → st.readable ≡ true → ended ≡ false → known ≡ None → has [] [] → Seeks limit limit reached.More st st ended known has
seek_start limit st ended known has r e k h = record { bytes = []; long = omega arith; took = took_none st; unknown = k; dealt = h; late = late_start; how = (e, r) }

-- a piece came
pub seek_bytes : (n limit left : ℕ) (b : List ℕ) (st0 st1 st2 : InputState) (e0 e2 : Bool) (kn1 kn2 : Option Kinds) (h1 h2 : List ℕ → List Tag → Type 0) →
    length b + left ≡ limit → Took b st0 st1 → Waits b e0 kn1 (h1 b) → kn2 ≡ kn1 → Piece n st1 st2 h1 h2 → n ≤ left → n ≤ 65536 → st2.readable ≡ true → e2 ≡ false →
    Seeks limit (left - n) reached.More st0 st2 e2 kn2 h2
seek_bytes n limit left b st0 st1 st2 e0 e2 kn1 kn2 h1 h2 long took q same p le small ra e = record {
  bytes = b ++ p.bytes;
  long = omega (arith, p.long, length-append b p.bytes);
  took = took_two b p.bytes st0 st1 st2 took p.took;
  unknown = same ∙ q.unknown;
  dealt = p.fed b [] q.dealt;
  late = late_piece b p.bytes (omega (arith, p.long)) q.undecided q.calm;
  how = (e, ra);
}

-- the end was seen
pub seek_end : (limit left : ℕ) (b : List ℕ) (st0 st1 st2 : InputState) (e0 e2 : Bool) (kn1 kn2 : Option Kinds) (h1 h2 : List ℕ → List Tag → Type 0) →
    length b + left ≡ limit → Took b st0 st1 → LateProbe b → Waits b e0 kn1 (h1 b) → kn2 ≡ kn1 → Piece 0 st1 st2 h1 h2 → SawEnd st2 → e2 ≡ true → 0 < left → st2.readable ≡ false →
    Seeks limit left reached.End st0 st2 e2 kn2 h2
seek_end limit left b st0 st1 st2 e0 e2 kn1 kn2 h1 h2 long took late q same p saw e some spent = record {
  bytes = b;
  long = long;
  took = took_still b st0 st1 st2 h1 h2 took p;
  unknown = same ∙ q.unknown;
  dealt = still b st1 st2 h1 h2 [] p q.dealt;
  late = late;
  how = (e, saw, q.undecided, some, spent);
}

-- no more may be taken
pub seek_limit : (limit left : ℕ) (b : List ℕ) (st0 st1 st2 : InputState) (e0 e3 : Bool) (kn1 kn2 kn3 : Option Kinds) (h1 h2 h3 : List ℕ → List Tag → Type 0) →
    length b + left ≡ limit → Took b st0 st1 → LateProbe b → Waits b e0 kn1 (h1 b) → kn2 ≡ kn1 → Piece 0 st1 st2 h1 h2 → left ≡ 0 → ((x : List ℕ) (done : List Tag) → h2 x done → h3 x done) → kn3 ≡ kn2 → e3 ≡ true →
    Seeks limit left reached.Limit st0 st2 e3 kn3 h3
seek_limit limit left b st0 st1 st2 e0 e3 kn1 kn2 kn3 h1 h2 h3 long took late q same p none on same3 e = record {
  bytes = b;
  long = long;
  took = took_still b st0 st1 st2 h1 h2 took p;
  unknown = same3 ∙ same ∙ q.unknown;
  dealt = on b [] (still b st1 st2 h1 h2 [] p q.dealt);
  late = late;
  how = (e, none, q.undecided);
}

pub found_by : (first : Option Packet) (limit left : ℕ) (r : Reached) (old new : InputState) (e0 e1 : Bool) (kn0 kn1 : Option Kinds) (h0 h1 : List ℕ → List Tag → Type 0) →
    (k : Seeks limit left r old new e0 kn0 h0) → e1 ≡ e0 → Looks (Ok (looked.Found first)) k.bytes e0 kn1 (h1 k.bytes) → FoundIn record { first = first; reached = r; left = left } limit old new e1 kn1 h1
found_by first limit left r old new e0 e1 kn0 kn1 h0 h1 k e l = record {
  bytes = k.bytes;
  long = k.long;
  took = k.took;
  streams = l.0;
  finds = subst (λ (x : Bool). Finds l.0 k.bytes x kn1) (sym e) l.1;
  first = l.2;
  late = k.late;
  how = subst (λ (x : Bool). ByReached r k.bytes x left new) (sym e) k.how;
}

pub broke_by : (limit left : ℕ) (b : List ℕ) (st0 st1 st2 : InputState) (e0 : Bool) (kn1 : Option Kinds) (h1 h2 : List ℕ → List Tag → Type 0) →
    length b + left ≡ limit → Took b st0 st1 → Waits b e0 kn1 (h1 b) → Piece 0 st1 st2 h1 h2 → st0.faults ≤ st1.faults → Rose st1.faults st2.faults → 0 < left → Broke limit st0 st2
broke_by limit left b st0 st1 st2 e0 kn1 h1 h2 long took q p le rose some = record {
  bytes = b;
  taking = record { long = omega arith; took = took_still b st0 st1 st2 h1 h2 took p };
  fewer = omega (arith, long, some);
  rose = rose_later st0.faults st1.faults st2.faults le rose;
  undecided = q.undecided;
  calm = q.calm;
}

pub lost_by : (limit left : ℕ) (b : List ℕ) (st0 st1 st2 : InputState) (h1 h2 : List ℕ → List Tag → Type 0) →
    length b + left ≡ limit → Took b st0 st1 → Dropped left st1 st2 h1 h2 → (bytes : List ℕ) × Taking limit st0 st2 bytes
lost_by limit left b st0 st1 st2 h1 h2 long took p =
    (b ++ p.bytes, record { long = omega (arith, p.long, length-append b p.bytes); took = took_two b p.bytes st0 st1 st2 took p.took })

-- a search that went on in vain
pub sought : (u : Unfound) (limit : ℕ) (old new : InputState) (e : Bool) (kn : Option Kinds) (h : List ℕ → List Tag → Type 0) → SeeksOn (Err u) limit old new e kn h → Finding (Err u) limit old new e kn h
sought unfound.NotFlv limit old new e kn h s = absurd s
sought unfound.BadOffset limit old new e kn h s = absurd s
sought unfound.NoStreams limit old new e kn h s = absurd s
sought unfound.InputFault limit old new e kn h s = s
sought unfound.NoMemory limit old new e kn h s = s

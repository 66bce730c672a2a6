-- The accounts are a reading of the causes in the history.
use Rattle.std.proofs.Common.{◌≡◌, ◌≢◌, ℕ, zero, suc, ◌+◌, ◌-◌, ◌≤◌, ◌<◌, ◌⊎◌, inl, inr, Bool, true, false, not, ◌&&◌, ◌==◌, List, [], ◌∷◌, ◌++◌, length, slice_get, Option, Some, None, is_some, ℤ, pos, refl, ap, sym, ◌∙◌, subst, arith, append_assoc, length-append}
use Rattle.std.specs.Prelude.{int_lt, ◌-ℤ◌}
use Rattle.std.proofs.lemmas.List.{append-nil}
use Rattle.fifo_core.specs.declared.types.FifoOptions.{FifoOptions}
use Rattle.fifo_core.specs.declared.types.PacketFacts.{PacketFacts}
use Rattle.fifo_core.specs.declared.types.Answer.{Answer}
use Rattle.fifo_core.specs.declared.types.Answer.TheVariants as answer
use Rattle.fifo_core.specs.declared.types.EndState.TheVariants as ends
use Rattle.fifo_core.specs.declared.types.Mode.TheVariants.{Live, Dead}
use Rattle.fifo_core.specs.declared.types.Fate.{Fate}
use Rattle.fifo_core.specs.declared.types.Fate.TheVariants as fate
use Rattle.fifo_core.specs.History.{Begun, Tried, Fated, Want, History, fates_of, is_below, notes, since, session_of, wanted, mode_of, mode_is_dead, is_live, end_of}
use Rattle.fifo_core.specs.State.{Rises}
use Rattle.fifo_core.specs.Follows.{Turn, Comes, Flushes}
use Rattle.fifo_core.specs.Causes.{Caused, Cause, FlushCause, TurnCause, TriedLast, PutFailed, HasTurn, OnlyTried}
use Rattle.fifo_core.proofs.Caused.{each_caused, dead_number, taken_live}
use Rattle.rmx_edge.specs.Counted.{with_count}
use Rattle.rmx_media.specs.declared.packet.Packet.{Packet}
use Rattle.rmx_media.specs.Packet.{is_restart}
use Rattle.slave.specs.declared.records.FaultAt.TheVariants.{Begin, Put, End}
use Rattle.slave.specs.declared.records.FaultNote.{FaultNote}
use Rattle.slave.specs.Origin.{Origin, facts_of, video_of}
use Rattle.slave.specs.Runs.{expand}
use Rattle.slave.specs.Table.{StandsAt, turns_from, NotesTell}
use Rattle.slave.specs.End.{EndView, EndNotes, Ended}
use Rattle.slave.specs.Accounts.{Has, HasPut, IsHit, IsLastBefore, MayWait, MayBeLost, MayStand, EndsMeetAccounts}
use Rattle.slave.proofs.Alive.{Alive, each_alive}
use Rattle.slave.proofs.Covers.{above_once, rises_above}
use Rattle.slave.proofs.Settling.{all_settled}
use Rattle.slave.proofs.Faultless.{notes_rise}
use Rattle.slave.proofs.Past.{in_turn, has_split, has_front, indexed_within, indexed_has, indexed_once, rises_within, indexed_rises, written_has, has_written, noted, noted_tried, notes_count, note_at_fault, last_fault, get_front, same_number, number_same, test_cases}

-- the notes of writes are those of packets behind packet i
abbrev PutsAfter : ℕ → List FaultNote → Type 0
PutsAfter i [] = Unit {0}
PutsAfter i (n ∷ ns) = ((j : ℕ) → n.at ≡ Put j → i < j) × PutsAfter i ns

puts_push : (i : ℕ) (ns ms : List FaultNote) → PutsAfter i ns → PutsAfter i ms → PutsAfter i (ns ++ ms)
puts_push i [] ms a b = b
puts_push i (n ∷ ns) ms a b = (a.0, puts_push i ns ms a.1 b)

puts_get : (i : ℕ) (front back : List FaultNote) (k j : ℕ) (m : FaultNote) → PutsAfter i back → length front ≤ k → slice_get (front ++ back) k ≡ Some m → m.at ≡ Put j → i < j
puts_get i [] [] k j m a lt at put = absurd (cc at)
puts_get i [] (n ∷ ns) zero j m a lt at put = (let same : n ≡ m = cc in a.0 j (ap (λ (x : FaultNote). x.at) same ∙ put))
puts_get i [] (n ∷ ns) (suc k) j m a lt at put = puts_get i [] ns k j m a.1 (omega arith) at put
puts_get i (x ∷ front) back zero j m a lt at put = absurd (omega (arith, lt))
puts_get i (x ∷ front) back (suc k) j m a lt at put = puts_get i front back k j m a (omega (arith, lt)) at put

module _ (o : FifoOptions) (ts : List Turn) where
  -- the note at which a packet was lost comes before
  lost_notes : (h : History) (k f : ℕ) → Caused o ts h → Has (fates_of h) k (fate.Lost f) → f + 1 ≤ notes h
  lost_notes [] k f c x = absurd x
  lost_notes (Begun a ∷ h) k f c x = absurd (let y : Has [] k (fate.Lost f) = subst (λ (g : History). Has (fates_of g) k (fate.Lost f)) c x in y)
  lost_notes (Tried s i facts answer.Done ∷ h) k f c x = lost_notes h k f c.1 x
  lost_notes (Tried s i facts answer.Fault ∷ h) k f c x = omega (arith, lost_notes h k f c.1 x)
  lost_notes (Tried s i facts answer.NoMemory ∷ h) k f c x = lost_notes h k f c.1 x
  lost_notes (Want ∷ h) k f c x = lost_notes h k f c x
  lost_notes (Fated i u ∷ h) k f c x = elim (has_split (fates_of h) (i, u) k (fate.Lost f) x) [
    | inl a ↦ lost_notes h k f c.1 a
    | inr b ↦ by c.0.0 (subst (λ (v : Fate). TurnCause o h i c.0.0 v) b.1 c.0.2)
  ]
    where
      by : (t : Turn) → TurnCause o h i t (fate.Lost f) → f + 1 ≤ notes h
      by (Comes j facts) cause = omega (arith, cause.1.1)
      by (Flushes j v) cause = absurd cause.1

  -- no packet below this one was tried after it
  tries_below : (h : History) (n f j : ℕ) → Caused o ts h → Rises h n → OnlyTried h n → noted h f ≡ Some j → j ≤ n
  tries_below [] n f j c r only e = absurd (cc e)
  tries_below (Begun a ∷ h) n f j c r only e = absurd (cc e)
  tries_below (Tried s i facts answer.Done ∷ h) n f j c r only e = tries_below h n f j c.1 r only.1 e
  tries_below (Tried s i facts answer.NoMemory ∷ h) n f j c r only e = tries_below h n f j c.1 r only.1 e
  tries_below (Want ∷ h) n f j c r only e = tries_below h n f j c r only e
  tries_below (Fated k u ∷ h) n f j c r only e = let x = tries_below h k f j c.1 r.1 c.0.3 e in omega (arith, x, r.0)
  tries_below (Tried s i facts answer.Fault ∷ h) n f j c r only e = elim (test_cases (notes h == f) i j (noted h f) e) [
    | inl a ↦ omega (arith, a.1, only.0)
    | inr m ↦ tries_below h n f j c.1 r only.1 m
  ]

  -- the packet that was tried at a note is the first that was lost at it
  lost_first : (h : History) (n f j k : ℕ) → Caused o ts h → Rises h n → noted h f ≡ Some j → Has (fates_of h) k (fate.Lost f) → j ≤ k
  lost_first [] n f j k c r e x = absurd x
  lost_first (Begun a ∷ h) n f j k c r e x = absurd (cc e)
  lost_first (Tried s i facts answer.Done ∷ h) n f j k c r e x = lost_first h n f j k c.1 r e x
  lost_first (Tried s i facts answer.NoMemory ∷ h) n f j k c r e x = lost_first h n f j k c.1 r e x
  lost_first (Want ∷ h) n f j k c r e x = lost_first h n f j k c r e x
  lost_first (Tried s i facts answer.Fault ∷ h) n f j k c r e x = elim (test_cases (notes h == f) i j (noted h f) e) [
    | inl a ↦ (let below = lost_notes h k f c.1 x in let same = same_number (notes h) f a.0 in absurd (omega (arith, below, same)))
    | inr m ↦ lost_first h n f j k c.1 r m x
  ]
  lost_first (Fated i u ∷ h) n f j k c r e x = elim (has_split (fates_of h) (i, u) k (fate.Lost f) x) [
    | inl a ↦ lost_first h i f j k c.1 r.1 e a
    | inr b ↦ (let y = tries_below h i f j c.1 r.1 c.0.3 e in omega (arith, y, b.0))
  ]

  -- an output that was given up stays so
  stays_dead : (h : History) (i f : ℕ) → Caused o ts h → Has (fates_of h) i (fate.AfterFailure f) → mode_of o h ≡ Dead f
  stays_dead [] i f c x = absurd x
  stays_dead (Begun a ∷ h) i f c x = absurd (let y : Has [] i (fate.AfterFailure f) = subst (λ (g : History). Has (fates_of g) i (fate.AfterFailure f)) c x in y)
  stays_dead (Tried s j facts a ∷ h) i f c x =
      let dead = stays_dead h i f c.1 x in
      let t : true ≡ false = rw dead at c.0.2 in
      absurd (cc t)
  stays_dead (Want ∷ h) i f c x = stays_dead h i f c x
  stays_dead (Fated j u ∷ h) i f c x = elim (has_split (fates_of h) (j, u) i (fate.AfterFailure f) x) [
    | inl a ↦ stays_dead h i f c.1 a
    | inr b ↦ by c.0.0 (subst (λ (v : Fate). TurnCause o h j c.0.0 v) b.1 c.0.2)
  ]
    where
      by : (t : Turn) → TurnCause o h j t (fate.AfterFailure f) → mode_of o h ≡ Dead f
      by (Comes k facts) cause = cause.1.1
      by (Flushes k v) cause = cause.1.1

  wanted_tried : (s j : ℕ) (facts : PacketFacts) (a : Answer) (h : History) → wanted h ≡ true → wanted (Tried s j facts a ∷ h) ≡ true
  wanted_tried s j facts answer.Done h w = w
  wanted_tried s j facts answer.Fault h w = w
  wanted_tried s j facts answer.NoMemory h w = refl

  -- memory that was wanted stays so
  stays_wanted : (h : History) (i : ℕ) → Caused o ts h → Has (fates_of h) i fate.NoMemory → wanted h ≡ true
  stays_wanted [] i c x = absurd x
  stays_wanted (Begun a ∷ h) i c x = absurd (let y : Has [] i fate.NoMemory = subst (λ (g : History). Has (fates_of g) i fate.NoMemory) c x in y)
  stays_wanted (Tried s j facts a ∷ h) i c x = wanted_tried s j facts a h (stays_wanted h i c.1 x)
  stays_wanted (Want ∷ h) i c x = refl
  stays_wanted (Fated j u ∷ h) i c x = elim (has_split (fates_of h) (j, u) i fate.NoMemory x) [
    | inl a ↦ stays_wanted h i c.1 a
    | inr b ↦ by c.0.0 (subst (λ (v : Fate). TurnCause o h j c.0.0 v) b.1 c.0.2)
  ]
    where
      by : (t : Turn) → TurnCause o h j t fate.NoMemory → wanted h ≡ true
      by (Comes k facts) cause = cause.1
      by (Flushes k v) cause = cause.1

  -- what is known of a fate
  pub record Found (h : History) (i : ℕ) (f : Fate) : Type 0 where
    pub past : History
    pub turn : Turn
    pub has : HasTurn ts turn
    pub cause : TurnCause o past i turn f
    pub alive : (v : ℕ) → f ≡ fate.Flushed v → mode_is_dead (mode_of o past) ≡ false
    pub caused : Caused o ts past
    pub within : (j : ℕ) (u : Fate) → Has (fates_of past) j u → Has (fates_of h) j u
    pub before : (j : ℕ) (u : Fate) → j < i → Has (fates_of h) j u → Has (fates_of past) j u
    pub later : (m j : ℕ) → noted past m ≡ Some j → noted h m ≡ Some j
    pub rises : Rises past i
    pub only : OnlyTried past i
    -- the notes that came later are those of later packets
    pub told : (ns : List FaultNote) → NotesTell h ns → (ms : List FaultNote) × (rest : List FaultNote) × NotesTell past ms × (ns ≡ ms ++ rest) × PutsAfter i rest

  told_tried : (s j i : ℕ) (facts : PacketFacts) (a : Answer) (h : History) (ns : List FaultNote) → i < j → NotesTell (Tried s j facts a ∷ h) ns
      → (ms : List FaultNote) × (rest : List FaultNote) × NotesTell h ms × (ns ≡ ms ++ rest) × PutsAfter i rest
  told_tried s j i facts answer.Done h ns lt t = (ns, [], t, sym (append-nil ns), tt)
  told_tried s j i facts answer.Fault h ns lt t = (t.0, t.1 ∷ [], t.5, t.2, (λ k put. behind k put t.4, tt))
    where
      behind : (k : ℕ) → t.1.at ≡ Put k → (t.1.at ≡ Put j) ⊎ ((t.1.at ≡ Begin) × (s ≢ session_of h)) → i < k
      behind k put (inl e) = (let x : Put j ≡ Put k = sym e ∙ put in let same : j ≡ k = cc in omega (arith, same, lt))
      behind k put (inr b) = (let x : Begin ≡ Put k = sym b.0 ∙ put in absurd (cc x))
  told_tried s j i facts answer.NoMemory h ns lt t = (ns, [], t, sym (append-nil ns), tt)

  pub found : (h : History) (n i : ℕ) (f : Fate) → Caused o ts h → Alive o h → Rises h n → OnlyTried h n → Has (fates_of h) i f → Found h i f
  found [] n i f c l r only x = absurd x
  found (Begun a ∷ h) n i f c l r only x = absurd (let y : Has [] i f = subst (λ (g : History). Has (fates_of g) i f) c x in y)
  found (Tried s j facts a ∷ h) n i f c l r only x =
      let d = found h n i f c.1 l r only.1 x in
      let bound = rises_within h n i f r x in
      record {
        past = d.past;
        turn = d.turn;
        has = d.has;
        cause = d.cause;
        alive = d.alive;
        caused = d.caused;
        within = d.within;
        before = d.before;
        later = λ m p e. noted_tried s j facts a h m p (d.later m p e);
        rises = d.rises;
        only = d.only;
        told = λ ns t.
            (let y = told_tried s j i facts a h ns (omega (arith, bound, only.0)) t in
            let z = d.told y.0 y.2 in
            (z.0, z.1 ++ y.1, z.2, y.3 ∙ ap (λ (xs : List FaultNote). xs ++ y.1) z.3 ∙ append_assoc z.0 z.1 y.1, puts_push i z.1 y.1 z.4 y.4));
      }
  found (Want ∷ h) n i f c l r only x =
      let d = found h n i f c l r only x in
      record { past = d.past; turn = d.turn; has = d.has; cause = d.cause; alive = d.alive; caused = d.caused; within = d.within; before = d.before; later = d.later; rises = d.rises; only = d.only; told = d.told }
  found (Fated j u ∷ h) n i f c l r only x =
      elim (has_split (fates_of h) (j, u) i f x) [
        | inl a ↦ (let d = found h j i f c.1 l.1 r.1 c.0.3 a in
            let bound = rises_within h j i f r.1 a in
            record {
              past = d.past;
              turn = d.turn;
              has = d.has;
              cause = d.cause;
              alive = d.alive;
              caused = d.caused;
              within = λ q v y. has_front (fates_of h) (j, u) q v (d.within q v y);
              before = λ q v lt y. elim (has_split (fates_of h) (j, u) q v y) [ inl b ↦ d.before q v lt b | inr e ↦ absurd (omega (arith, e.0, bound, lt)) ];
              later = d.later;
              rises = d.rises;
              only = d.only;
              told = d.told;
            })
        | inr b ↦ record {
          past = h;
          turn = c.0.0;
          has = c.0.1;
          cause = subst (λ (y : Fate). TurnCause o h i c.0.0 y) b.1 (subst (λ (q : ℕ). TurnCause o h q c.0.0 u) b.0 c.0.2);
          alive = λ v same. l.0 v (b.1 ∙ same);
          caused = c.1;
          within = λ q v y. has_front (fates_of h) (j, u) q v y;
          before = λ q v lt y. elim (has_split (fates_of h) (j, u) q v y) [ inl z ↦ z | inr e ↦ absurd (omega (arith, e.0, b.0, lt)) ];
          later = λ m p e. e;
          rises = subst (Rises h) b.0 r.1;
          only = subst (OnlyTried h) b.0 c.0.3;
          told = λ ns t. (ns, [], t, sym (append-nil ns), tt);
        }
      ]

-- the turn of a packet has its facts
turn_facts : (out : Origin) (n : ℕ) (L : List Packet) (i : ℕ) (facts : PacketFacts) → HasTurn (turns_from out n L) (Comes i facts)
    → (k : ℕ) × (p : Packet) × (i ≡ n + k) × (slice_get L k ≡ Some p) × (facts ≡ facts_of out p)
turn_facts out n [] i facts h = absurd h
turn_facts out n (p ∷ L) i facts (inl e) =
    let a : n ≡ i = cc in
    let b : facts_of out p ≡ facts = cc in
    (zero, p, omega (arith, a), refl, sym b)
turn_facts out n (p ∷ L) i facts (inr h) =
    let k = turn_facts out (n + 1) L i facts h in
    (suc k.0, k.1, omega (arith, k.2), k.3, k.4)

turn_packet : (out : Origin) (L : List Packet) (i : ℕ) (facts : PacketFacts) → HasTurn (turns_from out 0 L) (Comes i facts)
    → (p : Packet) × (slice_get L i ≡ Some p) × (facts ≡ facts_of out p)
turn_packet out L i facts has =
    let k = turn_facts out 0 L i facts has in
    let place : k.0 ≡ i = omega (arith, k.2) in
    (k.1, subst (λ (j : ℕ). slice_get L j ≡ Some k.1) place k.3, k.4)

no_flush : (out : Origin) (n : ℕ) (L : List Packet) (i v : ℕ) → HasTurn (turns_from out n L) (Flushes i v) → ⊥
no_flush out n [] i v h = h
no_flush out n (p ∷ L) i v (inl e) = cc e
no_flush out n (p ∷ L) i v (inr h) = no_flush out (n + 1) L i v h

pub same_packet : {p q : Packet} → Some p ≡ Some q → p ≡ q
same_packet e = cc

put_noted : (past : History) (i : ℕ) (ms : List FaultNote) → PutFailed past i → NotesTell past ms → HasPut ms i
put_noted [] i ms x t = absurd x
put_noted (Begun a ∷ h) i ms x t = absurd x
put_noted (Fated j f ∷ h) i ms x t = absurd x
put_noted (Want ∷ h) i ms x t = absurd x
put_noted (Tried s j facts answer.Done ∷ h) i ms x t = absurd (cc x.1)
put_noted (Tried s j facts answer.NoMemory ∷ h) i ms x t = absurd (cc x.1)
put_noted (Tried s j facts answer.Fault ∷ h) i ms x t = elim t.4 [
  | inl put ↦ subst (λ (ns : List FaultNote). HasPut ns i) (sym t.2) (at_end t.0 t.1 (put ∙ ap Put x.0))
  | inr begin ↦ absurd (begin.1 x.2)
]
  where
    at_end : (ns : List FaultNote) (n : FaultNote) → n.at ≡ Put i → HasPut (ns ++ n ∷ []) i
    at_end [] n e = inl e
    at_end (m ∷ ns) n e = inr (at_end ns n e)

put_more : (ns rest : List FaultNote) (i : ℕ) → HasPut ns i → HasPut (ns ++ rest) i
put_more [] rest i x = absurd x
put_more (n ∷ ns) rest i (inl e) = inl e
put_more (n ∷ ns) rest i (inr x) = inr (put_more ns rest i x)

-- the notes of the run come first
run_notes : (h : History) (a : Option Answer) (ns : List FaultNote) → EndNotes h a ns → (ms : List FaultNote) × (rest : List FaultNote) × NotesTell h ms × (ns ≡ ms ++ rest)
run_notes h None ns t = (ns, [], t, sym (append-nil ns))
run_notes h (Some answer.Done) ns t = (ns, [], t, sym (append-nil ns))
run_notes h (Some answer.Fault) ns t = (t.0, t.1 ∷ [], t.5, t.2)
run_notes h (Some answer.NoMemory) ns t = (ns, [], t, sym (append-nil ns))

-- the muxer's end is no write of a packet
end_notes : (i : ℕ) (h : History) (a : Option Answer) (ns : List FaultNote) (t : EndNotes h a ns) → PutsAfter i (run_notes h a ns t).1
unfolding run_notes
end_notes i h None ns t = tt
end_notes i h (Some answer.Done) ns t = tt
end_notes i h (Some answer.Fault) ns t = (λ j put. (let x : End ≡ Put j = sym t.4 ∙ put in absurd (cc x)), tt)
end_notes i h (Some answer.NoMemory) ns t = tt

tried_noted : (past : History) (i f : ℕ) → TriedLast past i answer.Fault → f + 1 ≡ notes past → noted past f ≡ Some i
tried_noted [] i f x e = absurd x
tried_noted (Begun a ∷ h) i f x e = absurd x
tried_noted (Fated j u ∷ h) i f x e = absurd x
tried_noted (Want ∷ h) i f x e = absurd x
tried_noted (Tried s j facts answer.Done ∷ h) i f x e = absurd (cc x.1)
tried_noted (Tried s j facts answer.NoMemory ∷ h) i f x e = absurd (cc x.1)
tried_noted (Tried s j facts answer.Fault ∷ h) i f x e = rw (number_same (notes h) f (omega (arith, e))) (ap Some x.0)

-- what the test for the wait says
waits_so : (o : FifoOptions) (dts : ℤ) (s : Option ℤ) → (not (o.wait_ms == 0) && is_below dts s o.wait_ms) ≡ true
    → (o.wait_ms ≢ 0) × ((d : ℤ) × (s ≡ Some d) × (int_lt (dts -ℤ d) (pos o.wait_ms) ≡ true))
waits_so o dts s e = by o.wait_ms (o.wait_ms == 0) refl s e
  where
    by : (w : ℕ) (b : Bool) → (w == 0) ≡ b → (s : Option ℤ) → (not b && is_below dts s w) ≡ true → (w ≢ 0) × ((d : ℤ) × (s ≡ Some d) × (int_lt (dts -ℤ d) (pos w) ≡ true))
    by w true is s e = absurd (cc e)
    by w false is None e = absurd (cc e)
    by w false is (Some d) e = (λ z. (let t : (w == 0) ≡ true = number_same w 0 z in let x : true ≡ false = sym t ∙ is in cc x), (d, refl, e))

-- an output that was given up settles no other fate
after_dead : (o : FifoOptions) (past : History) (i f : ℕ) (facts : PacketFacts) (u : Fate) → mode_of o past ≡ Dead f → mode_is_dead (mode_of o past) ≡ true
    → (TriedLast past i answer.Fault → ⊥) → Cause o past i facts u → (u ≡ fate.AfterFailure f) ⊎ (u ≡ fate.NoMemory)
after_dead o past i f facts (fate.Written s) d dead untried k =
    let x : Live ≡ Dead f = sym (taken_live o past i k.1) ∙ d in absurd (cc x)
after_dead o past i f facts (fate.Refused v) d dead untried k = absurd k
after_dead o past i f facts (fate.Flushed v) d dead untried k = absurd k
after_dead o past i f facts fate.KeyWait d dead untried k = (let x : true ≡ false = sym dead ∙ k.1 in absurd (cc x))
after_dead o past i f facts (fate.Lost v) d dead untried k = elim k.2 [
  | inl t ↦ absurd (untried t)
  | inr w ↦ (let x : true ≡ false = sym dead ∙ w.0 in absurd (cc x))
]
after_dead o past i f facts (fate.AfterFailure v) d dead untried k =
    let x : Dead v ≡ Dead f = sym k.1 ∙ d in
    let same : v ≡ f = cc in
    inl (ap fate.AfterFailure same)
after_dead o past i f facts fate.NoMemory d dead untried k = inr refl

untried_dead : (o : FifoOptions) (ts : List Turn) (past : History) (i j f : ℕ) → Caused o ts past → Has (fates_of past) i (fate.AfterFailure f) → TriedLast past j answer.Fault → ⊥
untried_dead o ts [] i j f c x t = t
untried_dead o ts (Begun a ∷ h) i j f c x t = t
untried_dead o ts (Fated k u ∷ h) i j f c x t = t
untried_dead o ts (Want ∷ h) i j f c x t = t
untried_dead o ts (Tried s k facts a ∷ h) i j f c x t =
    let dead = stays_dead o ts h i f c.1 x in
    let y : true ≡ false = rw dead at c.0.2 in
    cc y

after_want : (o : FifoOptions) (past : History) (i : ℕ) (facts : PacketFacts) (u : Fate) → wanted past ≡ true → Cause o past i facts u → u ≡ fate.NoMemory
after_want o past i facts (fate.Written s) w k = (let x : true ≡ false = sym w ∙ k.0 in absurd (cc x))
after_want o past i facts (fate.Refused v) w k = absurd k
after_want o past i facts (fate.Flushed v) w k = absurd k
after_want o past i facts fate.KeyWait w k = (let x : true ≡ false = sym w ∙ k.0 in absurd (cc x))
after_want o past i facts (fate.Lost v) w k = (let x : true ≡ false = sym w ∙ k.0 in absurd (cc x))
after_want o past i facts (fate.AfterFailure v) w k = (let x : true ≡ false = sym w ∙ k.0 in absurd (cc x))
after_want o past i facts fate.NoMemory w k = refl

-- and none for a packet that is flushed
turn_dead : (o : FifoOptions) (past : History) (i f : ℕ) (u : Fate) (t : Turn) → mode_of o past ≡ Dead f → mode_is_dead (mode_of o past) ≡ true
    → (TriedLast past i answer.Fault → ⊥) → ((v : ℕ) → u ≡ fate.Flushed v → mode_is_dead (mode_of o past) ≡ false) → TurnCause o past i t u → (u ≡ fate.AfterFailure f) ⊎ (u ≡ fate.NoMemory)
turn_dead o past i f u (Comes j facts) d dead untried alive k = after_dead o past i f facts u d dead untried k.1
turn_dead o past i f (fate.Written s) (Flushes j n) d dead untried alive k = absurd k.1
turn_dead o past i f (fate.Refused v) (Flushes j n) d dead untried alive k = absurd k.1
turn_dead o past i f (fate.Flushed v) (Flushes j n) d dead untried alive k = (let x : true ≡ false = sym dead ∙ alive v refl in absurd (cc x))
turn_dead o past i f fate.KeyWait (Flushes j n) d dead untried alive k = absurd k.1
turn_dead o past i f (fate.Lost v) (Flushes j n) d dead untried alive k = absurd k.1
turn_dead o past i f (fate.AfterFailure v) (Flushes j n) d dead untried alive k =
    let x : Dead v ≡ Dead f = sym k.1.1 ∙ d in
    let same : v ≡ f = cc in
    inl (ap fate.AfterFailure same)
turn_dead o past i f fate.NoMemory (Flushes j n) d dead untried alive k = inr refl

turn_want : (o : FifoOptions) (past : History) (i : ℕ) (u : Fate) (t : Turn) → wanted past ≡ true → TurnCause o past i t u → u ≡ fate.NoMemory
turn_want o past i u (Comes j facts) w k = after_want o past i facts u w k.1
turn_want o past i (fate.Written s) (Flushes j n) w k = absurd k.1
turn_want o past i (fate.Refused v) (Flushes j n) w k = absurd k.1
turn_want o past i (fate.Flushed v) (Flushes j n) w k = (let x : true ≡ false = sym w ∙ k.1.0 in absurd (cc x))
turn_want o past i fate.KeyWait (Flushes j n) w k = absurd k.1
turn_want o past i (fate.Lost v) (Flushes j n) w k = absurd k.1
turn_want o past i (fate.AfterFailure v) (Flushes j n) w k = (let x : true ≡ false = sym w ∙ k.1.0 in absurd (cc x))
turn_want o past i fate.NoMemory (Flushes j n) w k = refl

never_refused : (o : FifoOptions) (past : History) (i v : ℕ) (t : Turn) → TurnCause o past i t (fate.Refused v) → ⊥
never_refused o past i v (Comes j facts) k = k.1
never_refused o past i v (Flushes j n) k = k.1

-- the end says that memory was wanted
pub end_wanted : (o : FifoOptions) (h : History) (a : Option Answer) → wanted h ≡ true → is_some a ≡ is_live o h → end_of h a ≡ ends.NoMemory
end_wanted o h None w e = rw w refl
end_wanted o h (Some b) w e = (let x : true ≡ false = rw w at e in absurd (cc x))

abbrev notes_in : History → ℕ
notes_in h = notes h

order_of : (i j : ℕ) → (i < j) ⊎ (i ≡ j) ⊎ (j < i)
order_of zero zero = inr (inl refl)
order_of zero (suc j) = inl (omega arith)
order_of (suc i) zero = inr (inr (omega arith))
order_of (suc i) (suc j) = elim (order_of i j) [ inl a ↦ inl (omega (arith, a)) | inr b ↦ elim b [ inl e ↦ inr (inl (ap suc e)) | inr c ↦ inr (inr (omega (arith, c))) ] ]

-- Fates that are those of a history, but that a run without memory may go on over more packets. Packets have indices by this relation.
module _ (out : Origin) (o : FifoOptions) (ts : List Turn) (At : ℕ → Packet → Type 0) (h : History) (end : ℕ) (fates : List (ℕ × Fate)) (notes : List FaultNote) (a : Option Answer)
    (caused : Caused o ts h) (alive : Alive o h) (rises : Rises h end) (only : OnlyTried h end)
    (told : (i : ℕ) (f : Fate) → (f ≡ fate.NoMemory → ⊥) → Has fates i f → Has (fates_of h) i f)
    (back : (i : ℕ) (f : Fate) → Has (fates_of h) i f → Has fates i f)
    (packet : (i : ℕ) (facts : PacketFacts) → HasTurn ts (Comes i facts) → (p : Packet) × At i p × (facts ≡ facts_of out p))
    (same_at : (i : ℕ) (p q : Packet) → At i p → At i q → p ≡ q)
    (noted_all : EndNotes h a notes) where
  find : (i : ℕ) (f : Fate) → Has (fates_of h) i f → Found o ts h i f
  find i f x = found o ts h end i f caused alive rises only x

  -- the cause of a packet's fate
  packet_cause : (past : History) (i : ℕ) (f : Fate) (t : Turn) → HasTurn ts t → TurnCause o past i t f → ((v : ℕ) → FlushCause o past v f → ⊥)
      → (p : Packet) × At i p × Cause o past i (facts_of out p) f
  packet_cause past i f (Flushes j v) has cause none = absurd (none v cause.1)
  packet_cause past i f (Comes j facts) has cause none =
      let k = packet j facts has in
      (k.0, subst (λ (x : ℕ). At x k.0) cause.0 k.1, subst (λ (x : PacketFacts). Cause o past i x f) k.2 cause.1)

  -- the note with that number, of a packet that was tried
  hit : (f j : ℕ) → noted h f ≡ Some j → (n : FaultNote) × (slice_get notes f ≡ Some n) × IsHit fates f n j
  hit f j at =
      let run = run_notes h a notes noted_all in
      let n = note_at_fault h run.0 f j run.2 at in
      let here : slice_get notes f ≡ Some n.0 = subst (λ (ns : List FaultNote). slice_get ns f ≡ Some n.0) (sym run.3) (get_front run.0 run.1 f n.0 n.1) in (
        n.0,
        here,
        elim n.2 [
          | inl put ↦ inl put
          | inr begin ↦ inr (begin, λ i x. lost_first o ts h end f j i caused rises at (told i (fate.Lost f) (λ e. cc e) x))
        ],
      )

  pub key_wait_so : (i : ℕ) (p : Packet) → Has fates i fate.KeyWait → At i p → MayWait out o fates notes i p
  key_wait_so i p x at =
      let d = find i fate.KeyWait (told i fate.KeyWait (λ e. cc e) x) in
      let c = packet_cause d.past i fate.KeyWait d.turn d.has d.cause (λ v y. y) in
      let same : c.0 ≡ p = same_at i c.0 p c.1 at in
      let restart : is_restart p (video_of out.streams.streams.items) ≡ false = rw same at c.2.3 in (
        c.2.2,
        c.2.4,
        restart,
        elim c.2.5 [
          | inl none ↦ inl (λ s y.
              (let was = d.before (i - 1) (fate.Written s) (omega (arith, c.2.4)) (told (i - 1) (fate.Written s) (λ e. cc e) y) in
              let t : true ≡ false = sym (has_written d.past (i - 1) s was) ∙ none s in
              cc t))
          | inr put ↦ inr (let run = run_notes h a notes noted_all in
              let was = d.told run.0 run.2 in
              let first = put_more was.0 was.1 i (put_noted d.past i was.0 put was.2) in
              let all = put_more run.0 run.1 i (subst (λ (ns : List FaultNote). HasPut ns i) (sym was.3) first) in
              subst (λ (ns : List FaultNote). HasPut ns i) (sym run.3) all)
        ],
      )

  -- the notes that come behind the last before a packet are those of later packets
  last_so : (i f : ℕ) (d : Found o ts h i (fate.Lost f)) → Has fates i (fate.Lost f) → f + 1 ≡ notes_in d.past → IsLastBefore fates notes f i
  last_so i f d x count g j m lt at (inl put) =
      let run = run_notes h a notes noted_all in
      let was = d.told run.0 run.2 in
      let few = notes_count d.past was.0 was.2 in
      let all : notes ≡ was.0 ++ (was.1 ++ run.1) = run.3 ∙ ap (λ (ns : List FaultNote). ns ++ run.1) was.3 ∙ append_assoc was.0 was.1 run.1 in
      puts_get i was.0 (was.1 ++ run.1) g j m (puts_push i was.1 run.1 was.4 (end_notes i h a notes noted_all)) (omega (arith, few, count, lt))
      (subst (λ (ns : List FaultNote). slice_get ns g ≡ Some m) all at) put
  last_so i f d x count g j m lt at (inr y) =
      let there = told j (fate.Lost g) (λ e. cc e) y in
      elim (order_of i j) [
        | inl less ↦ less
        | inr more ↦ elim more [
          | inl same ↦ (let e = above_once 0 (fates_of h) i (fate.Lost f) (fate.Lost g) (rises_above h end rises) (told i (fate.Lost f) (λ z. cc z) x) (subst (λ (k : ℕ). Has (fates_of h) k (fate.Lost g)) (sym same) there) in
              let number : f ≡ g = cc in
              absurd (omega (arith, number, lt)))
          | inr less ↦ (let z = lost_notes o ts d.past j g d.caused (d.before j (fate.Lost g) less there) in absurd (omega (arith, z, count, lt)))
        ]
      ]

  pub lost_so : (i f : ℕ) (p : Packet) → Has fates i (fate.Lost f) → At i p → MayBeLost o At fates notes i f p
  lost_so i f p x at =
      let d = find i (fate.Lost f) (told i (fate.Lost f) (λ e. cc e) x) in
      let c = packet_cause d.past i (fate.Lost f) d.turn d.has d.cause (λ v y. y) in
      let same : c.0 ≡ p = same_at i c.0 p c.1 at in
      elim c.2.2 [
        | inl tried ↦ (let n = hit f i (d.later f i (tried_noted d.past i f tried c.2.1)) in (n.0, n.1, inl n.2))
        | inr waits ↦ (let w = waits_so o c.0.dts (since d.past) waits.2 in
            let last = last_fault o ts d.past w.1.0 d.caused w.1.1 in
            let n = hit f last.0 (d.later f last.0 (last.4 f c.2.1)) in
            let q = packet last.0 last.1 last.2 in
            let time : q.0.dts ≡ w.1.0 = sym (ap (λ (facts : PacketFacts). facts.dts) q.2) ∙ last.3 in (
              n.0,
              n.1,
              inr (record {
                recovers = waits.1;
                waits = w.0;
                index = last.0;
                packet = q.0;
                at = q.1;
                hit = n.2;
                earlier = tries_below o ts d.past i f last.0 d.caused d.rises d.only (last.4 f c.2.1);
                last = last_so i f d x c.2.1;
                early = rw (time, ← same) w.1.2;
              }),
            ))
      ]

  pub restart_so : (i s : ℕ) (p : Packet) → o.restart ≡ true → Has fates i (fate.Written s) → At i p → MayStand out fates i s p
  restart_so i s p asked x at =
      let d = find i (fate.Written s) (told i (fate.Written s) (λ e. cc e) x) in
      let c = packet_cause d.past i (fate.Written s) d.turn d.has d.cause (λ v y. y) in
      let same : c.0 ≡ p = same_at i c.0 p c.1 at in
      elim (c.2.3 asked) [
        | inl z ↦ inl (rw same at z)
        | inr b ↦ elim b [
          | inl z ↦ inr (inl z)
          | inr w ↦ inr (inr (back (i - 1) (fate.Written s) (d.within (i - 1) (fate.Written s) (written_has d.past (i - 1) s w))))
        ]
      ]

  pub failed_so : (i f : ℕ) → Has fates i (fate.AfterFailure f) → (f < length notes)
      × ((j : ℕ) (u : Fate) → i < j → Has (fates_of h) j u → (u ≡ fate.AfterFailure f) ⊎ (u ≡ fate.NoMemory))
  failed_so i f x =
      let there = told i (fate.AfterFailure f) (λ e. cc e) x in
      let d = find i (fate.AfterFailure f) there in
      let run = run_notes h a notes noted_all in
      let was = d.told run.0 run.2 in
      let count = notes_count d.past was.0 was.2 in
      let number = dead_number o d.past f (stopped_at d.past i f d.turn d.cause) in
      let few : length notes ≡ (length was.0 + length was.1) + length run.1
      = ap length run.3 ∙ length-append run.0 run.1 ∙ ap (λ (n : ℕ). n + length run.1) (ap length was.3 ∙ length-append was.0 was.1) in (
        omega (arith, few, count, number),
        λ j u lt y.
            (let n = find j u y in
            let here = n.before i (fate.AfterFailure f) lt there in
            let dead = stays_dead o ts n.past i f n.caused here in
            turn_dead o n.past j f u n.turn dead (rw dead refl) (untried_dead o ts n.past i j f n.caused here) n.alive n.cause),
      )
    where
      stopped_at : (past : History) (i f : ℕ) (t : Turn) → TurnCause o past i t (fate.AfterFailure f) → mode_of o past ≡ Dead f
      stopped_at past i f (Comes j facts) cause = cause.1.1
      stopped_at past i f (Flushes j v) cause = cause.1.1

  pub wanted_so : (i : ℕ) → Has (fates_of h) i fate.NoMemory → wanted h ≡ true
  wanted_so i x = stays_wanted o ts h i caused x

  pub want_stays : (i j : ℕ) (u : Fate) → Has (fates_of h) i fate.NoMemory → i < j → Has (fates_of h) j u → u ≡ fate.NoMemory
  want_stays i j u x lt y =
      let n = find j u y in
      let here = n.before i fate.NoMemory lt x in
      turn_want o n.past j u n.turn (stays_wanted o ts n.past i n.caused here) n.cause

  pub refused_so : (i v : ℕ) → Has fates i (fate.Refused v) → ⊥
  refused_so i v x =
      let d = find i (fate.Refused v) (told i (fate.Refused v) (λ e. cc e) x) in
      never_refused o d.past i v d.turn d.cause

  -- a packet with the fate Flushed was flushed by that number
  pub flushed_so : (i v : ℕ) → Has fates i (fate.Flushed v) → HasTurn ts (Flushes i v)
  flushed_so i v x = (let d = find i (fate.Flushed v) (told i (fate.Flushed v) (λ e. cc e) x) in by d.past d.turn d.has d.cause)
    where
      by : (past : History) (t : Turn) → HasTurn ts t → TurnCause o past i t (fate.Flushed v) → HasTurn ts (Flushes i v)
      by past (Comes j facts) has cause = absurd cause.1
      by past (Flushes j n) has cause = rw (← cause.0, cause.1.1) has

  -- the turn of a packet
  pub turn_so : (i : ℕ) (f : Fate) → Has (fates_of h) i f → (t : Turn) × HasTurn ts t × ((past : History) × TurnCause o past i t f)
  turn_so i f x = (let d = find i f x in (d.turn, d.has, (d.past, d.cause)))

module _ {out : Origin} {o : FifoOptions} {L : List Packet} {e : EndView} (k : Ended out o L e) where
  caused : Caused o (turns_from out 0 L) k.history
  caused = each_caused o (turns_from out 0 L) k.history (in_turn out 0 L) k.follows

  told : (i : ℕ) (f : Fate) → Has (expand e.fates) i f → Has (fates_of k.history) i f
  told i f x = subst (λ (xs : List (ℕ × Fate)). Has xs i f) k.fates x

  back : (i : ℕ) (f : Fate) → Has (fates_of k.history) i f → Has (expand e.fates) i f
  back i f x = subst (λ (xs : List (ℕ × Fate)). Has xs i f) (sym k.fates) x

pub accounts_met : EndsMeetAccounts
accounts_met out o L e k =
    let ts = turns_from out 0 L in
    let c = caused k in
    let l = each_alive o ts k.history k.follows in
    let r = indexed_rises k.history k.indexed in
    let n = length (fates_of k.history) in
    let fin = all_settled o n ts k.history k.follows in
    let t : (i : ℕ) (f : Fate) → (f ≡ fate.NoMemory → ⊥) → Has (expand e.fates) i f → Has (fates_of k.history) i f = λ i f other x. told k i f x in
    let s : (i : ℕ) (p q : Packet) → slice_get L i ≡ Some p → slice_get L i ≡ Some q → p ≡ q = λ i p q x y. same_packet (sym x ∙ y) in
    record {
      order = k.order;
      covers = λ i lt. (let r = indexed_has 0 (fates_of k.history) i k.indexed (omega arith) (omega (arith, k.count, lt)) in (r.0, back k i r.0 r.1));
      within = λ i f x. (let r = indexed_within 0 (fates_of k.history) i f k.indexed (told k i f x) in omega (arith, r.1, k.count));
      once = λ i f h x y. indexed_once 0 (fates_of k.history) i f h k.indexed (told k i f x) (told k i h y);
      refused = refused_so out o ts (StandsAt L) k.history n (expand e.fates) e.faults k.end_answer c l r fin t (back k) (turn_packet out L) s k.notes;
      flushed = λ i v x. no_flush out 0 L i v (flushed_so out o ts (StandsAt L) k.history n (expand e.fates) e.faults k.end_answer c l r fin t (back k) (turn_packet out L) s k.notes i v x);
      key_wait = key_wait_so out o ts (StandsAt L) k.history n (expand e.fates) e.faults k.end_answer c l r fin t (back k) (turn_packet out L) s k.notes;
      lost = lost_so out o ts (StandsAt L) k.history n (expand e.fates) e.faults k.end_answer c l r fin t (back k) (turn_packet out L) s k.notes;
      after_failure = λ i f x. (let q = failed_so out o ts (StandsAt L) k.history n (expand e.fates) e.faults k.end_answer c l r fin t (back k) (turn_packet out L) s k.notes i f x in
          (q.0, λ j u lt y. q.1 j u lt (told k j u y)));
      no_memory = λ i x. (
        k.state ∙ end_wanted o k.history k.end_answer (wanted_so out o ts (StandsAt L) k.history n (expand e.fates) e.faults k.end_answer c l r fin t (back k) (turn_packet out L) s k.notes i (told k i fate.NoMemory x)) k.end_called,
        λ j u lt y. want_stays out o ts (StandsAt L) k.history n (expand e.fates) e.faults k.end_answer c l r fin t (back k) (turn_packet out L) s k.notes i j u (told k i fate.NoMemory x) lt (told k j u y),
      );
      notes = rw k.are_faults (notes_rise out (StandsAt L) out.shelf (with_count e.shelf k.before k.added) k.rows k.chain k.each);
      restart = restart_so out o ts (StandsAt L) k.history n (expand e.fates) e.faults k.end_answer c l r fin t (back k) (turn_packet out L) s k.notes;
    }

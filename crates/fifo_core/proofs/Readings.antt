-- What is kept tells what the history does.
use Rattle.std.proofs.Common.{◌≡◌, ℕ, ◌+◌, ◌-◌, ◌≤◌, ◌<◌, Bool, true, false, ◌&&◌, ◌||◌, ◌==◌, [], ◌∷◌, Option, Some, None, ℤ, refl, ap, sym, ◌∙◌, arith, if◌then◌else◌}
use Rattle.std.proofs.lemmas.Bool.Decides.{nat_tests}
use Rattle.fifo_core.specs.declared.types.FifoOptions.{FifoOptions}
use Rattle.fifo_core.specs.declared.types.PacketFacts.{PacketFacts}
use Rattle.fifo_core.specs.declared.types.Mode.{Mode}
use Rattle.fifo_core.specs.declared.types.Mode.TheVariants.{Live, Broken, Dead}
use Rattle.fifo_core.specs.declared.types.Fate.{Fate}
use Rattle.fifo_core.specs.declared.types.Fate.TheVariants as fate
use Rattle.fifo_core.specs.declared.types.Answer.TheVariants as answer
use Rattle.fifo_core.specs.declared.types.Action.TheVariants as action
use Rattle.fifo_core.specs.History.{Begun, Tried, Fated, Want, History, mode_of, session_of, is_written, needs_restart, mode_is_live, trying, action_of, is_spent, streak, notes}
use Rattle.fifo_core.specs.Kept.{last_is, needs_by, mode_by, tries_by}
use Rattle.fifo_core.specs.State.{Rises, last_written, Kept, Reads, action_by}

-- nothing is written at or past the next index
pub not_written : (h : History) (n j s : ℕ) → Rises h n → n ≤ j → is_written h j s ≡ false
not_written [] n j s r le = refl
not_written (Begun a ∷ h) n j s r le = not_written h n j s r le
not_written (Tried t i facts a ∷ h) n j s r le = not_written h n j s r le
not_written (Want ∷ h) n j s r le = not_written h n j s r le
not_written (Fated i f ∷ h) n j s r le =
    let below : i < j = omega (arith, r.0) in
    let other : (i == j) ≡ false = grind (arith, nat_tests) in
    let rest : is_written h j s ≡ false = not_written h i j s r.1 (omega arith) in
    rw (other, rest)

past_other : (i j : ℕ) {a b : Bool} → a ≡ b → (((i == j) && false) || a) ≡ b
past_other i j e = rw (and_false (i == j)) e
  where
    and_false : (x : Bool) → (x && false) ≡ false
    and_false true = refl
    and_false false = refl

-- whether the packet before the next was written is told by the last one that was
pub last_tells : (h : History) (n j s : ℕ) → Rises h n → n ≤ j + 1 → is_written h j s ≡ last_is (last_written h) j s
last_tells [] n j s r le = refl
last_tells (Begun a ∷ h) n j s r le = last_tells h n j s r le
last_tells (Tried t i facts a ∷ h) n j s r le = last_tells h n j s r le
last_tells (Want ∷ h) n j s r le = last_tells h n j s r le
last_tells (Fated i (fate.Written t) ∷ h) n j s r le =
    let rest : is_written h j s ≡ false = not_written h i j s r.1 (omega (arith, r.0)) in
    rw rest (or_false ((i == j) && (t == s)))
  where
    or_false : (b : Bool) → (b || false) ≡ b
    or_false true = refl
    or_false false = refl
last_tells (Fated i (fate.Refused v) ∷ h) n j s r le = past_other i j (last_tells h i j s r.1 (omega (arith, r.0)))
last_tells (Fated i (fate.Flushed v) ∷ h) n j s r le = past_other i j (last_tells h i j s r.1 (omega (arith, r.0)))
last_tells (Fated i fate.KeyWait ∷ h) n j s r le = past_other i j (last_tells h i j s r.1 (omega (arith, r.0)))
last_tells (Fated i (fate.Lost v) ∷ h) n j s r le = past_other i j (last_tells h i j s r.1 (omega (arith, r.0)))
last_tells (Fated i (fate.AfterFailure v) ∷ h) n j s r le = past_other i j (last_tells h i j s r.1 (omega (arith, r.0)))
last_tells (Fated i fate.NoMemory ∷ h) n j s r le = past_other i j (last_tells h i j s r.1 (omega (arith, r.0)))

pub needs_kept : (o : FifoOptions) (h : History) (i : ℕ) (facts : PacketFacts) (n : ℕ) → Rises h n → n ≤ i
    → needs_by o (mode_of o h) (last_written h) (session_of h) i facts ≡ needs_restart o h i facts
needs_kept o h i facts n r le = rw (last_tells h n (i - 1) (session_of h) r (omega arith))

pub Rises_more : (h : History) (n m : ℕ) → Rises h n → n ≤ m → Rises h m
Rises_more [] n m r le = tt
Rises_more (Begun a ∷ h) n m r le = Rises_more h n m r le
Rises_more (Tried s i facts a ∷ h) n m r le = Rises_more h n m r le
Rises_more (Want ∷ h) n m r le = Rises_more h n m r le
Rises_more (Fated i f ∷ h) n m r le = (omega (arith, r.0), r.1)

-- a packet has its fate at once
pub settles : {o : FifoOptions} {h : History} {k : Kept} (i : ℕ) (f : Fate) → Reads o h None k → k.next ≤ i
    → last_written (Fated i f ∷ h) ≡ last_written h → Reads o (Fated i f ∷ h) None (record k { next = i + 1 })
settles {h = h} {k = k} i f r le same = record {
  options = r.options;
  mode = r.mode;
  attempts = r.attempts;
  since = r.since;
  session = r.session;
  notes = r.notes;
  wanted = r.wanted;
  written = r.written ∙ sym same;
  rises = (omega arith, Rises_more h k.next i r.rises le);
  in_hand = r.in_hand;
}

-- a packet is in hand
pub takes : {o : FifoOptions} {h : History} {k : Kept} (i : ℕ) (facts : PacketFacts) (s : ℕ) → Reads o h None k → k.next ≤ i
    → s ≡ trying o h → Reads o h (Some (i, facts)) (record k { next = i + 1; hand = Some (i, facts); session = s })
takes {h = h} {k = k} i facts s r le e = record {
  options = r.options;
  mode = r.mode;
  attempts = r.attempts;
  since = r.since;
  session = e;
  notes = r.notes;
  wanted = r.wanted;
  written = r.written;
  rises = (omega arith, Rises_more h k.next i r.rises le);
  in_hand = refl;
}

pub action_kept : {o : FifoOptions} {h : History} {k : Kept} (i : ℕ) (facts : PacketFacts) → Reads o h None k → k.next ≤ i
    → action_by k i facts ≡ action_of o h i facts
action_kept {o = o} {h = h} {k = k} i facts r le =
    rw (r.options, r.wanted, r.mode, r.since, r.written, r.session, needs_kept o h i facts k.next r.rises le)

pub trying_live : {o : FifoOptions} {h : History} {k : Kept} → Reads o h None k → k.mode ≡ Live → k.session ≡ trying o h
trying_live r e = rw (sym r.mode ∙ e) r.session

pub trying_broken : {o : FifoOptions} {h : History} {k : Kept} (f : ℕ) → Reads o h None k → k.mode ≡ Broken f → k.session + 1 ≡ trying o h
trying_broken f r e = rw (sym r.mode ∙ e) (ap (λ n. n + 1) r.session)

pub action_live : (k : Kept) (i : ℕ) (facts : PacketFacts) (b : Bool) → k.wanted ≡ false → k.mode ≡ Live
    → needs_by k.options k.mode k.written k.session i facts ≡ b
    → (if b then action.Settle fate.KeyWait else action.Write) ≡ action_by k i facts
action_live k i facts b w m n = rw (w, n, m)

tries_is : (o : FifoOptions) (n f : ℕ)
    → tries_by (if n == 0 then Live else (if is_spent o (n - 1) then Dead f else Broken f)) (n - 1) ≡ n
tries_is o n f = grind (arith, nat_tests)

noted_mode : (o : FifoOptions) (n f : ℕ)
    → mode_by o n f ≡ (if (n + 1) == 0 then Live else (if is_spent o ((n + 1) - 1) then Dead ((f + 1) - 1) else Broken ((f + 1) - 1)))
noted_mode o n f =
    let some : ((n + 1) == 0) ≡ false = grind (arith, nat_tests) in
    let same : (n + 1) - 1 ≡ n = omega arith in
    let last : (f + 1) - 1 ≡ f = omega arith in
    rw (some, same, last)

pub closed : (o : FifoOptions) (n f : ℕ)
    → mode_is_live (if (n + 1) == 0 then Live else (if is_spent o ((n + 1) - 1) then Dead ((f + 1) - 1) else Broken ((f + 1) - 1))) ≡ false
closed o n f = rw (sym (noted_mode o n f)) (either (is_spent o n) f)
  where
    either : (b : Bool) (f : ℕ) → mode_is_live (if b then Dead f else Broken f) ≡ false
    either true f = refl
    either false f = refl

-- the tries that a fault ends are the faults since the last packet that was written
tries_now : {o : FifoOptions} {h : History} {hand : Option (ℕ × PacketFacts)} {k : Kept} (tries : ℕ)
    → Reads o h hand k → tries ≡ tries_by k.mode k.attempts → tries ≡ streak h
tries_now {o = o} {h = h} tries r e = e ∙ rw (r.mode, r.attempts) (tries_is o (streak h) (notes h - 1))

-- a fault settles the packet in hand
pub faulted : {o : FifoOptions} {h : History} {k : Kept} (i : ℕ) (facts : PacketFacts) (f : Fate) (tries : ℕ) (m : Mode) (dts : ℤ)
    → Reads o h (Some (i, facts)) k → tries ≡ tries_by k.mode k.attempts → m ≡ mode_by k.options tries k.notes → dts ≡ facts.dts
    → ((g : History) → last_written (Fated i f ∷ g) ≡ last_written g)
    → Reads o (Fated i f ∷ Tried (trying o h) i facts answer.Fault ∷ h) None
    (record k { mode = m; attempts = tries; since = Some dts; notes = k.notes + 1; hand = None })
faulted {o = o} {h = h} {k = k} i facts f tries m dts r e is_m is_dts same =
    let now = tries_now tries r e in
    record {
      options = r.options;
      mode = is_m ∙ rw (r.options, now, r.notes) (noted_mode o (streak h) (notes h));
      attempts = omega (arith, now);
      since = ap Some is_dts;
      session = r.session;
      notes = ap (λ n. n + 1) r.notes;
      wanted = r.wanted;
      written = r.written ∙ sym (same _);
      rises = r.rises;
      in_hand = refl;
    }

-- the packet in hand was written
pub written : {o : FifoOptions} {h : History} {k : Kept} (i : ℕ) (facts : PacketFacts) → Reads o h (Some (i, facts)) k
    → Reads o (Fated i (fate.Written k.session) ∷ Tried (trying o h) i facts answer.Done ∷ h) None
    (record k { mode = Live; attempts = 0; written = Some (i, k.session); hand = None })
written i facts r = record {
  options = r.options;
  mode = refl;
  attempts = refl;
  since = r.since;
  session = r.session;
  notes = r.notes;
  wanted = r.wanted;
  written = refl;
  rises = r.rises;
  in_hand = refl;
}

-- the muxer took the packet in hand after memory was wanted for a record
pub unrecorded : {o : FifoOptions} {h : History} {k : Kept} (i : ℕ) (facts : PacketFacts) → Reads o h (Some (i, facts)) k
    → Reads o (Fated i fate.NoMemory ∷ Tried (trying o h) i facts answer.Done ∷ h) None
    (record k { mode = Live; attempts = 0; hand = None })
unrecorded i facts r = record {
  options = r.options;
  mode = refl;
  attempts = refl;
  since = r.since;
  session = r.session;
  notes = r.notes;
  wanted = r.wanted;
  written = r.written;
  rises = r.rises;
  in_hand = refl;
}

-- memory was wanted for the packet in hand
pub refused : {o : FifoOptions} {h : History} {k : Kept} (i : ℕ) (facts : PacketFacts) → Reads o h (Some (i, facts)) k
    → Reads o (Fated i fate.NoMemory ∷ Tried (trying o h) i facts answer.NoMemory ∷ h) None
    (record k { wanted = true; hand = None })
refused i facts r = record {
  options = r.options;
  mode = r.mode;
  attempts = r.attempts;
  since = r.since;
  session = r.session;
  notes = r.notes;
  wanted = refl;
  written = r.written;
  rises = r.rises;
  in_hand = refl;
}

pub same_index : {hand : Option (ℕ × PacketFacts)} {i j : ℕ} {p q : PacketFacts} → hand ≡ Some (i, p) → hand ≡ Some (j, q) → i ≡ j
same_index {i = i} {j = j} {p = p} {q = q} e d =
    let pair : (i, p) ≡ (j, q) = cc in
    ap (λ (x : ℕ × PacketFacts). x.0) pair

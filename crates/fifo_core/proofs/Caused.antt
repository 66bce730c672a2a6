-- Every fate has its cause.
use Rattle.std.proofs.Common.{◌≡◌, ◌≢◌, ℕ, ◌+◌, ◌-◌, ◌≤◌, ◌⊎◌, inl, inr, Bool, true, false, not, ◌&&◌, ◌||◌, ◌==◌, nat_le, if◌then◌else◌, List, [], ◌∷◌, Option, Some, None, refl, ap, sym, ◌∙◌, subst, arith}
use Rattle.std.proofs.lemmas.Bool.Decides.{nat_tests}
use Rattle.fifo_core.specs.declared.types.FifoOptions.{FifoOptions}
use Rattle.fifo_core.specs.declared.types.PacketFacts.{PacketFacts}
use Rattle.fifo_core.specs.declared.types.Answer.{Answer}
use Rattle.fifo_core.specs.declared.types.Action.{Action}
use Rattle.fifo_core.specs.declared.types.Action.TheVariants as action
use Rattle.fifo_core.specs.declared.types.After.{After}
use Rattle.fifo_core.specs.declared.types.After.TheVariants as after
use Rattle.fifo_core.specs.History.{Begun, Tried, Fated, Want, History, action_of, after_of, trying}
use Rattle.fifo_core.specs.Follows.{Turn, Comes, Flushes, MayWant, Turned, Acted, FirstTry, Answered, SecondTry, Settled, Runs}
use Rattle.fifo_core.specs.State.{Rises}
use Rattle.fifo_core.proofs.Readings.{not_written, Rises_more}
use Rattle.fifo_core.specs.declared.types.Answer.TheVariants as answer
use Rattle.fifo_core.specs.declared.types.Fate.{Fate}
use Rattle.fifo_core.specs.declared.types.Fate.TheVariants as fate
use Rattle.fifo_core.specs.declared.types.Mode.{Mode}
use Rattle.fifo_core.specs.declared.types.Mode.TheVariants.{Live, Broken, Dead}
use Rattle.fifo_core.specs.History.{notes, wanted, mode_of, mode_is_live, mode_is_dead, session_of, is_waiting, is_written, is_written_fate, needs_restart, action_in, streak, attempts, is_spent, flushed_in, flush_of, after_answer_of}
use Rattle.fifo_core.specs.Causes.{Cause, FlushCause, HasTurn, InTurn, turn_index, TriedLast, OnlyTried, Caused, EachFateIsCaused}

-- what the test for a gap says
needed : (r fr z l : Bool) → (r && not fr && not z && not l) ≡ true → (r ≡ true) × (fr ≡ false) × (z ≡ false) × (l ≡ false)
needed true false false false e = (refl, refl, refl, refl)
needed true false false true e = absurd (cc e)
needed true false true l e = absurd (cc e)
needed true true z l e = absurd (cc e)
needed false fr z l e = absurd (cc e)

not_needed : (r fr z l : Bool) → (r && not fr && not z && not l) ≡ false → r ≡ true → (fr ≡ true) ⊎ (z ≡ true) ⊎ (l ≡ true)
not_needed false fr z l e t = absurd (cc t)
not_needed true true z l e t = inl refl
not_needed true false true l e t = inr (inl refl)
not_needed true false false true e t = inr (inr refl)
not_needed true false false false e t = absurd (cc e)

both_true : (a b : Bool) → (a && b) ≡ true → (a ≡ true) × (b ≡ true)
both_true true b e = (refl, e)
both_true false b e = absurd (cc e)

not_zero : (i : ℕ) → (i == 0) ≡ false → i ≢ 0
not_zero i e z = let t : ((0 == 0) ≡ false) = rw z at e in cc t

is_zero : (i : ℕ) → (i == 0) ≡ true → i ≡ 0
is_zero i e = grind (arith, nat_tests)

write_need : (w : Bool) (m : Mode) (wait needs : Bool) → action.Write ≡ (if w then action.Settle fate.NoMemory else action_in m wait needs) → needs ≡ false
write_need true m wait needs e = absurd (cc e)
write_need false Live wait true e = absurd (cc e)
write_need false Live wait false e = refl
write_need false (Broken f) true needs e = absurd (cc e)
write_need false (Broken f) false true e = absurd (cc e)
write_need false (Broken f) false false e = refl
write_need false (Dead f) wait needs e = absurd (cc e)

open_need : (w : Bool) (m : Mode) (wait needs : Bool) → action.OpenAndWrite ≡ (if w then action.Settle fate.NoMemory else action_in m wait needs) → needs ≡ false
open_need true m wait needs e = absurd (cc e)
open_need false Live wait true e = absurd (cc e)
open_need false Live wait false e = absurd (cc e)
open_need false (Broken f) true needs e = absurd (cc e)
open_need false (Broken f) false true e = absurd (cc e)
open_need false (Broken f) false false e = refl
open_need false (Dead f) wait needs e = absurd (cc e)

again_need : (w b n : Bool) (m : ℕ)
    → after.Again ≡ (if w then after.Settle fate.NoMemory else (if b then (if n then after.Settle fate.KeyWait else after.Again) else after.Settle (fate.Lost m))) → n ≡ false
again_need true b n m e = absurd (cc e)
again_need false true true m e = absurd (cc e)
again_need false true false m e = refl
again_need false false n m e = absurd (cc e)

no_again : (w : Bool) (x : Fate) → after.Again ≡ (if w then after.Settle fate.NoMemory else after.Settle x) → ⊥
no_again true x e = cc e
no_again false x e = cc e

-- there are at least as many notes as in the last streak
streak_notes : (h : History) → streak h ≤ notes h
streak_notes [] = omega arith
streak_notes (Begun answer.Done ∷ h) = streak_notes h
streak_notes (Begun answer.Fault ∷ h) = omega (arith, streak_notes h)
streak_notes (Begun answer.NoMemory ∷ h) = streak_notes h
streak_notes (Tried s i facts answer.Done ∷ h) = omega arith
streak_notes (Tried s i facts answer.Fault ∷ h) = omega (arith, streak_notes h)
streak_notes (Tried s i facts answer.NoMemory ∷ h) = streak_notes h
streak_notes (Fated i f ∷ h) = streak_notes h
streak_notes (Want ∷ h) = streak_notes h

broken_bools : (z b : Bool) (m n : ℕ) → (if z then Live else (if b then Dead m else Broken m)) ≡ Broken n → (z ≡ false) × (m ≡ n)
broken_bools true b m n e = absurd (cc e)
broken_bools false true m n e = absurd (cc e)
broken_bools false false m n e = (refl, cc)

-- the number in the mode is that of the last note
broken_number : (o : FifoOptions) (h : History) (n : ℕ) → mode_of o h ≡ Broken n → n + 1 ≡ notes h
broken_number o h n e =
    let b = broken_bools (streak h == 0) (is_spent o (attempts h)) (notes h - 1) n e in
    let k = not_zero (streak h) b.0 in
    omega (arith, streak_notes h, b.1, k)

dead_bools : (z b : Bool) (m n : ℕ) → (if z then Live else (if b then Dead m else Broken m)) ≡ Dead n → (z ≡ false) × (m ≡ n)
dead_bools true b m n e = absurd (cc e)
dead_bools false true m n e = (refl, cc)
dead_bools false false m n e = absurd (cc e)

pub dead_number : (o : FifoOptions) (h : History) (n : ℕ) → mode_of o h ≡ Dead n → n + 1 ≡ notes h
dead_number o h n e =
    let b = dead_bools (streak h == 0) (is_spent o (attempts h)) (notes h - 1) n e in
    let k = not_zero (streak h) b.0 in
    omega (arith, streak_notes h, b.1, k)

recovers_bools : (z r m : Bool) (n k : ℕ) → (if z then Live else (if not r || m then Dead n else Broken n)) ≡ Broken k → r ≡ true
recovers_bools true r m n k e = absurd (cc e)
recovers_bools false true m n k e = refl
recovers_bools false false m n k e = absurd (cc e)

-- an output is broken only where recovery is asked
broken_recovers : (o : FifoOptions) (h : History) (n : ℕ) → mode_of o h ≡ Broken n → o.attempt_recovery ≡ true
broken_recovers o h n e =
    recovers_bools (streak h == 0) o.attempt_recovery (not (o.max_attempts == 0) && nat_le o.max_attempts (attempts h)) (notes h - 1) n e

same_action : {f g : Fate} → action.Settle f ≡ action.Settle g → g ≡ f
same_action e = cc

same_after : {f g : Fate} → after.Settle f ≡ after.Settle g → f ≡ g
same_after e = cc

flush_cause : (o : FifoOptions) (h : History) (v : ℕ) (w : Bool) (m : Mode) → wanted h ≡ w → mode_of o h ≡ m
    → FlushCause o h v (if w then fate.NoMemory else flushed_in m v)
flush_cause o h v true m u e = u
flush_cause o h v false Live u e = (u, refl)
flush_cause o h v false (Broken f) u e = (u, refl)
flush_cause o h v false (Dead f) u e = (u, e)

abbrev fate_at : ℕ → Fate → Option (ℕ × Fate)
fate_at i f = Some (i, f)

-- the fate that was settled last
abbrev last_fate : History → Option (ℕ × Fate)
last_fate [] = None
last_fate (Begun a ∷ h) = last_fate h
last_fate (Tried s i facts a ∷ h) = last_fate h
last_fate (Fated i f ∷ h) = fate_at i f
last_fate (Want ∷ h) = last_fate h

-- between two turns: a packet that was written last left the output live, in its session
abbrev AtRest : FifoOptions → History → Type 0
AtRest o h = (i s : ℕ) → last_fate h ≡ fate_at i (fate.Written s) → (mode_of o h ≡ Live) × (session_of h ≡ s)

or_left : (x b : Bool) → b ≡ false → (x || b) ≡ true → x ≡ true
or_left true b u e = refl
or_left false b u e = let t : true ≡ false = sym e ∙ u in absurd (cc t)

same_number : (i j : ℕ) → (i == j) ≡ true → i ≡ j
same_number i j e = grind (arith, nat_tests)

same_fate : (i j s : ℕ) (f : Fate) (b : Bool) → b ≡ false → (((i == j) && is_written_fate s f) || b) ≡ true → fate_at i f ≡ fate_at j (fate.Written s)
same_fate i j s f b u e =
    let k = both_true (i == j) (is_written_fate s f) (or_left ((i == j) && is_written_fate s f) b u e) in
    rw (same_number i j k.0, is_fate f k.1) refl
  where
    is_fate : (f : Fate) → is_written_fate s f ≡ true → f ≡ fate.Written s
    is_fate (fate.Written t) e = ap fate.Written (same_number t s e)
    is_fate (fate.Refused v) e = absurd (cc e)
    is_fate (fate.Flushed v) e = absurd (cc e)
    is_fate fate.KeyWait e = absurd (cc e)
    is_fate (fate.Lost v) e = absurd (cc e)
    is_fate (fate.AfterFailure v) e = absurd (cc e)
    is_fate fate.NoMemory e = absurd (cc e)

-- the packet right before the next one, where it was written, has the last fate
written_last : (h : History) (n j s : ℕ) → Rises h n → n ≤ j + 1 → is_written h j s ≡ true → last_fate h ≡ fate_at j (fate.Written s)
written_last [] n j s r le e = absurd (cc e)
written_last (Begun a ∷ h) n j s r le e = written_last h n j s r le e
written_last (Tried t i facts a ∷ h) n j s r le e = written_last h n j s r le e
written_last (Want ∷ h) n j s r le e = written_last h n j s r le e
written_last (Fated i f ∷ h) n j s r le e =
    same_fate i j s f (is_written h j s) (not_written h i j s r.1 (omega (arith, r.0))) e

is_false : (b : Bool) → (b ≡ true → ⊥) → b ≡ false
is_false true f = absurd (f refl)
is_false false f = refl

key_wait : (o : FifoOptions) (h : History) (i : ℕ) (facts : PacketFacts) (n : ℕ) → wanted h ≡ false → mode_is_dead (mode_of o h) ≡ false → Rises h n → n ≤ i → AtRest o h
    → needs_restart o h i facts ≡ true → Cause o h i facts fate.KeyWait
key_wait o h i facts n w alive r le rest e =
    let k = needed o.restart facts.restart (i == 0) (mode_is_live (mode_of o h) && is_written h (i - 1) (session_of h)) e in
    let some = not_zero i k.2 in (
      w,
      alive,
      k.0,
      k.1,
      some,
      inl (λ s. is_false (is_written h (i - 1) s) (λ t.
          let at = rest (i - 1) s (written_last h n (i - 1) s r (omega (arith, le, some)) t) in
          let f : is_written h (i - 1) s ≡ false = rw (at.0, at.1) at k.3 in
          let x : true ≡ false = sym t ∙ f in
          cc x)),
    )

action_bools : (o : FifoOptions) (h : History) (i : ℕ) (facts : PacketFacts) (f : Fate) (w : Bool) (m : Mode) (wait needs : Bool) (n : ℕ)
    → Rises h n → n ≤ i → AtRest o h
    → wanted h ≡ w → mode_of o h ≡ m → is_waiting o h facts ≡ wait → needs_restart o h i facts ≡ needs
    → action.Settle f ≡ (if w then action.Settle fate.NoMemory else action_in m wait needs) → Cause o h i facts f
action_bools o h i facts f true m wait needs n r le rest a b c d e = subst (λ (x : Fate). Cause o h i facts x) (same_action e) a
action_bools o h i facts f false Live wait true n r le rest a b c d e = subst (λ (x : Fate). Cause o h i facts x) (same_action e) (key_wait o h i facts n a (rw b refl) r le rest d)
action_bools o h i facts f false Live wait false n r le rest a b c d e = absurd (cc e)
action_bools o h i facts f false (Broken m) true needs n r le rest a b c d e = subst (λ (x : Fate). Cause o h i facts x) (same_action e) (a, broken_number o h m b, inr (rw b refl, broken_recovers o h m b, c))
action_bools o h i facts f false (Broken m) false true n r le rest a b c d e = subst (λ (x : Fate). Cause o h i facts x) (same_action e) (key_wait o h i facts n a (rw b refl) r le rest d)
action_bools o h i facts f false (Broken m) false false n r le rest a b c d e = absurd (cc e)
action_bools o h i facts f false (Dead m) wait needs n r le rest a b c d e = subst (λ (x : Fate). Cause o h i facts x) (same_action e) (a, b)

written_cause : (o : FifoOptions) (h : History) (i : ℕ) (facts : PacketFacts) → wanted h ≡ false → needs_restart o h i facts ≡ false
    → Cause o (Tried (trying o h) i facts answer.Done ∷ h) i facts (fate.Written (trying o h))
written_cause o h i facts u need = (
  u,
  (refl, refl),
  refl,
  λ asked.
      elim (not_needed o.restart facts.restart (i == 0) (mode_is_live (mode_of o h) && is_written h (i - 1) (session_of h)) need asked) [
        | inl a ↦ inl a
        | inr r ↦ elim r [
          | inl b ↦ inr (inl (is_zero i b))
          | inr c ↦ (let both = both_true (mode_is_live (mode_of o h)) (is_written h (i - 1) (session_of h)) c in
              let same : trying o h ≡ session_of h = rw both.0 refl in
              inr (inr (subst (λ (t : ℕ). is_written h (i - 1) t ≡ true) (sym same) both.1)))
        ]
      ],
)

live_streak : (z b : Bool) (f : ℕ) → mode_is_live (if z then Live else (if b then Dead f else Broken f)) ≡ true → z ≡ true
live_streak true b f e = refl
live_streak false true f e = absurd (cc e)
live_streak false false f e = absurd (cc e)

not_spent : (o : FifoOptions) → o.attempt_recovery ≡ true → is_spent o 0 ≡ false
not_spent o e = rw e (none o.max_attempts)
  where
    none : (m : ℕ) → (not (m == 0) && nat_le m 0) ≡ false
    none m = grind (arith, nat_tests)

broken_first : (z b : Bool) (f : ℕ) → b ≡ false → mode_is_dead (if z then Live else (if b then Dead f else Broken f)) ≡ false
broken_first true b f e = refl
broken_first false b f e = rw e refl

-- a first fault, where recovery is asked, leaves the output alive
fault_lives : (o : FifoOptions) (h : History) (i : ℕ) (facts : PacketFacts) → mode_is_live (mode_of o h) ≡ true → o.attempt_recovery ≡ true
    → mode_is_dead (mode_of o (Tried (trying o h) i facts answer.Fault ∷ h)) ≡ false
fault_lives o h i facts live recovers =
    let none = is_zero (streak h) (live_streak (streak h == 0) (is_spent o (attempts h)) (notes h - 1) live) in
    let first : (streak h + 1) - 1 ≡ 0 = omega (arith, none) in
    broken_first ((streak h + 1) == 0) (is_spent o ((streak h + 1) - 1)) ((notes h + 1) - 1) (rw first (not_spent o recovers))

fault_bools : (o : FifoOptions) (h : History) (i : ℕ) (facts : PacketFacts) (f : Fate) (b n : Bool)
    → wanted h ≡ false → (mode_is_live (mode_of o h) && o.attempt_recovery && (o.wait_ms == 0)) ≡ b
    → needs_restart o (Tried (trying o h) i facts answer.Fault ∷ h) i facts ≡ n
    → (if b then (if n then after.Settle fate.KeyWait else after.Again) else after.Settle (fate.Lost (notes h))) ≡ after.Settle f
    → Cause o (Tried (trying o h) i facts answer.Fault ∷ h) i facts f
fault_bools o h i facts f true true u live d e =
    let noted = Tried (trying o h) i facts answer.Fault ∷ h in
    let k = needed o.restart facts.restart (i == 0) (mode_is_live (mode_of o noted) && is_written noted (i - 1) (session_of noted)) d in
    let may = both_true (mode_is_live (mode_of o h) && o.attempt_recovery) (o.wait_ms == 0) live in
    let is_live = both_true (mode_is_live (mode_of o h)) o.attempt_recovery may.0 in
    subst (λ (x : Fate). Cause o noted i facts x) (same_after e)
    (u, fault_lives o h i facts is_live.0 is_live.1, k.0, k.1, not_zero i k.2, inr (refl, refl, rw is_live.0 refl))
fault_bools o h i facts f true false u live d e = absurd (cc e)
fault_bools o h i facts f false n u live d e =
    subst (λ (x : Fate). Cause o (Tried (trying o h) i facts answer.Fault ∷ h) i facts x) (same_after e) (u, refl, inl (refl, refl))

want_bools : (o : FifoOptions) (h : History) (i : ℕ) (facts : PacketFacts) (a : Answer) (f : Fate) (w : Bool) → wanted h ≡ w → needs_restart o h i facts ≡ false
    → (if w then after.Settle fate.NoMemory else after_answer_of o h i facts a) ≡ after.Settle f → Cause o (Tried (trying o h) i facts a ∷ h) i facts f
want_bools o h i facts a f true u need e =
    subst (λ (x : Fate). Cause o (Tried (trying o h) i facts a ∷ h) i facts x) (same_after e) (still a)
  where
    still : (a : Answer) → wanted (Tried (trying o h) i facts a ∷ h) ≡ true
    still answer.Done = u
    still answer.Fault = u
    still answer.NoMemory = refl
want_bools o h i facts answer.Done f false u need e =
    subst (λ (x : Fate). Cause o (Tried (trying o h) i facts answer.Done ∷ h) i facts x) (same_after e) (written_cause o h i facts u need)
want_bools o h i facts answer.Fault f false u need e =
    fault_bools o h i facts f (mode_is_live (mode_of o h) && o.attempt_recovery && (o.wait_ms == 0)) _ u refl refl e
want_bools o h i facts answer.NoMemory f false u need e =
    subst (λ (x : Fate). Cause o (Tried (trying o h) i facts answer.NoMemory ∷ h) i facts x) (same_after e) refl

-- what a want of memory leaves as it was
may_need : (o : FifoOptions) (h g : History) (i : ℕ) (facts : PacketFacts) → MayWant h g → needs_restart o h i facts ≡ false → needs_restart o g i facts ≡ false
may_need o h g i facts (inl e) n = subst (λ (x : History). needs_restart o x i facts ≡ false) (sym e) n
may_need o h g i facts (inr e) n = subst (λ (x : History). needs_restart o x i facts ≡ false) (sym e) n

may_live : (o : FifoOptions) (h g : History) → MayWant h g → mode_is_dead (mode_of o h) ≡ false → mode_is_dead (mode_of o g) ≡ false
may_live o h g (inl e) n = subst (λ (x : History). mode_is_dead (mode_of o x) ≡ false) (sym e) n
may_live o h g (inr e) n = subst (λ (x : History). mode_is_dead (mode_of o x) ≡ false) (sym e) n

may_rise : (h g : History) (n : ℕ) → MayWant h g → Rises h n → Rises g n
may_rise h g n (inl e) r = subst (λ (x : History). Rises x n) (sym e) r
may_rise h g n (inr e) r = subst (λ (x : History). Rises x n) (sym e) r

may_rest : (o : FifoOptions) (h g : History) → MayWant h g → AtRest o h → AtRest o g
may_rest o h g (inl e) r = subst (λ (x : History). AtRest o x) (sym e) r
may_rest o h g (inr e) r = subst (λ (x : History). AtRest o x) (sym e) r

again_closes : (o : FifoOptions) (h : History) (i : ℕ) (facts : PacketFacts) (a : Answer) → after.Again ≡ after_of o h i facts a
    → needs_restart o (Tried (trying o h) i facts a ∷ h) i facts ≡ false
again_closes o h i facts answer.Done e = absurd (no_again (wanted h) (fate.Written (trying o h)) e)
again_closes o h i facts answer.Fault e =
    again_need (wanted h) (mode_is_live (mode_of o h) && o.attempt_recovery && (o.wait_ms == 0)) (needs_restart o (Tried (trying o h) i facts answer.Fault ∷ h) i facts) (notes h) e
again_closes o h i facts answer.NoMemory e = absurd (no_again (wanted h) fate.NoMemory e)

again_recovers : (w live recovers now n : Bool) (m : ℕ)
    → after.Again ≡ (if w then after.Settle fate.NoMemory else (if live && recovers && now then (if n then after.Settle fate.KeyWait else after.Again) else after.Settle (fate.Lost m)))
    → (live ≡ true) × (recovers ≡ true)
again_recovers true live recovers now n m e = absurd (cc e)
again_recovers false true true now n m e = (refl, refl)
again_recovers false true false now n m e = absurd (cc e)
again_recovers false false recovers now n m e = absurd (cc e)

-- a first fault after which the packet is tried again leaves the output alive
again_lives : (o : FifoOptions) (h : History) (i : ℕ) (facts : PacketFacts) (a : Answer) → after.Again ≡ after_of o h i facts a
    → mode_is_dead (mode_of o (Tried (trying o h) i facts a ∷ h)) ≡ false
again_lives o h i facts answer.Done e = absurd (no_again (wanted h) (fate.Written (trying o h)) e)
again_lives o h i facts answer.Fault e =
    let k = again_recovers (wanted h) (mode_is_live (mode_of o h)) o.attempt_recovery (o.wait_ms == 0) (needs_restart o (Tried (trying o h) i facts answer.Fault ∷ h) i facts) (notes h) e in
    fault_lives o h i facts k.0 k.1
again_lives o h i facts answer.NoMemory e = absurd (no_again (wanted h) fate.NoMemory e)

write_alive : (w : Bool) (m : Mode) (wait needs : Bool) (r : Action) → (r ≡ action.Write) ⊎ (r ≡ action.OpenAndWrite)
    → r ≡ (if w then action.Settle fate.NoMemory else action_in m wait needs) → mode_is_dead m ≡ false
write_alive w Live wait needs r is e = refl
write_alive w (Broken f) wait needs r is e = refl
write_alive true (Dead f) wait needs r (inl is) e = let x : action.Write ≡ action.Settle fate.NoMemory = sym is ∙ e in absurd (cc x)
write_alive true (Dead f) wait needs r (inr is) e = let x : action.OpenAndWrite ≡ action.Settle fate.NoMemory = sym is ∙ e in absurd (cc x)
write_alive false (Dead f) wait needs r (inl is) e = let x : action.Write ≡ action.Settle (fate.AfterFailure f) = sym is ∙ e in absurd (cc x)
write_alive false (Dead f) wait needs r (inr is) e = let x : action.OpenAndWrite ≡ action.Settle (fate.AfterFailure f) = sym is ∙ e in absurd (cc x)

-- after the packet was taken the output is live
pub taken_live : (o : FifoOptions) (h : History) (i : ℕ) → TriedLast h i answer.Done → mode_of o h ≡ Live
taken_live o [] i t = absurd t
taken_live o (Begun a ∷ h) i t = absurd t
taken_live o (Tried s j facts answer.Done ∷ h) i t = refl
taken_live o (Tried s j facts answer.Fault ∷ h) i t = absurd (cc t.1)
taken_live o (Tried s j facts answer.NoMemory ∷ h) i t = absurd (cc t.1)
taken_live o (Fated j f ∷ h) i t = absurd t
taken_live o (Want ∷ h) i t = absurd t

second_of : {i j : ℕ} {f g : Fate} → fate_at i f ≡ fate_at j g → f ≡ g
second_of {i} {j} {f} {g} e =
    let x : ℕ × Fate = (i, f) in
    let y : ℕ × Fate = (j, g) in
    let same : Some x ≡ Some y = e in
    let pair : x ≡ y = cc in
    ap (λ (z : ℕ × Fate). z.1) pair

caused_rests : (o : FifoOptions) (h : History) (i : ℕ) (facts : PacketFacts) (f : Fate) → Cause o h i facts f → AtRest o (Fated i f ∷ h)
caused_rests o h i facts f k = λ j s e.
    let w = subst (λ (x : Fate). Cause o h i facts x) (second_of e) k in
    (taken_live o h i w.1, w.2)

flushed_rests : (o : FifoOptions) (h : History) (i v : ℕ) (f : Fate) → FlushCause o h v f → AtRest o (Fated i f ∷ h)
flushed_rests o h i v f k = λ j s e. absurd (subst (λ (x : Fate). FlushCause o h v x) (second_of e) k)

-- no packet was tried since the last fate
abbrev Untried : History → Type 0
Untried h = (i : ℕ) → OnlyTried h i

may_try : (h g : History) (i : ℕ) → MayWant h g → OnlyTried h i → OnlyTried g i
may_try h g i (inl e) r = subst (λ (x : History). OnlyTried x i) (sym e) r
may_try h g i (inr e) r = subst (λ (x : History). OnlyTried x i) (sym e) r

module _ (o : FifoOptions) (ts : List Turn) where
  may_keeps : (h g : History) → MayWant h g → Caused o ts h → Caused o ts g
  may_keeps h g (inl e) k = rw e k
  may_keeps h g (inr e) k = rw e k

  -- where a turn of packet i leaves the history
  abbrev Left : ℕ → History → Type 0
  Left i new = Caused o ts new × AtRest o new × Rises new (i + 1) × Untried new

  module _ (i : ℕ) (facts : PacketFacts) (has : HasTurn ts (Comes i facts)) where
    -- the turn ends with an answer
    answered_left : (h : History) (a : Answer) (f : Fate) (new : History) → needs_restart o h i facts ≡ false → mode_is_dead (mode_of o h) ≡ false
        → after.Settle f ≡ after_of o h i facts a → new ≡ Fated i f ∷ Tried (trying o h) i facts a ∷ h → Caused o ts h → Rises h i → OnlyTried h i → Left i new
    answered_left h a f new need alive e s k r only =
        let cause = want_bools o h i facts a f (wanted h) refl need (sym e) in
        let after_it = Fated i f ∷ Tried (trying o h) i facts a ∷ h in
        let rest : AtRest o after_it = caused_rests o (Tried (trying o h) i facts a ∷ h) i facts f cause in
        let rises : Rises after_it (i + 1) = (omega arith, r) in
        let caused : Caused o ts after_it = ((Comes i facts, has, (refl, cause), (refl, only)), ((has, refl, alive), k)) in
        let untried : Untried after_it = λ j. tt in
        subst (λ (x : History). Left i x) (sym s) (caused, rest, rises, untried)

    settled_left : (h : History) (b : Answer) (r : After) (new : History) → needs_restart o h i facts ≡ false → mode_is_dead (mode_of o h) ≡ false
        → r ≡ after_of o h i facts b → Settled o h i facts b r new → Caused o ts h → Rises h i → OnlyTried h i → Left i new
    settled_left h b (after.Settle f) new need alive e s k rises only = answered_left h b f new need alive e s k rises only
    settled_left h b after.Again new need alive e s k rises only = absurd s

    second_left : (h : History) (new : History) → needs_restart o h i facts ≡ false → mode_is_dead (mode_of o h) ≡ false
        → SecondTry o h i facts new → Caused o ts h → Rises h i → OnlyTried h i → Left i new
    second_left h new need alive t k rises only =
        settled_left t.1 t.0 _ new (may_need o h t.1 i facts t.2 need) (may_live o h t.1 t.2 alive) refl t.3 (may_keeps h t.1 t.2 k) (may_rise h t.1 i t.2 rises) (may_try h t.1 i t.2 only)

    tried_left : (h : History) (a : Answer) (r : After) (new : History) → needs_restart o h i facts ≡ false → mode_is_dead (mode_of o h) ≡ false
        → r ≡ after_of o h i facts a → Answered o h i facts a r new → Caused o ts h → Rises h i → OnlyTried h i → Left i new
    tried_left h a (after.Settle f) new need alive e s k rises only = answered_left h a f new need alive e s k rises only
    tried_left h a after.Again new need alive e t k rises only =
        second_left (Tried (trying o h) i facts a ∷ h) new (again_closes o h i facts a e) (again_lives o h i facts a e) t ((has, refl, alive), k) rises (refl, only)

    first_left : (h : History) (new : History) → needs_restart o h i facts ≡ false → mode_is_dead (mode_of o h) ≡ false
        → FirstTry o h i facts new → Caused o ts h → Rises h i → OnlyTried h i → Left i new
    first_left h new need alive t k rises only =
        tried_left t.1 t.0 _ new (may_need o h t.1 i facts t.2 need) (may_live o h t.1 t.2 alive) refl t.3 (may_keeps h t.1 t.2 k) (may_rise h t.1 i t.2 rises) (may_try h t.1 i t.2 only)

    acted_left : (h : History) (r : Action) (new : History) (n : ℕ) → r ≡ action_of o h i facts → Acted o h i facts r new
        → Caused o ts h → Rises h n → n ≤ i → AtRest o h → Untried h → Left i new
    acted_left h (action.Settle f) new n e s k rises le rest fresh =
        let cause = action_bools o h i facts f (wanted h) (mode_of o h) (is_waiting o h facts) (needs_restart o h i facts) n rises le rest refl refl refl refl e in
        let after_it = Fated i f ∷ h in
        let caused : Caused o ts after_it = ((Comes i facts, has, (refl, cause), fresh i), k) in
        let rested : AtRest o after_it = caused_rests o h i facts f cause in
        let risen : Rises after_it (i + 1) = (omega arith, Rises_more h n i rises le) in
        let untried : Untried after_it = λ j. tt in
        subst (λ (x : History). Left i x) (sym s) (caused, rested, risen, untried)
    acted_left h action.Write new n e t k rises le rest fresh =
        first_left h new (write_need (wanted h) (mode_of o h) (is_waiting o h facts) (needs_restart o h i facts) e)
        (write_alive (wanted h) (mode_of o h) (is_waiting o h facts) (needs_restart o h i facts) action.Write (inl refl) e) t k (Rises_more h n i rises le) (fresh i)
    acted_left h action.OpenAndWrite new n e t k rises le rest fresh =
        first_left h new (open_need (wanted h) (mode_of o h) (is_waiting o h facts) (needs_restart o h i facts) e)
        (write_alive (wanted h) (mode_of o h) (is_waiting o h facts) (needs_restart o h i facts) action.OpenAndWrite (inr refl) e) t k (Rises_more h n i rises le) (fresh i)

  turned_left : (h : History) (t : Turn) (new : History) (n : ℕ) → HasTurn ts t → Turned o h t new → Caused o ts h → Rises h n → n ≤ turn_index t → AtRest o h → Untried h
      → Left (turn_index t) new
  turned_left h (Comes i facts) new n has a k rises le rest fresh = acted_left i facts has h _ new n refl a k rises le rest fresh
  turned_left h (Flushes i v) new n has e k rises le rest fresh =
      let f = flush_of o h v in
      let cause : FlushCause o h v f = flush_cause o h v (wanted h) (mode_of o h) refl refl in
      let after_it = Fated i f ∷ h in
      let caused : Caused o ts after_it = ((Flushes i v, has, (refl, cause), fresh i), k) in
      let rested : AtRest o after_it = flushed_rests o h i v f cause in
      let risen : Rises after_it (i + 1) = (omega arith, Rises_more h n i rises le) in
      let untried : Untried after_it = λ j. tt in
      subst (λ (x : History). Left i x) (sym e) (caused, rested, risen, untried)

  runs_caused : (us : List Turn) (n : ℕ) (h new : History) → ((t : Turn) → HasTurn us t → HasTurn ts t) → InTurn n us → Runs o h us new
      → Caused o ts h → Rises h n → AtRest o h → Untried h → Caused o ts new
  runs_caused [] n h new within order r k rises rest fresh = rw r k
  runs_caused (t ∷ us) n h new within order r k rises rest fresh =
      let g = r.1.0 in
      let left = turned_left g t r.0 n (within t (inl refl)) r.1.2 (may_keeps h g r.1.1 k) (may_rise h g n r.1.1 rises) order.0 (may_rest o h g r.1.1 rest) (λ i. may_try h g i r.1.1 (fresh i)) in
      runs_caused us (turn_index t + 1) r.0 new (λ u m. within u (inr m)) order.1 r.2 left.0 left.2 left.1 left.3

pub each_caused : EachFateIsCaused
each_caused o turns h order f =
    let begun : History = Begun f.0 ∷ [] in
    let rest : AtRest o begun = λ i s e. absurd (cc e) in
    let caused : Caused o turns begun = refl in
    let rises : Rises begun 0 = tt in
    let fresh : Untried begun = λ i. tt in
    runs_caused o turns turns 0 f.1 h (λ t m. m) order f.3 (may_keeps o turns begun f.1 f.2 caused) (may_rise begun f.1 0 f.2 rises) (may_rest o begun f.1 f.2 rest) (λ i. may_try begun f.1 i f.2 (fresh i))

-- A run with no fault and no want of memory.
use Rattle.std.proofs.Common.{◌≡◌, ℕ, suc, ◌+◌, ◌-◌, ◌⊎◌, inl, inr, Bool, true, false, not, ◌&&◌, ◌==◌, if◌then◌else◌, List, [], ◌∷◌, ◌++◌, length, refl, sym, ◌∙◌, ap, subst, arith, append_assoc}
use Rattle.std.proofs.lemmas.Bool.Decides.{nat_tests}
use Rattle.std.proofs.lemmas.List.{append-nil}
use Rattle.fifo_core.specs.declared.types.FifoOptions.{FifoOptions}
use Rattle.fifo_core.specs.declared.types.PacketFacts.{PacketFacts}
use Rattle.fifo_core.specs.declared.types.Answer.{Answer}
use Rattle.fifo_core.specs.declared.types.Answer.TheVariants as answer
use Rattle.fifo_core.specs.declared.types.Action.{Action}
use Rattle.fifo_core.specs.declared.types.Action.TheVariants as action
use Rattle.fifo_core.specs.declared.types.After.{After}
use Rattle.fifo_core.specs.declared.types.After.TheVariants as after
use Rattle.fifo_core.specs.declared.types.Fate.TheVariants as fate
use Rattle.fifo_core.specs.declared.types.Mode.{Mode}
use Rattle.fifo_core.specs.declared.types.Mode.TheVariants.{Live}
use Rattle.fifo_core.specs.History.{Begun, Tried, Fated, History, action_of, after_of, trying, wanted, mode_of, mode_is_live, session_of, is_written, fates_of, is_waiting, needs_restart, action_in}
use Rattle.fifo_core.specs.Follows.{Comes, Turned, Acted, FirstTry, Answered, Runs, Follows}
use Rattle.fifo_core.specs.Laws.{AnswersAs, all_come, all_written, IsWhole}
use Rattle.fifo_core.proofs.Before.{first_before, made_before, runs_before, started}

abbrev pub Clean : History → Type 0
Clean h = AnswersAs (λ _ _. answer.Done) answer.Done h

-- where such a run stands before packet n
pub record At (o : FifoOptions) (n : ℕ) (h : History) : Type 0 where
  pub live : mode_of o h ≡ Live
  pub unwanted : wanted h ≡ false
  pub session : session_of h ≡ 0
  pub before : (n ≡ 0) ⊎ (is_written h (n - 1) 0 ≡ true)

-- no gap is before it
no_gap : (r fr z l : Bool) → (z ≡ true) ⊎ (l ≡ true) → (r && not fr && not z && not l) ≡ false
no_gap false fr z l e = refl
no_gap true true z l e = refl
no_gap true false true l e = refl
no_gap true false false true e = refl
no_gap true false false false (inl e) = absurd (cc e)
no_gap true false false false (inr e) = absurd (cc e)

zero_test : (n : ℕ) → n ≡ 0 → (n == 0) ≡ true
zero_test n e = rw e refl

needs_none : (o : FifoOptions) (n : ℕ) (h : History) (facts : PacketFacts) → At o n h → needs_restart o h n facts ≡ false
needs_none o n h facts k =
    no_gap o.restart facts.restart (n == 0) (mode_is_live (mode_of o h) && is_written h (n - 1) (session_of h))
    (elim k.before [ inl e ↦ inl (zero_test n e) | inr w ↦ inr (rw (k.live, k.session) w) ])

pub writes : (o : FifoOptions) (n : ℕ) (h : History) (facts : PacketFacts) → At o n h → action_of o h n facts ≡ action.Write
writes o n h facts k = writes_by (wanted h) (mode_of o h) (is_waiting o h facts) (needs_restart o h n facts) k.unwanted k.live (needs_none o n h facts k)
  where
    writes_by : (w : Bool) (m : Mode) (wait needs : Bool) → w ≡ false → m ≡ Live → needs ≡ false
        → (if w then action.Settle fate.NoMemory else action_in m wait needs) ≡ action.Write
    writes_by w m wait needs a b c = rw (a, b, c) refl

-- one more packet
stepped : (o : FifoOptions) (n : ℕ) (h new : History) (facts : PacketFacts) → At o n h → Turned o h (Comes n facts) new → Clean new
    → At o (n + 1) new × (fates_of new ≡ fates_of h ++ (n, fate.Written 0) ∷ [])
stepped o n h new facts k t clean =
    let acted : FirstTry o h n facts new = subst (λ (r : Action). Acted o h n facts r new) (writes o n h facts k) t in
    let b = first_before (λ _ _. answer.Done) answer.Done o h n facts new acted clean in
    let tried : trying o h ≡ 0 = rw (k.live, k.session) refl in
    let settles : after_of o h n facts b.0 ≡ after.Settle (fate.Written 0) = rw (k.unwanted, b.2, tried) refl in
    let is : new ≡ Fated n (fate.Written 0) ∷ Tried (trying o h) n facts b.0 ∷ h
    = subst (λ (r : After). Answered o h n facts b.0 r new) settles b.1 in
    let is' : new ≡ Fated n (fate.Written 0) ∷ Tried 0 n facts answer.Done ∷ h =
    is ∙ ap (λ (a : Answer). Fated n (fate.Written 0) ∷ Tried (trying o h) n facts a ∷ h) b.2
    ∙ ap (λ (s : ℕ). Fated n (fate.Written 0) ∷ Tried s n facts answer.Done ∷ h) tried in
    let last : (n + 1) - 1 ≡ n = omega arith in
    let same : (n == n) ≡ true = grind (arith, nat_tests) in
    rw is' (record { live = refl; unwanted = k.unwanted; session = refl; before = inr (rw (last, same) refl) }, refl)

run : (o : FifoOptions) (packets : List PacketFacts) (n : ℕ) (h new : History) → At o n h → Runs o h (all_come n packets) new → Clean new
    → At o (n + length packets) new × (fates_of new ≡ fates_of h ++ all_written n packets)
run o [] n h new k r clean =
    let e : n ≡ n + 0 = omega arith in
    rw r (subst (λ (m : ℕ). At o m h) e k, sym (append-nil (fates_of h)))
run o (facts ∷ rest) n h new k r clean =
    let before = runs_before (λ _ _. answer.Done) answer.Done o r.0 (all_come (n + 1) rest) new r.2 clean in
    let m = made_before (λ _ _. answer.Done) answer.Done o h (Comes n facts) r.0 r.1 before in
    let s = stepped o n h r.0 facts k m.0 before in
    let on = run o rest (n + 1) r.0 new s.0 r.2 clean in
    let e : (n + 1) + length rest ≡ n + suc (length rest) = omega arith in (
      subst (λ (m : ℕ). At o m new) e on.0,
      on.1 ∙ rw (s.1, append_assoc (fates_of h) ((n, fate.Written 0) ∷ []) (all_written (n + 1) rest)) refl,
    )

-- where such a run stands at its end
pub whole_run : (o : FifoOptions) (packets : List PacketFacts) (h : History) → Follows o (all_come 0 packets) h → Clean h
    → At o (length packets) h × (fates_of h ≡ all_written 0 packets)
whole_run o packets h f clean =
    let k = run o packets 0 (Begun answer.Done ∷ []) h (record { live = refl; unwanted = refl; session = refl; before = inl refl })
    (started (λ _ _. answer.Done) answer.Done o (all_come 0 packets) h f clean) clean in
    let e : 0 + length packets ≡ length packets = omega arith in
    (subst (λ (m : ℕ). At o m h) e k.0, k.1)

pub is_whole : IsWhole
is_whole o packets h f clean =
    let k = whole_run o packets h f clean in
    let at = k.0 in
    (k.1, rw (at.unwanted, at.live) refl, at.session)

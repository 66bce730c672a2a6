-- Every end meets the accounts of all that its output was given.
use Rattle.std.proofs.Common.{◌≡◌, ℕ, ◌≤◌, inl, inr, List, map, refl, ap, sym, ◌∙◌, subst, arith}
use Rattle.fifo_core.specs.declared.types.FifoOptions.{FifoOptions}
use Rattle.fifo_core.specs.declared.types.Fate.{Fate}
use Rattle.fifo_core.specs.declared.types.Fate.TheVariants as fate
use Rattle.fifo_core.specs.History.{History, fates_of}
use Rattle.fifo_core.specs.State.{Rises}
use Rattle.fifo_core.specs.Follows.{Turn, Comes, Flushes}
use Rattle.fifo_core.specs.Causes.{Caused, TurnCause, FlushCause, HasTurn}
use Rattle.fifo_core.proofs.Caused.{each_caused}
use Rattle.rmx_edge.specs.Counted.{with_count}
use Rattle.rmx_media.specs.declared.packet.Packet.{Packet}
use Rattle.slave.specs.Origin.{Origin}
use Rattle.slave.specs.Given.{Given, turn_of, end_from, Gives}
use Rattle.slave.specs.Runs.{expand}
use Rattle.slave.specs.Table.{covered}
use Rattle.slave.specs.End.{EndView, EndedAll}
use Rattle.slave.specs.Accounts.{Has}
use Rattle.slave.specs.AccountsAll.{SweptAt, MayFlush, EndsMeetAllAccounts}
use Rattle.slave.proofs.Alive.{each_alive}
use Rattle.slave.proofs.Faultless.{notes_rise}
use Rattle.slave.proofs.Settling.{all_settled}
use Rattle.slave.proofs.Accounted.{end_wanted, key_wait_so, lost_so, restart_so, failed_so, wanted_so, want_stays, refused_so, flushed_so, turn_so}
use Rattle.slave.proofs.Covers.{Above, above_once, order_above, rises_above, covered_rises, fates_covered, covered_cases, Climbs, climbs_with, climbs_turn, gives_once, swept_once, swept_apart, comes_given, flushes_given, index_has, has_index, order_within}

flush_fate : (o : FifoOptions) (past : History) (n v : ℕ) (f : Fate) → n ≡ v → FlushCause o past n f → MayFlush v f
flush_fate o past n v (fate.Written s) e k = absurd k
flush_fate o past n v (fate.Refused u) e k = absurd k
flush_fate o past n v (fate.Flushed u) e k = inl (ap fate.Flushed (k.1 ∙ e))
flush_fate o past n v fate.KeyWait e k = absurd k
flush_fate o past n v (fate.Lost u) e k = absurd k
flush_fate o past n v (fate.AfterFailure u) e k = inr (inl (u, refl))
flush_fate o past n v fate.NoMemory e k = inr (inr refl)

module _ {out : Origin} {o : FifoOptions} {T : List Given} {e : EndView} (k : EndedAll out o T e) where
  pub in_order : Above 0 (expand e.fates)
  in_order = order_above 0 (end_from 0 T) e.fates k.order.0

  pub tells : (i : ℕ) (f : Fate) → Has (expand e.fates) i f → Has (covered k.history) i f
  tells i f x = subst (λ (xs : List (ℕ × Fate)). Has xs i f) k.fates x

  pub back : (i : ℕ) (f : Fate) → Has (fates_of k.history) i f → Has (expand e.fates) i f
  back i f x = subst (λ (xs : List (ℕ × Fate)). Has xs i f) (sym k.fates) (fates_covered k.history i f x)

  told : (i : ℕ) (f : Fate) → (f ≡ fate.NoMemory → ⊥) → Has (expand e.fates) i f → Has (fates_of k.history) i f
  told i f other x = elim (covered_cases k.history i f (tells i f x)) [ inl a ↦ a | inr b ↦ absurd (other b.0) ]

  pub rises : Rises k.history (end_from 0 T)
  rises = covered_rises k.history (end_from 0 T) (subst (Above 0) k.fates in_order)
      (λ i f x. order_within 0 (end_from 0 T) e.fates i f k.order.0 (subst (λ (xs : List (ℕ × Fate)). Has xs i f) (sym k.fates) x))

  pub climbs : Climbs 0 T
  climbs = climbs_with 0 (fates_of k.history) T k.indexed (rises_above k.history (end_from 0 T) rises)

  caused : Caused o (map (turn_of out) T) k.history
  caused = each_caused o (map (turn_of out) T) k.history (climbs_turn out 0 T climbs) k.follows

  swept_fate : (i v : ℕ) (f : Fate) → SweptAt T i v → (t : Turn) → HasTurn (map (turn_of out) T) t → (past : History) → TurnCause o past i t f → MayFlush v f
  swept_fate i v f s (Comes j facts) has past cause =
      let c = comes_given out T j facts has in
      absurd (swept_apart 0 T i v c.0 climbs s (subst (λ (n : ℕ). Gives T n c.0) cause.0 c.1))
  swept_fate i v f s (Flushes j n) has past cause =
      let c = flushes_given out T j n has in
      flush_fate o past n v f (swept_once 0 T i n v climbs (subst (λ (m : ℕ). SweptAt T m n) cause.0 c) s) cause.1

pub all_accounts_met : EndsMeetAllAccounts
all_accounts_met out o T e k =
    let ts = map (turn_of out) T in
    let n = end_from 0 T in
    let c = caused k in
    let l = each_alive o ts k.history k.follows in
    let r = rises k in
    let fin = all_settled o n ts k.history k.follows in
    let s : (i : ℕ) (p q : Packet) → Gives T i p → Gives T i q → p ≡ q = λ i p q x y. gives_once 0 T i p q (climbs k) x y in
    record {
      order = k.order;
      covers = λ i g. (let x = index_has (fates_of k.history) T i k.indexed g in (x.0, back k i x.0 x.1));
      once = λ i f h x y. above_once 0 (expand e.fates) i f h (in_order k) x y;
      within = λ i f x. elim (covered_cases k.history i f (tells k i f x)) [
        | inl a ↦ inl (has_index (fates_of k.history) T i f k.indexed a)
        | inr b ↦ inr (b.0, k.state ∙ end_wanted o k.history k.end_answer (wanted_so out o ts (Gives T) k.history n (expand e.fates) e.faults k.end_answer c l r fin (told k) (back k) (comes_given out T) s k.notes b.1.0 b.1.2) k.end_called)
      ];
      refused = refused_so out o ts (Gives T) k.history n (expand e.fates) e.faults k.end_answer c l r fin (told k) (back k) (comes_given out T) s k.notes;
      flushed = λ i v x. flushes_given out T i v (flushed_so out o ts (Gives T) k.history n (expand e.fates) e.faults k.end_answer c l r fin (told k) (back k) (comes_given out T) s k.notes i v x);
      swept = λ i v f x y. elim (covered_cases k.history i f (tells k i f y)) [
        | inl a ↦ (let t = turn_so out o ts (Gives T) k.history n (expand e.fates) e.faults k.end_answer c l r fin (told k) (back k) (comes_given out T) s k.notes i f a in
            swept_fate k i v f x t.0 t.1 t.2.0 t.2.1)
        | inr b ↦ inr (inr b.0)
      ];
      key_wait = key_wait_so out o ts (Gives T) k.history n (expand e.fates) e.faults k.end_answer c l r fin (told k) (back k) (comes_given out T) s k.notes;
      lost = lost_so out o ts (Gives T) k.history n (expand e.fates) e.faults k.end_answer c l r fin (told k) (back k) (comes_given out T) s k.notes;
      after_failure = λ i f x. (let q = failed_so out o ts (Gives T) k.history n (expand e.fates) e.faults k.end_answer c l r fin (told k) (back k) (comes_given out T) s k.notes i f x in (
        q.0,
        λ j u lt y. elim (covered_cases k.history j u (tells k j u y)) [ inl a ↦ q.1 j u lt a | inr b ↦ inr b.0 ],
      ));
      no_memory = λ i x. (let w : (m : ℕ) × (m ≤ i) × Has (fates_of k.history) m fate.NoMemory = elim (covered_cases k.history i fate.NoMemory (tells k i fate.NoMemory x)) [ inl a ↦ (i, omega arith, a) | inr b ↦ b.1 ] in (
        k.state ∙ end_wanted o k.history k.end_answer (wanted_so out o ts (Gives T) k.history n (expand e.fates) e.faults k.end_answer c l r fin (told k) (back k) (comes_given out T) s k.notes w.0 w.2) k.end_called,
        λ j u lt y. elim (covered_cases k.history j u (tells k j u y)) [
          | inl a ↦ want_stays out o ts (Gives T) k.history n (expand e.fates) e.faults k.end_answer c l r fin (told k) (back k) (comes_given out T) s k.notes w.0 j u w.2 (omega (arith, w.1, lt)) a
          | inr b ↦ b.0
        ],
      ));
      notes = rw k.are_faults (notes_rise out (Gives T) out.shelf (with_count e.shelf k.before k.added) k.rows k.chain k.each);
      restart = restart_so out o ts (Gives T) k.history n (expand e.fates) e.faults k.end_answer c l r fin (told k) (back k) (comes_given out T) s k.notes;
    }

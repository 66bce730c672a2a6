-- A packet is flushed only while the output isn't given up.
use Rattle.std.proofs.Common.{◌≡◌, ℕ, inl, inr, Bool, true, false, if◌then◌else◌, List, [], ◌∷◌, refl}
use Rattle.fifo_core.specs.declared.types.FifoOptions.{FifoOptions}
use Rattle.fifo_core.specs.declared.types.PacketFacts.{PacketFacts}
use Rattle.fifo_core.specs.declared.types.Answer.{Answer}
use Rattle.fifo_core.specs.declared.types.Answer.TheVariants as answer
use Rattle.fifo_core.specs.declared.types.Action.{Action}
use Rattle.fifo_core.specs.declared.types.Action.TheVariants as action
use Rattle.fifo_core.specs.declared.types.After.{After}
use Rattle.fifo_core.specs.declared.types.After.TheVariants as after
use Rattle.fifo_core.specs.declared.types.Fate.{Fate}
use Rattle.fifo_core.specs.declared.types.Fate.TheVariants as fate
use Rattle.fifo_core.specs.declared.types.Mode.{Mode}
use Rattle.fifo_core.specs.declared.types.Mode.TheVariants.{Live, Broken, Dead}
use Rattle.fifo_core.specs.History.{Begun, Tried, Fated, Want, History, wanted, mode_of, mode_is_dead, is_waiting, needs_restart, action_in, action_of, after_of, flushed_in, trying}
use Rattle.fifo_core.specs.Follows.{Turn, Comes, Flushes, MayWant, Settled, Answered, FirstTry, Acted, Turned, Runs, Follows}

-- each fate Flushed was settled while the output wasn't given up
abbrev pub Alive : FifoOptions → History → Type 0
Alive o [] = Unit {0}
Alive o (Begun a ∷ h) = Alive o h
Alive o (Tried s i facts a ∷ h) = Alive o h
Alive o (Fated i f ∷ h) = ((v : ℕ) → f ≡ fate.Flushed v → mode_is_dead (mode_of o h) ≡ false) × Alive o h
Alive o (Want ∷ h) = Alive o h

action_bools : (w : Bool) (m : Mode) (wait needs : Bool) (v : ℕ) → action.Settle (fate.Flushed v) ≡ (if w then action.Settle fate.NoMemory else action_in m wait needs) → ⊥
action_bools true m wait needs v e = cc e
action_bools false Live wait true v e = cc e
action_bools false Live wait false v e = cc e
action_bools false (Broken m) true needs v e = cc e
action_bools false (Broken m) false true v e = cc e
action_bools false (Broken m) false false v e = cc e
action_bools false (Dead m) wait needs v e = cc e

after_bools : (w b n : Bool) (m v : ℕ)
    → after.Settle (fate.Flushed v) ≡ (if w then after.Settle fate.NoMemory else (if b then (if n then after.Settle fate.KeyWait else after.Again) else after.Settle (fate.Lost m))) → ⊥
after_bools true b n m v e = cc e
after_bools false true true m v e = cc e
after_bools false true false m v e = cc e
after_bools false false n m v e = cc e

settle_bools : (w : Bool) (x : Fate) (v : ℕ) → after.Settle (fate.Flushed v) ≡ (if w then after.Settle fate.NoMemory else after.Settle x) → (x ≡ fate.Flushed v → ⊥) → ⊥
settle_bools true x v e other = cc e
settle_bools false x v e other = let same : x ≡ fate.Flushed v = cc in other same

after_other : (o : FifoOptions) (h : History) (i : ℕ) (facts : PacketFacts) (a : Answer) (v : ℕ) → after.Settle (fate.Flushed v) ≡ after_of o h i facts a → ⊥
after_other o h i facts answer.Done v e = settle_bools (wanted h) _ v e (λ x. cc x)
after_other o h i facts answer.Fault v e = after_bools (wanted h) _ _ _ v e
after_other o h i facts answer.NoMemory v e = settle_bools (wanted h) _ v e (λ x. cc x)

module _ (o : FifoOptions) where
  alive_want : (h g : History) → MayWant h g → Alive o h → Alive o g
  alive_want h g (inl e) k = rw e k
  alive_want h g (inr e) k = rw e k

  -- a packet that was tried has another fate
  alive_settled : (h : History) (i : ℕ) (facts : PacketFacts) (b : Answer) (r : After) (new : History) → r ≡ after_of o h i facts b
      → Settled o h i facts b r new → Alive o h → Alive o new
  alive_settled h i facts b (after.Settle f) new is e k =
      rw e (λ v same. absurd (after_other o h i facts b v (rw same at is)), k)
  alive_settled h i facts b after.Again new is e k = absurd e

  alive_answered : (h : History) (i : ℕ) (facts : PacketFacts) (a : Answer) (r : After) (new : History) → r ≡ after_of o h i facts a
      → Answered o h i facts a r new → Alive o h → Alive o new
  alive_answered h i facts a (after.Settle f) new is e k =
      rw e (λ v same. absurd (after_other o h i facts a v (rw same at is)), k)
  alive_answered h i facts a after.Again new is t k =
      alive_settled t.1 i facts t.0 (after_of o t.1 i facts t.0) new refl t.3 (alive_want (Tried (trying o h) i facts a ∷ h) t.1 t.2 k)

  alive_tried : (h : History) (i : ℕ) (facts : PacketFacts) (new : History) → FirstTry o h i facts new → Alive o h → Alive o new
  alive_tried h i facts new t k = alive_answered t.1 i facts t.0 (after_of o t.1 i facts t.0) new refl t.3 (alive_want h t.1 t.2 k)

  alive_acted : (h : History) (i : ℕ) (facts : PacketFacts) (r : Action) (new : History) → r ≡ action_of o h i facts
      → Acted o h i facts r new → Alive o h → Alive o new
  alive_acted h i facts (action.Settle f) new is e k =
      rw e (λ v same. absurd (action_bools (wanted h) (mode_of o h) (is_waiting o h facts) (needs_restart o h i facts) v (rw same at is)), k)
  alive_acted h i facts action.Write new is t k = alive_tried h i facts new t k
  alive_acted h i facts action.OpenAndWrite new is t k = alive_tried h i facts new t k

  flush_alive : (w : Bool) (m : Mode) (n v : ℕ) → (if w then fate.NoMemory else flushed_in m n) ≡ fate.Flushed v → mode_is_dead m ≡ false
  flush_alive true m n v e = absurd (cc e)
  flush_alive false Live n v e = refl
  flush_alive false (Broken f) n v e = refl
  flush_alive false (Dead f) n v e = absurd (cc e)

  alive_turned : (h : History) (t : Turn) (new : History) → Turned o h t new → Alive o h → Alive o new
  alive_turned h (Comes i facts) new m k = alive_acted h i facts (action_of o h i facts) new refl m k
  alive_turned h (Flushes i n) new m k = rw m (λ v same. flush_alive (wanted h) (mode_of o h) n v same, k)

  alive_runs : (h : History) (ts : List Turn) (new : History) → Runs o h ts new → Alive o h → Alive o new
  alive_runs h [] new m k = rw m k
  alive_runs h (t ∷ ts) new m k = alive_runs m.0 ts new m.2 (alive_turned m.1.0 t m.0 m.1.2 (alive_want h m.1.0 m.1.1 k))

  pub each_alive : (ts : List Turn) (h : History) → Follows o ts h → Alive o h
  each_alive ts h f = alive_runs f.1 ts h f.3 (alive_want (Begun f.0 ∷ []) f.1 f.2 tt)

-- A turn ends with the fate of its packet.
use Rattle.std.proofs.Common.{ℕ, inl, inr, List, [], ◌∷◌}
use Rattle.fifo_core.specs.declared.types.FifoOptions.{FifoOptions}
use Rattle.fifo_core.specs.declared.types.PacketFacts.{PacketFacts}
use Rattle.fifo_core.specs.declared.types.Answer.{Answer}
use Rattle.fifo_core.specs.declared.types.After.{After}
use Rattle.fifo_core.specs.declared.types.After.TheVariants as after
use Rattle.fifo_core.specs.declared.types.Action.{Action}
use Rattle.fifo_core.specs.declared.types.Action.TheVariants as action
use Rattle.fifo_core.specs.History.{Begun, History, after_of, action_of}
use Rattle.fifo_core.specs.Follows.{Turn, Comes, Flushes, MayWant, Settled, Answered, FirstTry, Acted, Turned, Runs, Follows}
use Rattle.fifo_core.specs.Causes.{OnlyTried}

module _ (o : FifoOptions) (n : ℕ) where
  settled_only : (h : History) (i : ℕ) (facts : PacketFacts) (b : Answer) (r : After) (new : History) → Settled o h i facts b r new → OnlyTried new n
  settled_only h i facts b (after.Settle f) new e = rw e tt
  settled_only h i facts b after.Again new e = absurd e

  answered_only : (h : History) (i : ℕ) (facts : PacketFacts) (a : Answer) (r : After) (new : History) → Answered o h i facts a r new → OnlyTried new n
  answered_only h i facts a (after.Settle f) new e = rw e tt
  answered_only h i facts a after.Again new t = settled_only t.1 i facts t.0 (after_of o t.1 i facts t.0) new t.3

  tried_only : (h : History) (i : ℕ) (facts : PacketFacts) (new : History) → FirstTry o h i facts new → OnlyTried new n
  tried_only h i facts new t = answered_only t.1 i facts t.0 (after_of o t.1 i facts t.0) new t.3

  acted_only : (h : History) (i : ℕ) (facts : PacketFacts) (r : Action) (new : History) → Acted o h i facts r new → OnlyTried new n
  acted_only h i facts (action.Settle f) new e = rw e tt
  acted_only h i facts action.Write new t = tried_only h i facts new t
  acted_only h i facts action.OpenAndWrite new t = tried_only h i facts new t

  turned_only : (h : History) (t : Turn) (new : History) → Turned o h t new → OnlyTried new n
  turned_only h (Comes i facts) new m = acted_only h i facts (action_of o h i facts) new m
  turned_only h (Flushes i v) new m = rw m tt

  runs_only : (h : History) (ts : List Turn) (new : History) → Runs o h ts new → OnlyTried h n → OnlyTried new n
  runs_only h [] new m k = rw m k
  runs_only h (t ∷ ts) new m k = runs_only m.0 ts new m.2 (turned_only m.1.0 t m.0 m.1.2)

  begun_only : (a : Answer) (g : History) → MayWant (Begun a ∷ []) g → OnlyTried g n
  begun_only a g (inl e) = rw e tt
  begun_only a g (inr e) = rw e tt

  -- after whole turns no packet is in hand
  pub all_settled : (ts : List Turn) (h : History) → Follows o ts h → OnlyTried h n
  all_settled ts h f = runs_only f.1 ts h f.3 (begun_only f.0 f.1 f.2)

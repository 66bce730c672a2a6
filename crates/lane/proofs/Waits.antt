-- A take that tries again.
use Rattle.std.proofs.Common.{◌≡◌, ℕ, suc, ◌∷◌, length, false, sym, ap, ◌∙◌}
use Rattle.lane_core.specs.Machine as machine
use Rattle.lane.specs.declared.receipt.Taken.TheVariants.{Empty}
use Rattle.lane.specs.Told.{TakerNow, empties, IsTaken}

-- the taker after n looks that found nothing
abbrev pub Looked : TakerNow → TakerNow → ℕ → Type 0
Looked old now n = now ≡ record old { seen = now.seen; saw_closed = now.saw_closed; ended = now.ended; past = empties n old.past }

module _ (old mid new : TakerNow) (n : ℕ) (so_far : Looked old mid n) where
  pub looked_again : IsTaken mid new Empty → Looked old new (suc n)
  looked_again h = let is : new ≡ record old { seen = length old.got; saw_closed = false; ended = false; past = empties (suc n) old.past } = h ∙ ap (λ (m : TakerNow). record m { seen = length m.got; saw_closed = false; ended = false; past = (machine.take, machine.empty) ∷ m.past }) so_far in
      is ∙ ap (λ (m : TakerNow). record old { seen = m.seen; saw_closed = m.saw_closed; ended = m.ended; past = empties (suc n) old.past }) (sym is)

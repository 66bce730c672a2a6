-- What a feeding does to outputs.
use Rattle.std.specs.Prelude.{◌≡◌, ℕ, ◌+◌, ◌≤◌, Bool, List, [], ◌∷◌, ◌++◌, length, Result, Ok, Err}
use Rattle.rmx_media.specs.declared.packet.Packet.{Packet}
use Rattle.tee.specs.declared.fed.Fed.{Fed}
use Rattle.tee.specs.Fed.{is_stop}

-- p was given, and the answer tells whether it is dead now
pub record Takes (stopped : Bool) (p : Packet) (kept keeps : List Packet → Type 0) (old new : ℕ → Bool) : Type 0 where
  pub keeps_all : (given : List Packet) → kept given → keeps (given ++ p ∷ [])
  pub same : (given : List Packet) (u : ℕ) → kept given → u ≤ length given → new u ≡ old u
  pub told : (given : List Packet) → kept given → new (length given + 1) ≡ stopped

abbrev pub Answers : {E : Type 0} → Result Fed E → Packet → (List Packet → Type 0) → (List Packet → Type 0) → (ℕ → Bool) → (ℕ → Bool) → Type 0
Answers (Ok fed) p kept keeps old new = Takes (is_stop fed) p kept keeps old new
Answers (Err e) p kept keeps old new = Unit {0}

-- What clauses see of a sink, and what a write does to it.
use Rattle.std.specs.Prelude.{◌≡◌, ℕ, ◌-◌, ◌≤◌, List, ◌++◌, length, take, IsErr, Option, Result, Ok, Err, IfSome, IsSomeAnd}
use Rattle.rmx_edge.specs.Count.{most, Rose}
use Rattle.rmx_edge.specs.Inputs.{OnViews}

pub record SinkState : Type 0 where
  -- the bytes written, where it tells them
  pub bytes : Option (List ℕ)
  pub faults : ℕ
  -- for how many bytes it tells that it doesn't fail
  pub sound_for : Option ℕ

abbrev pub AddsBytes : {T E : Type 0} → List ℕ → Result T E → List ℕ → List ℕ → Type 0
AddsBytes piece (Ok _) old new = new ≡ old ++ piece
AddsBytes piece (Err _) old new = (kept : ℕ) × (new ≡ old ++ take kept piece)

pub record Puts {T E : Type 0} (piece : List ℕ) (r : Result T E) (old new : SinkState) : Type 0 where
  pub bytes : OnViews old.bytes new.bytes (AddsBytes piece r)
  pub faults : old.faults ≤ new.faults
  pub failed : IsErr r → Rose old.faults new.faults
  pub counted : new.faults ≤ most
  pub sound : IfSome old.sound_for (λ n. length piece ≤ n → (IsErr r → ⊥) × (new.faults ≡ old.faults) × IsSomeAnd new.sound_for (λ m. n - length piece ≤ m))

-- What clauses see of inputs, and what a call does to them.
use Rattle.std.specs.Prelude.{◌≡◌, ℕ, ◌≤◌, Bool, true, false, ◌||◌, ◌↔◌, List, [], ◌++◌, length, take, is_ok, IsErr, IfOk, Option, Result, Some, None, Ok, Err, nat_lt, ◌==◌}
use Rattle.rmx_edge.specs.Count.{most, Rose}

-- what inputs tell: the bytes of each name, those left of the one that is open, and whether a read of it has answered 0
pub record InputView : Type 0 where
  pub bytes_of : List ℕ → Option (List ℕ)
  pub left : List ℕ
  pub ended : Bool

pub record InputState : Type 0 where
  -- what they tell, where they do
  pub view : Option InputView
  -- an input is open and not spent
  pub readable : Bool
  pub faults : ℕ
  -- opening this name and reading it don't fail
  pub sound_at : List ℕ → Bool
  -- reading what is open doesn't fail
  pub sound_now : Bool

-- names that were sound stay so
abbrev pub KeepsSound : InputState → InputState → Type 0
KeepsSound old new = (name : List ℕ) → old.sound_at name ≡ true → new.sound_at name ≡ true

abbrev pub OpensView : {E : Type 0} → List ℕ → Result (Unit {0}) E → InputView → InputView → Type 0
OpensView name (Ok _) old new = (new.bytes_of ≡ old.bytes_of) × (old.bytes_of name ≡ Some new.left) × (new.ended ≡ false)
OpensView name (Err _) old new = new ≡ old

abbrev pub ReadsView : {E : Type 0} → Result ℕ E → List ℕ → InputView → InputView → Type 0
ReadsView (Ok n) buf old new = (new.bytes_of ≡ old.bytes_of) × (old.left ≡ take n buf ++ new.left) × ((n ≡ 0) ↔ (old.left ≡ [])) × (new.ended ≡ (old.ended || (n == 0)))
ReadsView (Err _) buf old new = new ≡ old

-- P of what was told and is told; what isn't told stays untold
abbrev pub OnViews : {V : Type 0} → Option V → Option V → (V → V → Type 0) → Type 0
OnViews None new P = new ≡ None
OnViews (Some old) None P = ⊥
OnViews (Some old) (Some new) P = P old new

pub record Opens {E : Type 0} (name : List ℕ) (r : Result (Unit {0}) E) (old new : InputState) : Type 0 where
  pub view : OnViews old.view new.view (OpensView name r)
  pub readable : new.readable ≡ is_ok r
  pub faults : old.faults ≤ new.faults
  pub failed : IsErr r → Rose old.faults new.faults
  pub counted : new.faults ≤ most
  pub sound_names : KeepsSound old new
  pub sound : old.sound_at name ≡ true → (IsErr r → ⊥) × (new.faults ≡ old.faults) × (new.sound_now ≡ true)

pub record Reads {E : Type 0} (r : Result ℕ E) (buf : List ℕ) (old new : InputState) : Type 0 where
  pub bound : IfOk r (λ n. n ≤ length buf)
  pub view : OnViews old.view new.view (ReadsView r buf)
  pub readable : IfOk r (λ n. new.readable ≡ nat_lt 0 n)
  pub spent : IsErr r → new.readable ≡ false
  pub faults : old.faults ≤ new.faults
  pub failed : IsErr r → Rose old.faults new.faults
  pub counted : new.faults ≤ most
  pub sound_names : KeepsSound old new
  pub sound : old.sound_now ≡ true → (IsErr r → ⊥) × (new.faults ≡ old.faults) × (new.sound_now ≡ true)

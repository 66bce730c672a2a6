-- What a clause sees of a receipt and of the counts at the end.
use Rattle.std.specs.Prelude.{ℕ, Bool, Option}

-- a refused offer: which refusal it is, the index of its message, how many were given before, how many of these were taken, and the bytes of those that waited
pub record ReceiptSide : Type 0 where
  pub number : ℕ
  pub index : ℕ
  pub accepted : ℕ
  pub head : ℕ
  pub bytes : ℕ

pub record CountsSide : Type 0 where
  pub given : ℕ
  pub got : ℕ
  pub overs : ℕ
  pub closed : Bool
  pub failed : Bool
  pub drops : Bool
  pub limit : ℕ
  pub asked : ℕ
  pub told : Option ℕ

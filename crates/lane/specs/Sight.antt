-- What the two seats of a lane know. T is the type of a message, and K what the lane is for.
use Rattle.std.specs.Prelude.{ℕ, List, Bool, Option}
use Rattle.lane.specs.Past.{Past}

-- what the giver gave, the count of the taken that it last saw, and the size for which it has the slot after the last given, if it has it
pub record Giving (T K : Type 0) : Type 0 where
  pub about : K
  pub given : List T
  pub seen : ℕ
  pub holds : Option ℕ

-- what the taker got, the count of the given that it last saw, and the message whose slot is out with it
pub record Taking (T K : Type 0) : Type 0 where
  pub about : K
  pub got : List T
  pub seen : ℕ
  pub hand : Option T

-- an offer that found the lane full: the message, how many were given before it, how many of these were taken, and the bytes of those that waited
pub record Refusal (T : Type 0) : Type 0 where
  pub item : Option T
  pub accepted : ℕ
  pub head : ℕ
  pub bytes : ℕ

-- the giver, which owes a refusal that is not counted yet, and was told of a failure by one of the questions that it asked
pub record GiverView (T K : Type 0) : Type 0 where
  pub flow : Giving T K
  pub refusals : List (Refusal T)
  pub owes : Bool
  pub closed : Bool
  pub asked : ℕ
  pub told : Option ℕ
  -- its events of the machine
  pub past : Past T

-- the taker, with the numbers of refusals that it saw, each beside how many it had got
pub record TakerView (T K : Type 0) : Type 0 where
  pub flow : Taking T K
  pub numbers : List (ℕ × ℕ)
  pub saw_closed : Bool
  pub ended : Bool
  pub failed : Bool
  -- it has seen the lane open, and has yet to look for a message
  pub looking : Bool
  pub past : Past T

-- The first seat is both at once. It is split into the giver and the taker, which `settle` joins again into one, so that the other is spent
pub data Sight (T K : Type 0) : Type 0 where
  both : GiverView T K → TakerView T K → Sight T K
  giver : GiverView T K → Sight T K
  taker : TakerView T K → Sight T K
  settled : GiverView T K → TakerView T K → Sight T K
  spent : Sight T K

-- What becomes of the messages of a worker's turn.
use Rattle.std.specs.Prelude.{◌≡◌, ℕ, ◌+◌, ◌≤◌, ◌<◌, Bool, true, false, nat_lt, List, ◌∷◌, ◌++◌, length, Some, slice_get, All}
use Rattle.lane.specs.declared.msg.Msg.{Msg}
use Rattle.slave.specs.Given.{Given}
use Rattle.slave.specs.Stretches.{Block, sent, swept, given_of, last_of, messages_of, numbers_of, size_limit, Sized}

abbrev pub given_for : Bool → ℕ → Msg → Given
given_for true n m = swept n m
given_for false n m = sent m

-- A message is flushed exactly where the number that its turn saw is above all that were seen before, and then by that number.
pub record IsTurnAt (front : List Block) (b : Block) (back : List Block) : Type 0 where
  pub turn : (j : ℕ) (m : Msg) → slice_get b.messages j ≡ Some m
      → slice_get (given_of 0 (front ++ b ∷ back)) (length (messages_of front) + j) ≡ Some (given_for (nat_lt (last_of 0 front) b.number) b.number m)
  -- the number was seen when just the messages before were got
  pub seen : slice_get (numbers_of 0 (front ++ b ∷ back)) (length front) ≡ Some (b.number, length (messages_of front))
  pub above : All (λ (p : ℕ × ℕ). p.0 ≤ last_of 0 front) (numbers_of 0 front)
  -- a later stretch has a greater number, and the least number of one is 1
  pub rises : nat_lt (last_of 0 front) b.number ≡ true → (0 < b.number) × (last_of 0 front < b.number)
  -- the messages of a flush are at most as many as may wait
  pub few : (size : ℕ) → Sized size 0 (front ++ b ∷ back) → length b.messages ≤ size_limit (nat_lt (last_of 0 front) b.number) size

abbrev pub TurnsAreExact : Type 0
TurnsAreExact = (front : List Block) (b : Block) (back : List Block) → IsTurnAt front b back

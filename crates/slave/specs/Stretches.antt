-- Which messages of its lane a worker flushes, by the numbers of refused offers that it saw.
use Rattle.std.specs.Prelude.{◌≡◌, ◌⊎◌, ℕ, ◌+◌, ◌≤◌, Bool, true, false, nat_lt, List, [], ◌∷◌, ◌++◌, length, map}
use Rattle.fifo_core.specs.declared.types.FifoOptions.{FifoOptions}
use Rattle.fifo_core.specs.History.{History, mode_of, mode_is_dead}
use Rattle.fifo_core.specs.Follows.{Follows}
use Rattle.lane.specs.declared.msg.Msg.{Msg}
use Rattle.slave.specs.Origin.{Origin}
use Rattle.slave.specs.Given.{Given, Sent, Swept, index_of, turn_of}
use Rattle.slave.specs.Job.{JobView}
use Rattle.slave.specs.Table.{GrowsAll}

-- a turn of the worker: the number of refused offers that it saw, and the messages that it then took
pub record Block : Type 0 where
  pub number : ℕ
  pub messages : List Msg

abbrev pub sent : Msg → Given
sent m = Sent m.index m.packet

abbrev pub swept : ℕ → Msg → Given
swept v m = Swept m.index v

-- all messages of the turn are flushed where its number is above those seen before
abbrev pub given_in : Bool → Block → List Given
given_in true b = map (swept b.number) b.messages
given_in false b = map sent b.messages

abbrev pub larger : Bool → ℕ → ℕ → ℕ
larger true number last = number
larger false number last = last

-- what these turns give the output, where `last` is the largest number seen before
abbrev pub given_of : ℕ → List Block → List Given
given_of last [] = []
given_of last (b ∷ bs) = given_in (nat_lt last b.number) b ++ given_of (larger (nat_lt last b.number) b.number last) bs

-- the largest number seen
abbrev pub last_of : ℕ → List Block → ℕ
last_of last [] = last
last_of last (b ∷ bs) = last_of (larger (nat_lt last b.number) b.number last) bs

abbrev pub messages_of : List Block → List Msg
messages_of [] = []
messages_of (b ∷ bs) = b.messages ++ messages_of bs

-- each number, beside how many messages were got before
abbrev pub numbers_of : ℕ → List Block → List (ℕ × ℕ)
numbers_of got [] = []
numbers_of got (b ∷ bs) = (b.number, got) ∷ numbers_of (got + length b.messages) bs

abbrev pub size_limit : Bool → ℕ → ℕ
size_limit true size = size
size_limit false size = 1

-- at most `size` messages are flushed in a turn, and at most one is written
abbrev pub Sized : ℕ → ℕ → List Block → Type 0
Sized size last [] = Unit {0}
Sized size last (b ∷ bs) =
    (length b.messages ≤ size_limit (nat_lt last b.number) size) × Sized size (larger (nat_lt last b.number) b.number last) bs

-- the part of an output's history that belongs to what it was given first
pub record Part (g : Origin) (o : FifoOptions) (ts : List Given) (whole : History) : Type 0 where
  pub history : History
  pub later : History
  pub goes_on : whole ≡ later ++ history
  pub follows : Follows o (map (turn_of g) ts) history

-- the output wasn't given up by then
pub record Lives (g : Origin) (o : FifoOptions) (ts : List Given) (whole : History) : Type 0 where
  pub part : Part g o ts whole
  pub lives : mode_is_dead (mode_of o part.history) ≡ false

-- the output was given up by then, and stayed so
pub record GaveUp (g : Origin) (o : FifoOptions) (ts : List Given) (whole : History) : Type 0 where
  pub part : Part g o ts whole
  pub gone : mode_is_dead (mode_of o part.history) ≡ true
  pub stays : mode_is_dead (mode_of o whole) ≡ true

-- The worker's turns until the output was given up, before each of which the output wasn't, and the messages that it took
-- after that. For these no number was seen.
pub record Stretches (g : Origin) (o : FifoOptions) (given : List Given) (h : History) (got : List Msg) (numbers : List (ℕ × ℕ)) : Type 0 where
  pub blocks : List Block
  pub after : List Msg
  pub got_is : got ≡ messages_of blocks ++ after
  pub given_is : given ≡ given_of 0 blocks ++ map sent after
  pub numbers_are : numbers ≡ numbers_of 0 blocks
  pub sized : Sized o.queue_size 0 blocks
  pub before : (front : List Block) (b : Block) (back : List Block) → blocks ≡ front ++ b ∷ back → Lives g o (given_of 0 front) h
  pub gave_up : (after ≡ []) ⊎ GaveUp g o (given_of 0 blocks) h

-- these were given for these messages, in order
abbrev pub AreOf : List Given → List Msg → Type 0
AreOf T got = map index_of T ≡ map (λ (m : Msg). m.index) got

-- at most `size` messages more were got and flushed
pub record Flushed (g : Origin) (o : FifoOptions) (T : List Given) (before : History) (number size : ℕ) (got more : List Msg) (v : JobView) : Type 0 where
  pub messages : List Msg
  pub got_is : more ≡ got ++ messages
  pub few : length messages ≤ size
  pub given : List Given
  pub given_is : given ≡ T ++ map (swept number) messages
  pub grows : GrowsAll g o given before v

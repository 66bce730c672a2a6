-- What a clause sees of a lane, of its two ends and of what they leave.
use Rattle.std.specs.Prelude.{ℕ, List, Bool, Option}
use Rattle.atomic_table.specs.Seated.{TableId}
use Rattle.lane.specs.Sight.{Refusal, GiverView, TakerView, Sight, both, giver, taker, settled, spent}
use Rattle.lane.specs.Past.{Past}
use Rattle.lane.specs.Ring.{new_giver, new_taker}

pub record LaneSide : Type 0 where
  pub ring : TableId
  -- how many messages may wait
  pub cap : ℕ

pub record GiverEnd (T K : Type 0) : Type 0 where
  -- which lane it is an end of
  pub ring : TableId
  -- what the lane is for
  pub about : K
  -- what was given, oldest first
  pub given : List T
  -- how many it last saw to be taken
  pub seen : ℕ
  -- the offers that found the lane full
  pub refusals : List (Refusal T)
  pub closed : Bool
  -- how often it asked whether the taker failed, and the first question that was answered by yes
  pub asked : ℕ
  pub told : Option ℕ
  -- its events of the machine, newest first
  pub past : Past T

pub record TakerEnd (T K : Type 0) : Type 0 where
  pub ring : TableId
  pub about : K
  -- what was got, oldest first
  pub got : List T
  -- how many it last saw to be given
  pub seen : ℕ
  -- the numbers of refusals that it saw, each beside how many it had got
  pub numbers : List (ℕ × ℕ)
  -- whether it saw the giver to be closed
  pub saw_closed : Bool
  -- whether it saw that nothing more comes
  pub ended : Bool
  pub failed : Bool
  pub past : Past T

module _ {T K : Type 0} where
  abbrev pub giver_in : K → Sight T K → GiverView T K
  giver_in k (giver g) = g
  giver_in k (both g t) = new_giver k
  giver_in k (taker t) = new_giver k
  giver_in k (settled g t) = new_giver k
  giver_in k spent = new_giver k

  abbrev pub taker_in : K → Sight T K → TakerView T K
  taker_in k (taker t) = t
  taker_in k (both g t) = new_taker k
  taker_in k (giver g) = new_taker k
  taker_in k (settled g t) = new_taker k
  taker_in k spent = new_taker k

  abbrev pub giver_end : TableId → K → GiverView T K → GiverEnd T K
  giver_end z k g = record { ring = z; about = k; given = g.flow.given; seen = g.flow.seen; refusals = g.refusals; closed = g.closed; asked = g.asked; told = g.told; past = g.past }

  abbrev pub taker_end : TableId → K → TakerView T K → TakerEnd T K
  taker_end z k t = record { ring = z; about = k; got = t.flow.got; seen = t.flow.seen; numbers = t.numbers; saw_closed = t.saw_closed; ended = t.ended; failed = t.failed; past = t.past }

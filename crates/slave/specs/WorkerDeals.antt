-- A worker passes on what its lane gave, and what it flushes comes in stretches.
use Rattle.std.specs.Prelude.{ℕ, ◌≤◌, List}
use Rattle.fifo_core.specs.declared.types.FifoOptions.{FifoOptions}
use Rattle.fifo_core.specs.History.{History}
use Rattle.lane.specs.declared.msg.Msg.{Msg}
use Rattle.slave.specs.Origin.{Origin}
use Rattle.slave.specs.Given.{Given}
use Rattle.slave.specs.AccountsAll.{SweptAt}
use Rattle.slave.specs.LaneAccounts.{SweptStretch}
use Rattle.slave.specs.LaneAccounts.{PassedOn}
use Rattle.slave.specs.Stretches.{Stretches}

abbrev pub WorkersPassOn : Type 0
WorkersPassOn = (g : Origin) (o : FifoOptions) (T : List Given) (h : History) (got : List Msg) (numbers : List (ℕ × ℕ)) → Stretches g o T h got numbers
    → PassedOn T got × ((i v : ℕ) → SweptAt T i v → (1 ≤ v) × SweptStretch o.queue_size numbers v T)

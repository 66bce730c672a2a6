-- The outputs of a run, before the first packet.
use Rattle.std.specs.Prelude.{Bool, List}
use Rattle.tee.specs.Seat.{Seat}

pub record Lineup : Type 0 where
  pub seats : List Seat
  -- which of them have threads of their own; none has where this is empty
  pub threads : List Bool

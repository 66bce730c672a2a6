-- What an output's lane was offered.
use Rattle.std.specs.Prelude.{◌≡◌, ℕ, ◌+◌, List, length}
use Rattle.lane.specs.Follows.{next_index}
use Rattle.lane.specs.Sides.{ReceiptSide}
use Rattle.lane.specs.Told.{GiverNow}
use Rattle.rmx_media.specs.declared.packet.Packet.{Packet}
use Rattle.slave.specs.Handed.{Handed}

-- these packets were offered to a lane of these bounds, numbered from 0: each was given, or refused with a receipt
pub record Offered (cap limit : ℕ) (L : List Packet) (giver : GiverNow) (receipts : List ReceiptSide) : Type 0 where
  pub handed : Handed cap limit L giver.given giver.refusals receipts
  pub counted : length giver.given + length giver.refusals ≡ length L
  pub next : next_index giver.past ≡ length L

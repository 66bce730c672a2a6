-- An output with a thread of its own, as the reader's end of its lane shows it.
use Rattle.std.specs.Prelude.{◌≡◌, ◌⊎◌, ℕ, ◌<◌, true, List, [], ◌∷◌, ◌++◌, length, Option, is_some}
use Rattle.std.specs.Arc.{arc_value}
use Rattle.lane_core.specs.Machine as machine
use Rattle.lane.specs.declared.msg.Msg.{Msg}
use Rattle.lane.specs.declared.msg.Purpose.{Purpose}
use Rattle.lane.specs.Sides.{ReceiptSide}
use Rattle.lane.specs.Told.{GiverNow, IsGiven, IsRefused}
use Rattle.rmx_media.specs.declared.packet.Packet.{Packet}
use Rattle.rmx_media.specs.declared.streams.StreamInfo.{StreamInfo}
use Rattle.rmx_media.specs.Fits.{Fits}
use Rattle.slave.specs.Purpose.{IsFor}
use Rattle.slave.specs.Table.{Takes}
use Rattle.tee.specs.Offers.{Offered}
use Rattle.tee.specs.Keeps.{IsWithin}
use Rattle.tee.specs.Route.{IsPlaced}
use Rattle.tee.specs.Seat.{Seat, chosen}
use Rattle.tee.specs.declared.sender.Sender.{Sender}

-- there is a place for a receipt, where offers may be refused
abbrev pub HasPlace : Sender → Type 0
HasPlace s = s.drops ≡ true → 0 < s.receipts.spare

-- the message was given, or refused with a receipt
abbrev pub Goes : ℕ → Msg → GiverNow → GiverNow → List ReceiptSide → List ReceiptSide → Type 0
Goes n m old new before after =
    (IsGiven n old new m × (after ≡ before)) ⊎ ((back : Msg) × (r : ReceiptSide) × IsRefused n old new m back r × (after ≡ before ++ r ∷ []))

pub record Hands (m : Msg) (old new : Sender) : Type 0 where
  pub lane : new.lane ≡ old.lane
  pub choice : new.choice ≡ old.choice
  pub count : new.count ≡ old.count
  pub cap : new.cap ≡ old.cap
  pub drops : new.drops ≡ old.drops
  pub failed : new.failed ≡ old.failed
  pub gone : Goes (arc_value old.lane).cap m old.giver new.giver old.receipts.items new.receipts.items

-- the same lane and end of it
pub record SameEnd (old new : Sender) : Type 0 where
  pub ring : new.giver.ring ≡ old.giver.ring
  pub about : new.giver.about ≡ old.giver.about
  pub closed : new.giver.closed ≡ old.giver.closed

-- nothing more comes
pub record Shuts (old new : Sender) : Type 0 where
  pub lane : new.lane ≡ old.lane
  pub receipts : new.receipts ≡ old.receipts
  pub choice : new.choice ≡ old.choice
  pub count : new.count ≡ old.count
  pub cap : new.cap ≡ old.cap
  pub drops : new.drops ≡ old.drops
  pub failed : new.failed ≡ old.failed
  pub giver : new.giver ≡ record old.giver { closed = true; past = (machine.close, machine.done) ∷ old.giver.past }

-- a lane of so many places and for this is that of the output at a seat
pub record IsLaneOf (seat : Seat) (cap : ℕ) (about : Purpose) : Type 0 where
  pub cap_is : cap ≡ seat.slave.fifo.queue_size
  pub limit : about.limit ≡ seat.slave.fifo.queue_bytes
  pub drops : about.drops ≡ seat.slave.fifo.dropping
  -- it is for the packets that the output takes
  pub carries : (p : Packet) → Takes seat.origin p → Fits about.format about.streams.value p
  pub brings : IsFor seat.origin about

-- the output at a seat was offered what it takes of these packets, and asked so often whether it was given up, with this answer
pub record Rides (infos : List StreamInfo) (given : List Packet) (asked : ℕ) (seat : Seat) (told : Option ℕ) (s : Sender) : Type 0 where
  pub placed : IsPlaced infos seat s.choice
  pub threaded : seat.slave.fifo.use_fifo ≡ true
  pub lane : IsLaneOf seat (arc_value s.lane).cap s.giver.about
  pub offered : Offered seat.slave.fifo.queue_size seat.slave.fifo.queue_bytes (chosen seat given) s.giver s.receipts.items
  pub count : s.count ≡ length (chosen seat given)
  pub cap : s.cap ≡ seat.slave.fifo.queue_size
  pub drops : s.drops ≡ seat.slave.fifo.dropping
  pub asked_is : s.giver.asked ≡ asked
  pub told_is : s.giver.told ≡ told
  pub knows : s.failed ≡ is_some told
  pub within : IsWithin told asked

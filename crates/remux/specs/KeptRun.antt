-- What is promised of each output of a run, some of which had threads of their own, whatever happened and whatever the schedule.
use Rattle.std.specs.Prelude.{◌≡◌, true, List, [], ◌∷◌, Option, Some, None}
use Rattle.fifo_core.specs.declared.types.FifoOptions.{FifoOptions}
use Rattle.rmx_edge.specs.Count.{Rose}
use Rattle.rmx_media.specs.declared.packet.Packet.{Packet}
use Rattle.slave.specs.declared.records.LaneNote.{LaneNote}
use Rattle.slave.specs.Accounts.{Accounts}
use Rattle.slave.specs.LaneAccounts.{AccountsLane}
use Rattle.slave.specs.Origin.{Origin}
use Rattle.slave.specs.End.{EndView}
use Rattle.slave.specs.Headline.{HoldsAll, WantsForList}
use Rattle.tee.specs.Seat.{Seat, chosen}
use Rattle.tee.specs.Schedule.{IsBlocking}

-- each packet has one recorded cause; refusals and flushes are among them where the output had a lane
abbrev pub AccountsBy : Option LaneNote → Origin → FifoOptions → List Packet → EndView → Type 0
AccountsBy None g o L e = Accounts g o L e
AccountsBy (Some note) g o L e = AccountsLane g o L note e

-- A blocking output whose shelf had no fault and no want holds exactly its format's files over all packets that it was given, but
-- that one that asks for a list of its segments may end for want of memory. Every other one holds, session by session and in
-- order, a part of them in which each missing packet has one recorded cause.
pub record IsKeptRun (seat : Seat) (given : List Packet) (e : EndView) : Type 0 where
  pub accounts : AccountsBy e.lane seat.origin seat.slave.fifo (chosen seat given) e
  pub whole : IsBlocking seat e → (Rose seat.origin.shelf.faults e.shelf.faults → ⊥) → (Rose seat.origin.shelf.wants e.shelf.wants → ⊥)
      → (WantsForList seat.origin e → ⊥) → HoldsAll seat.origin (chosen seat given) e
  pub sound : seat.origin.shelf.sound ≡ true → e.shelf.faults ≡ seat.origin.shelf.faults

abbrev pub AreKeptRun : List Seat → List Packet → List EndView → Type 0
AreKeptRun [] given [] = Unit {0}
AreKeptRun (s ∷ ss) given (e ∷ es) = IsKeptRun s given e × AreKeptRun ss given es
AreKeptRun [] given (e ∷ es) = ⊥
AreKeptRun (s ∷ ss) given [] = ⊥

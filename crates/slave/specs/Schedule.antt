-- What the schedule of the threads can't change.
use Rattle.std.specs.Prelude.{◌≡◌, ◌≢◌, ◌⊎◌, ℕ, Bool, false, List, [], map}
use Rattle.fifo_core.specs.declared.types.FifoOptions.{FifoOptions}
use Rattle.fifo_core.specs.declared.types.EndState.TheVariants as ends
use Rattle.rmx_edge.specs.Shelf.{ShelfState}
use Rattle.rmx_media.specs.declared.packet.Packet.{Packet}
use Rattle.slave.specs.declared.records.FaultAt.{FaultAt}
use Rattle.slave.specs.declared.records.FaultNote.{FaultNote}
use Rattle.slave.specs.declared.records.LaneNote.{LaneNote}
use Rattle.slave.specs.Origin.{Origin}
use Rattle.slave.specs.Given.{Given}
use Rattle.slave.specs.Runs.{expand}
use Rattle.slave.specs.End.{EndView, Ended, EndedAll}
use Rattle.slave.specs.LaneAccounts.{AddsLane, Dealt}

-- the session and the call at which a fault was noted
abbrev pub place_of : FaultNote → ℕ × FaultAt
place_of n = (n.session, n.at)

-- the end of an output behind a lane that refused nothing
pub record EndsUnrefused (g : Origin) (o : FifoOptions) (L : List Packet) (e : EndView) : Type 0 where
  pub turns : List Given
  pub numbers : List (ℕ × ℕ)
  pub left : EndView
  pub ended : EndedAll g o turns left
  pub note : LaneNote
  pub dealt : Dealt L turns numbers note
  pub short : Bool
  pub adds : AddsLane note left e short
  pub blocks : note.receipts.items ≡ []

-- the end of an output that was given each of its packets, by the reader or by a lane that refused none
abbrev pub EndsBlocking : Origin → FifoOptions → List Packet → EndView → Type 0
EndsBlocking g o L e = Ended g o L (record e { inline = false }) ⊎ EndsUnrefused g o L e

-- Two ends of one output over the same packets, with a thread or without, on shelves whose faults were noted at the same calls: each
-- packet has the same fate, and sessions and state are the same, unless memory was wanted.
abbrev pub FaultsDecide : Type 0
FaultsDecide = (g : Origin) (s : ShelfState) (o : FifoOptions) (L : List Packet) (d e : EndView)
    → EndsBlocking g o L d → EndsBlocking (record g { shelf = s }) o L e
    → d.state ≢ ends.NoMemory → e.state ≢ ends.NoMemory → map place_of d.faults ≡ map place_of e.faults
    → (expand d.fates ≡ expand e.fates) × (d.sessions ≡ e.sessions) × (d.state ≡ e.state)

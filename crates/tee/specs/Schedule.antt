-- What the schedule of a run's threads can't change.
use Rattle.std.specs.Prelude.{◌≡◌, ◌≢◌, ◌⊎◌, true, false, List, map}
use Rattle.fifo_core.specs.declared.types.EndState.TheVariants as ends
use Rattle.rmx_edge.specs.Shelf.{ShelfState}
use Rattle.rmx_media.specs.declared.packet.Packet.{Packet}
use Rattle.slave.specs.Runs.{expand}
use Rattle.slave.specs.End.{EndView}
use Rattle.slave.specs.Schedule.{place_of}
use Rattle.tee.specs.RunEnds.{EndsOn}
use Rattle.tee.specs.Seat.{Seat, chosen}
use Rattle.tee.specs.Tracks.{Track}

-- packets wait for the output rather than be refused: it asks for no thread, or its lane waits, or the reader wrote it in its thread's place
abbrev pub IsBlocking : Seat → EndView → Type 0
IsBlocking seat e = (seat.slave.fifo.use_fifo ≡ false) ⊎ ((seat.slave.fifo.dropping ≡ false) ⊎ (e.inline ≡ true))

-- Of two runs, take the ends of an output that blocked in both and got the same packets, with a thread or without, on shelves whose
-- faults were noted at the same calls: each packet has the same fate, and sessions and state are the same, unless memory was wanted.
abbrev pub SchedulePlaysNoPart : Type 0
SchedulePlaysNoPart = (seat : Seat) (s : ShelfState) (given more : List Packet) (t u : Track) (d e : EndView) → IsBlocking seat d → IsBlocking seat e
    → chosen seat given ≡ chosen seat more → EndsOn given seat t d → EndsOn more (record seat { origin = record seat.origin { shelf = s } }) u e
    → d.state ≢ ends.NoMemory → e.state ≢ ends.NoMemory → map place_of d.faults ≡ map place_of e.faults
    → (expand d.fates ≡ expand e.fates) × (d.sessions ≡ e.sessions) × (d.state ≡ e.state)

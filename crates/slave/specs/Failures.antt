-- What is known of an output that failed.
use Rattle.std.specs.Prelude.{◌≡◌, ◌≢◌, List, []}
use Rattle.fifo_core.specs.declared.types.FifoOptions.{FifoOptions}
use Rattle.fifo_core.specs.declared.types.EndState.TheVariants as ends
use Rattle.rmx_edge.specs.Count.{Rose}
use Rattle.rmx_media.specs.declared.packet.Packet.{Packet}
use Rattle.slave.specs.Origin.{Origin}
use Rattle.slave.specs.Given.{Given}
use Rattle.slave.specs.End.{EndView, Ended, EndedAll}

-- it has a note of a fault, and its shelf's count of faults rose
abbrev pub FailuresAreNoted : Type 0
FailuresAreNoted =
    ((g : Origin) (o : FifoOptions) (L : List Packet) (e : EndView) → Ended g o L e → e.state ≡ ends.Failed → (e.faults ≢ []) × Rose g.shelf.faults e.shelf.faults)
    × ((g : Origin) (o : FifoOptions) (T : List Given) (e : EndView) → EndedAll g o T e → e.state ≡ ends.Failed → (e.faults ≢ []) × Rose g.shelf.faults e.shelf.faults)

use Rattle.std.proofs.Common.{List, drop}
use Rattle.fifo_core.specs.History.{History}
use Rattle.rmx_media.specs.declared.packet.Packet.{Packet}
use Rattle.rmx_media.specs.declared.streams.StreamInfo.{StreamInfo}
use Rattle.tee.specs.Seat.{Seat}
use Rattle.tee.specs.Sits.{AllSit}
use Rattle.tee.proofs.Over.{StillTo}
use Rattle.tee.proofs.feeding.is_over.Given as goal

abbrev pub invariant-loop-slave : goal.invariant-loop-slave
invariant-loop-slave g l = (infos : List StreamInfo) (given : List Packet) (seats : List Seat) (histories : List History)
    → AllSit g.S.Shelf.state infos given seats histories l.slaves → StillTo g.S.Shelf.state infos given seats histories l.all (drop l.slave-index l.slaves)

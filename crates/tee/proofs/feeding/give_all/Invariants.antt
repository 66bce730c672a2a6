use Rattle.std.proofs.Common.{List}
use Rattle.fifo_core.specs.History.{History}
use Rattle.rmx_media.specs.declared.packet.Packet.{Packet}
use Rattle.rmx_media.specs.declared.streams.StreamInfo.{StreamInfo}
use Rattle.tee.specs.Route.{AllFiltered}
use Rattle.tee.specs.Seat.{Seat}
use Rattle.tee.specs.Sits.{AllSit}
use Rattle.tee.proofs.Slots.{Between}
use Rattle.tee.proofs.feeding.give_all.Given as goal

abbrev pub invariant-loop-place : goal.invariant-loop-place
invariant-loop-place g l = (infos : List StreamInfo) (given : List Packet) (seats : List Seat) (histories : List History)
    → AllSit g.S.Shelf.state infos given seats histories l.fn.slaves → AllFiltered seats l.p l.filtered
    → Between g.S.Shelf.state infos given l.p l.place seats histories l.slaves

use Rattle.std.proofs.Common.{List, [], ◌∷◌, ◌++◌}
use Rattle.fifo_core.specs.History.{History}
use Rattle.rmx_media.specs.declared.packet.Packet.{Packet}
use Rattle.rmx_media.specs.declared.streams.StreamInfo.{StreamInfo}
use Rattle.tee.specs.Each.{Each3, Between3}
use Rattle.tee.specs.Seat.{Seat}
use Rattle.tee.specs.Sits.{Passes, SitsOn}
use Rattle.tee.proofs.feeding.pass_all.Given as goal

abbrev pub invariant-loop-slave : goal.invariant-loop-slave
invariant-loop-slave g l = (infos : List StreamInfo) (given : List Packet) (seats : List Seat) (histories : List History)
    → Each3 (Passes g.S.Shelf.state infos given l.p) seats histories l.fn.slaves
    → Between3 (Passes g.S.Shelf.state infos given l.p) (SitsOn g.S.Shelf.state infos (given ++ l.p ∷ [])) l.slave-index seats histories l.slaves

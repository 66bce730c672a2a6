use Rattle.std.proofs.Common.{List, drop, ℕ, false}
use Rattle.rmx_media.specs.declared.packet.Packet.{Packet}
use Rattle.rmx_media.specs.declared.streams.StreamInfo.{StreamInfo}
use Rattle.tee.specs.Attends.{Attends}
use Rattle.tee.specs.Each.{Each3}
use Rattle.tee.specs.Seat.{Seat}
use Rattle.tee.specs.Tracks.{Track}
use Rattle.tee.proofs.Attending.{LeftTo}
use Rattle.tee.proofs.run_feeding.is_any_over.Given as goal

abbrev pub invariant-loop-outlet : goal.invariant-loop-outlet
invariant-loop-outlet g l = (infos : List StreamInfo) (given : List Packet) (asked : ℕ) (seats : List Seat) (tracks : List Track)
    → Each3 (Attends g.S.Shelf.state infos given asked false) seats tracks l.outlets → LeftTo g.S.Shelf.state infos given asked seats tracks l.all (drop l.outlet-index l.outlets)

use Rattle.std.proofs.Common.{List, ℕ, false}
use Rattle.rmx_media.specs.declared.packet.Packet.{Packet}
use Rattle.rmx_media.specs.declared.streams.StreamInfo.{StreamInfo}
use Rattle.rmx_media.specs.Streams.{AreInfos}
use Rattle.tee.specs.Attends.{Attends, IsReady}
use Rattle.tee.specs.Each.{Each3, Between3}
use Rattle.tee.specs.Seat.{Seat, IsInput}
use Rattle.tee.specs.Tracks.{Track}
use Rattle.tee.proofs.run_feeding.prepare_each.Given as goal

abbrev pub invariant-loop-outlet : goal.invariant-loop-outlet
invariant-loop-outlet g l = record {
  same : (infos : List StreamInfo) (given : List Packet) (asked : ℕ) (seats : List Seat) (tracks : List Track)
      → Each3 (Attends g.S.Shelf.state infos given asked false) seats tracks l.fn.outlets → Each3 (Attends g.S.Shelf.state infos given asked false) seats tracks l.outlets;
  between : (infos : List StreamInfo) (given : List Packet) (asked : ℕ) (seats : List Seat) (tracks : List Track) → AreInfos infos → IsInput infos l.p
      → Each3 (Attends g.S.Shelf.state infos given asked false) seats tracks l.fn.outlets
      → Between3 (Attends g.S.Shelf.state infos given asked false) (IsReady g.S.Shelf.state infos given asked l.p) l.outlet-index seats tracks l.outlets;
}

use Rattle.std.proofs.Common.{List, [], ◌∷◌, ◌++◌, ℕ, ◌+◌}
use Rattle.rmx_media.specs.declared.packet.Packet.{Packet}
use Rattle.rmx_media.specs.declared.streams.StreamInfo.{StreamInfo}
use Rattle.tee.specs.Attends.{AttendsOn, IsReady}
use Rattle.tee.specs.Each.{Each3, Between3}
use Rattle.tee.specs.Seat.{Seat}
use Rattle.tee.specs.Tracks.{Track}
use Rattle.tee.proofs.run_feeding.give_each.Given as goal

abbrev pub invariant-loop-number : goal.invariant-loop-number
invariant-loop-number g l = (infos : List StreamInfo) (given : List Packet) (asked : ℕ) (seats : List Seat) (tracks : List Track)
    → Each3 (IsReady g.S.Shelf.state infos given asked l.p) seats tracks l.fn.outlets
    → Between3 (IsReady g.S.Shelf.state infos given asked l.p) (AttendsOn g.S.Shelf.state infos (given ++ l.p ∷ []) asked (asked + 1)) l.number seats tracks l.outlets

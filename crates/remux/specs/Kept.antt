-- What is promised of each output, whatever happened.
use Rattle.std.specs.Prelude.{◌≡◌, List, [], ◌∷◌}
use Rattle.rmx_edge.specs.Count.{Rose}
use Rattle.rmx_media.specs.declared.packet.Packet.{Packet}
use Rattle.slave.specs.Accounts.{Accounts}
use Rattle.slave.specs.End.{EndView}
use Rattle.slave.specs.Headline.{HoldsAll, WantsForList}
use Rattle.tee.specs.Seat.{Seat, chosen}

-- An output whose shelf had no fault and no want holds exactly its format's files over all packets that it was given, but that one
-- that asks for a list of its segments may end for want of memory. Every other one holds, session by session and in order, a part of them in which each missing packet has one recorded cause.
pub record IsKept (seat : Seat) (given : List Packet) (e : EndView) : Type 0 where
  pub accounts : Accounts seat.origin seat.slave.fifo (chosen seat given) e
  pub whole : (Rose seat.origin.shelf.faults e.shelf.faults → ⊥) → (Rose seat.origin.shelf.wants e.shelf.wants → ⊥) → (WantsForList seat.origin e → ⊥) → HoldsAll seat.origin (chosen seat given) e
  pub sound : seat.origin.shelf.sound ≡ Rattle.std.specs.Prelude.true → e.shelf.faults ≡ seat.origin.shelf.faults

abbrev pub AreKept : List Seat → List Packet → List EndView → Type 0
AreKept [] given [] = Unit {0}
AreKept (s ∷ ss) given (e ∷ es) = IsKept s given e × AreKept ss given es
AreKept [] given (e ∷ es) = ⊥
AreKept (s ∷ ss) given [] = ⊥

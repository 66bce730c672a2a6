-- An output of a run before it has its shelf, and once it has it.
use Rattle.std.specs.Prelude.{ℕ, ◌+◌, Bool, false, List, [], ◌∷◌, Option}
use Rattle.lane.specs.Ring.{one_if}
use Rattle.options.specs.Slave.{Slave}
use Rattle.rmx_edge.specs.Shelf.{ShelfState}
use Rattle.rmx_edge.specs.declared.shelf.Shelf.{Ghosts}
use Rattle.rmx_media.specs.declared.streams.StreamInfo.{StreamInfo}
use Rattle.tee.specs.Attends.{Attends}
use Rattle.tee.specs.Draft.{IsDraft}
use Rattle.tee.specs.Each.{Each3}
use Rattle.tee.specs.LaneKits.{IsKitOf}
use Rattle.tee.specs.Seat.{AreSeats, IsSeat, Seat}
use Rattle.tee.specs.Tracks.{Track}
use Rattle.tee.specs.declared.berth.Berth.{Berth}
use Rattle.tee.specs.declared.outlet.Outlet.{Outlet}
use Rattle.tee.specs.declared.outlet.Outlet.TheVariants as outlet

-- it was made for the output of that plan
pub record IsBerth {G : Type 0} (infos : List StreamInfo) (script : Option (List ℕ)) (s : Slave) (berth : Berth G) : Type 0 where
  pub draft : IsDraft infos script s berth.draft
  pub lane : IsKitOf infos s berth.lane

-- the output was opened on that shelf
pub record IsOpenOn {S G : Type 0} {ghosts : Ghosts S} (state : S → ShelfState) (infos : List StreamInfo) (script : Option (List ℕ)) (s : Slave) (shelf : S) (o : Outlet S G ghosts) : Type 0 where
  pub seat : Seat
  pub is_seat : IsSeat s infos script (state shelf) seat
  pub track : Track
  pub attends : Attends state infos [] 0 false seat track o

-- the outputs were opened on the first of these shelves, and the others are left
pub record AreOpenOn {S G : Type 0} {ghosts : Ghosts S} (state : S → ShelfState) (infos : List StreamInfo) (script : Option (List ℕ)) (plans : List Slave) (shelves : List S)
    (outlets : List (Outlet S G ghosts)) (rest : List S) : Type 0 where
  pub seats : List Seat
  pub are_seats : AreSeats state infos script plans shelves seats rest
  pub tracks : List Track
  pub attend : Each3 (Attends state infos [] 0 false) seats tracks outlets

-- whether the reader writes an output that was to have a thread
abbrev pub is_inline : {S G : Type 0} {ghosts : Ghosts S} → Outlet S G ghosts → Bool
is_inline (outlet.Here slave inline left) = inline
is_inline (outlet.There sender running) = false

abbrev pub inlines : {S G : Type 0} {ghosts : Ghosts S} → List (Outlet S G ghosts) → ℕ
inlines [] = 0
inlines (o ∷ os) = one_if (is_inline o) + inlines os

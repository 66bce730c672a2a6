-- An output before it has its shelf, and once it has it.
use Rattle.std.specs.Prelude.{◌≡◌, ℕ, List, [], Option}
use Rattle.fifo_core.specs.History.{History}
use Rattle.options.specs.Slave.{Slave}
use Rattle.options.specs.Valid.{IsValid}
use Rattle.rmx_edge.specs.Shelf.{ShelfState}
use Rattle.rmx_edge.specs.declared.shelf.Shelf.{Ghosts}
use Rattle.rmx_media.specs.declared.streams.MuxStreams.{MuxStreams}
use Rattle.rmx_media.specs.declared.streams.StreamInfo.{StreamInfo}
use Rattle.slave.specs.Prepared.{IsPrepared}
use Rattle.tee.specs.Choice.{chosen_streams}
use Rattle.tee.specs.Route.{IsRoute}
use Rattle.tee.specs.Seat.{AreSeats, IsSeat, Seat}
use Rattle.tee.specs.Sits.{AllSit, Sits}
use Rattle.tee.specs.declared.draft.Draft.{Draft}
use Rattle.tee.specs.declared.output.TeeSlave.{TeeSlave}

-- it was made for the output of that plan
pub record IsDraft (infos : List StreamInfo) (script : Option (List ℕ)) (s : Slave) (draft : Draft) : Type 0 where
  pub streams : MuxStreams
  pub are_chosen : streams.streams.items ≡ chosen_streams s infos
  pub script_is : streams.script ≡ script
  pub prepared : IsPrepared s.name s.format s.seg s.fifo streams draft.kit
  pub valid : IsValid s
  pub abort : draft.choice.abort ≡ s.abort
  pub first : IsRoute (chosen_streams s infos) s.chains 0 draft.choice.first
  pub second : IsRoute (chosen_streams s infos) s.chains 1 draft.choice.second

-- the output was opened on that shelf
pub record IsOpen {S : Type 0} {ghosts : Ghosts S} (state : S → ShelfState) (infos : List StreamInfo) (script : Option (List ℕ)) (s : Slave) (shelf : S) (slave : TeeSlave S ghosts) : Type 0 where
  pub seat : Seat
  pub is_seat : IsSeat s infos script (state shelf) seat
  pub history : History
  pub sits : Sits state infos [] seat history slave

-- the outputs were opened on the first of these shelves, and the others are left
pub record AreOpen {S : Type 0} {ghosts : Ghosts S} (state : S → ShelfState) (infos : List StreamInfo) (script : Option (List ℕ)) (plans : List Slave) (shelves : List S)
    (slaves : List (TeeSlave S ghosts)) (rest : List S) : Type 0 where
  pub seats : List Seat
  pub are_seats : AreSeats state infos script plans shelves seats rest
  pub histories : List History
  pub sit : AllSit state infos [] seats histories slaves

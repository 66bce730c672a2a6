-- The outputs of a run, each at its seat and with its track.
use Rattle.std.specs.Prelude.{◌≡◌, ◌≤◌, ℕ, Bool, false, List, length, Option, is_some}
use Rattle.rmx_edge.specs.Shelf.{ShelfState}
use Rattle.rmx_edge.specs.declared.shelf.Shelf.{Ghosts}
use Rattle.rmx_media.specs.declared.packet.Packet.{Packet}
use Rattle.rmx_media.specs.declared.streams.StreamInfo.{StreamInfo}
use Rattle.rmx_media.specs.Streams.{AreInfos}
use Rattle.slave.specs.Fresh.{IsFresh}
use Rattle.slave.specs.Task.{Task}
use Rattle.tee.specs.Each.{Each3}
use Rattle.tee.specs.Fails.{stops}
use Rattle.tee.specs.Keeps.{IsWithin, stopped_by}
use Rattle.tee.specs.Rides.{HasPlace, Rides}
use Rattle.tee.specs.Route.{IsFiltered, written}
use Rattle.tee.specs.Seat.{Seat, aborts}
use Rattle.tee.specs.Sits.{Sits}
use Rattle.tee.specs.Tracks.{Track, Here, There, StopsOn, TrackGoesOn, known_deads}
use Rattle.tee.specs.declared.choice.Choice.{Choice}
use Rattle.tee.specs.declared.outlet.Outlet.{Outlet}
use Rattle.tee.specs.declared.outlet.Outlet.TheVariants as outlet
use Rattle.tee.specs.declared.sender.Sender.{Sender}

-- what an output takes
abbrev pub choice_of : {S G : Type 0} {ghosts : Ghosts S} → Outlet S G ghosts → Choice
choice_of (outlet.Here slave inline left) = slave.choice
choice_of (outlet.There s running) = s.choice

-- the thread of the output at a seat was started with a fresh job and the taker of this lane
pub record IsStarted (seat : Seat) (s : Sender) (task : Task) : Type 0 where
  pub fresh : IsFresh seat.origin seat.slave.fifo task.job
  pub ring : task.taker.ring ≡ s.giver.ring
  pub about : task.taker.about ≡ s.giver.about

-- the output at that seat came so far with what it takes of these packets; its lane, where it has one, was closed or not
abbrev pub Attends : {S G : Type 0} {ghosts : Ghosts S} → (S → ShelfState) → List StreamInfo → List Packet → ℕ → Bool → Seat → Track → Outlet S G ghosts → Type 0
Attends state infos given asked closed seat (Here h) (outlet.Here slave inline left) = Sits state infos given seat h slave × (inline ≡ seat.slave.fifo.use_fifo)
Attends state infos given asked closed seat (There told) (outlet.There s running) =
    Rides infos given asked seat told s × IsStarted seat s running × (s.giver.closed ≡ closed)
Attends state infos given asked closed seat (Here h) (outlet.There s running) = ⊥
Attends state infos given asked closed seat (There told) (outlet.Here slave inline left) = ⊥

-- there is a place for a receipt, where one may come
abbrev pub HasRoom : {S G : Type 0} {ghosts : Ghosts S} → Outlet S G ghosts → Type 0
HasRoom (outlet.Here slave inline left) = Unit {0}
HasRoom (outlet.There s running) = HasPlace s

-- what is left of a packet for the output at a seat is kept there
abbrev pub HasLeft : {S G : Type 0} {ghosts : Ghosts S} → Packet → Seat → Outlet S G ghosts → Type 0
HasLeft p seat (outlet.Here slave inline left) = IsFiltered seat p (written p left)
HasLeft p seat (outlet.There s running) = IsFiltered seat p s.left

-- the output may get a packet without any memory
abbrev pub IsReady : {S G : Type 0} {ghosts : Ghosts S} → (S → ShelfState) → List StreamInfo → List Packet → ℕ → Packet → Seat → Track → Outlet S G ghosts → Type 0
IsReady state infos given asked p seat track o = Attends state infos given asked false seat track o × HasRoom o × HasLeft p seat o

-- an output came so far, with a track that goes on from this one
abbrev pub AttendsOn : {S G : Type 0} {ghosts : Ghosts S} → (S → ShelfState) → List StreamInfo → List Packet → ℕ → ℕ → Seat → Track → Outlet S G ghosts → Type 0
AttendsOn state infos given asked n seat track o = (after : Track) × Attends state infos given asked false seat after o × TrackGoesOn n seat track after

-- so many packets were given, and the run stopped with the first that made it known
pub record WatchesOn (seats : List Seat) (given : List Packet) (tracks : List Track) (count : ℕ) (stopped : Option ℕ) : Type 0 where
  pub count_is : count ≡ length given
  pub within : IsWithin stopped (length given)
  pub now : is_some stopped ≡ stops (aborts seats) (known_deads seats tracks)
  pub stood : (u : ℕ) → u ≤ length given → StopsOn seats given tracks u (stopped_by stopped u)

-- the outputs sit at these seats, and got these packets
pub record StandsOn {S G : Type 0} {ghosts : Ghosts S} (state : S → ShelfState) (infos : List StreamInfo) (outlets : List (Outlet S G ghosts))
    (count : ℕ) (stopped : Option ℕ) (seats : List Seat) (given : List Packet) : Type 0 where
  pub are_infos : AreInfos infos
  pub tracks : List Track
  pub attend : Each3 (Attends state infos given (length given) false) seats tracks outlets
  pub watches : WatchesOn seats given tracks count stopped

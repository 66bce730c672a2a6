-- What clauses see of a tee.
use Rattle.std.specs.Prelude.{◌≡◌, ℕ, ◌≤◌, Bool, true, false, nat_le, List, [], length, Option, Some, None, is_some}
use Rattle.fifo_core.specs.History.{History}
use Rattle.rmx_edge.specs.Shelf.{ShelfState}
use Rattle.rmx_edge.specs.declared.shelf.Shelf.{Ghosts}
use Rattle.rmx_media.specs.declared.packet.Packet.{Packet}
use Rattle.rmx_media.specs.declared.streams.StreamInfo.{StreamInfo}
use Rattle.rmx_media.specs.Streams.{AreInfos}
use Rattle.tee.specs.Ends.{StopsAt}
use Rattle.tee.specs.Fails.{stops}
use Rattle.tee.specs.Seat.{Seat, aborts}
use Rattle.tee.specs.Sits.{AllSit, deads}
use Rattle.tee.specs.declared.output.TeeSlave.{TeeSlave}
use Rattle.tee.specs.declared.tee.Tee.{Tee}

-- the streams of its input
abbrev pub infos_of : {S : Type 0} {ghosts : Ghosts S} → Tee S ghosts → List StreamInfo
infos_of tee = tee.infos.items

-- the shelves that no output has
abbrev pub spare_of : {S : Type 0} {ghosts : Ghosts S} → Tee S ghosts → List S
spare_of tee = tee.spare.items

abbrev pub stopped_by : Option ℕ → ℕ → Bool
stopped_by None u = false
stopped_by (Some n) u = nat_le n u

-- an output that aborts, or every one, was known to be dead after so many packets
abbrev pub dead_in : {S : Type 0} {ghosts : Ghosts S} → Tee S ghosts → ℕ → Bool
dead_in tee u = stopped_by tee.stopped u

-- what is known after so many packets, where the run is over or not
abbrev pub stopped_with : Option ℕ → Bool → ℕ → Option ℕ
stopped_with None true n = Some n
stopped_with None false n = None
stopped_with (Some k) over n = Some k

-- none, or so many at most
abbrev pub IsWithin : Option ℕ → ℕ → Type 0
IsWithin None n = Unit {0}
IsWithin (Some k) n = k ≤ n

-- so many packets were given, and the run stopped with the first that made it known
pub record Watches (seats : List Seat) (given : List Packet) (histories : List History) (count : ℕ) (stopped : Option ℕ) : Type 0 where
  pub count_is : count ≡ length given
  pub within : IsWithin stopped (length given)
  pub now : is_some stopped ≡ stops (aborts seats) (deads seats histories)
  pub stood : (u : ℕ) → u ≤ length given → StopsAt seats given histories u (stopped_by stopped u)

-- the outputs sit at these seats, and got these packets
pub record Stands {S : Type 0} {ghosts : Ghosts S} (state : S → ShelfState) (infos : List StreamInfo) (slaves : List (TeeSlave S ghosts))
    (count : ℕ) (stopped : Option ℕ) (seats : List Seat) (given : List Packet) : Type 0 where
  pub are_infos : AreInfos infos
  pub histories : List History
  pub sit : AllSit state infos given seats histories slaves
  pub watches : Watches seats given histories count stopped

-- the same tee, but for what its outputs wrote
pub record SameBut {S : Type 0} {ghosts : Ghosts S} (old new : Tee S ghosts) : Type 0 where
  pub len : length new.slaves.items ≡ length old.slaves.items
  pub given : new.given ≡ old.given
  pub stopped : new.stopped ≡ old.stopped
  pub infos : new.infos ≡ old.infos
  pub spare : new.spare ≡ old.spare
  pub ends : new.ends ≡ old.ends

-- a tee of the outputs at these seats, which was given these packets
pub record Keeps {S : Type 0} {ghosts : Ghosts S} (state : S → ShelfState) (tee : Tee S ghosts) (seats : List Seat) (given : List Packet) : Type 0 where
  pub stands : Stands state tee.infos.items tee.slaves.items tee.given tee.stopped seats given
  pub few : length tee.slaves.items ≤ 16
  pub none_ended : tee.ends.items ≡ []
  pub room : length tee.slaves.items ≤ tee.ends.spare

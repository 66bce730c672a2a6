-- What clauses see of a run's outputs.
use Rattle.std.specs.Prelude.{◌≡◌, ◌⊎◌, ℕ, ◌+◌, ◌-◌, ◌^◌, ◌≤◌, ◌&&◌, not, Bool, true, false, List, [], ◌∷◌, length, map}
use Rattle.lane.specs.Ring.{one_if}
use Rattle.rmx_edge.specs.Shelf.{ShelfState}
use Rattle.rmx_edge.specs.declared.shelf.Shelf.{Ghosts}
use Rattle.rmx_media.specs.declared.packet.Packet.{Packet}
use Rattle.rmx_media.specs.declared.streams.StreamInfo.{StreamInfo}
use Rattle.tee.specs.Attends.{StandsOn}
use Rattle.tee.specs.Keeps.{stopped_by}
use Rattle.tee.specs.Seat.{Seat}
use Rattle.tee.specs.declared.outlet.Outlet.{Outlet}
use Rattle.tee.specs.declared.outlet.Outlet.TheVariants as outlet
use Rattle.tee.specs.declared.run.TeeRun.{TeeRun}

-- the streams of its input
abbrev pub infos_of : {S G : Type 0} {ghosts : Ghosts S} → TeeRun S G ghosts → List StreamInfo
infos_of run = run.infos.items

-- the shelves that no output has
abbrev pub spare_of : {S G : Type 0} {ghosts : Ghosts S} → TeeRun S G ghosts → List S
spare_of run = run.spare.items

-- an output that aborts, or every one, was known to be dead after so many packets
abbrev pub dead_in : {S G : Type 0} {ghosts : Ghosts S} → TeeRun S G ghosts → ℕ → Bool
dead_in run u = stopped_by run.stopped u

-- whether a thread writes an output
abbrev pub is_threaded : {S G : Type 0} {ghosts : Ghosts S} → Outlet S G ghosts → Bool
is_threaded (outlet.Here slave inline left) = false
is_threaded (outlet.There sender running) = true

-- which outputs have threads
abbrev pub theres_of : {S G : Type 0} {ghosts : Ghosts S} → TeeRun S G ghosts → List Bool
theres_of run = map is_threaded run.outlets.items

-- how many outputs were to have a thread and have none
abbrev pub inlined : List Seat → List Bool → ℕ
inlined [] bs = 0
inlined (s ∷ ss) [] = 0
inlined (s ∷ ss) (b ∷ bs) = one_if (s.slave.fifo.use_fifo && not b) + inlined ss bs

-- so many starts at most were refused, as a count of them that rose tells, unless it stands at its end
abbrev pub IsCounted : ℕ → ℕ → ℕ → Type 0
IsCounted n old new = (n + old ≤ new) ⊎ (2 ^ 64 - 1 ≤ new)

-- a run of the outputs at these seats, which was given these packets; each lane was asked once for each of them
pub record KeepsRun {S G : Type 0} {ghosts : Ghosts S} (state : S → ShelfState) (run : TeeRun S G ghosts) (seats : List Seat) (given : List Packet) : Type 0 where
  pub stands : StandsOn state run.infos.items run.outlets.items run.given run.stopped seats given
  pub few : length run.outlets.items ≤ 16
  pub none_ended : run.ends.items ≡ []
  pub room : length run.outlets.items ≤ run.ends.spare

-- The outputs of a plan, each with what it was made of.
use Rattle.std.specs.Prelude.{◌≡◌, ℕ, ◌==◌, ◌+◌, if◌then◌else◌, List, [], ◌∷◌, length, map, Bool, Option, Some, None}
use Rattle.rmx_edge.specs.Counted.{with_count}
use Rattle.rmx_edge.specs.Shelf.{ShelfState}
use Rattle.rmx_media.specs.declared.packet.Packet.{Packet}
use Rattle.rmx_media.specs.declared.packet.Format.TheVariants.{Flv}
use Rattle.rmx_media.specs.declared.streams.StreamInfo.{StreamInfo}
use Rattle.rmx_media.specs.declared.streams.MuxStreams.{MuxStreams}
use Rattle.rmx_media.specs.Fits.{Fits}
use Rattle.options.specs.Slave.{Slave}
use Rattle.slave.specs.Origin.{Origin}
use Rattle.tee.specs.Choice.{all_streams, chosen_streams, chosen as chosen_by}

-- an output: its plan, and what its job was made of
pub record Seat : Type 0 where
  pub slave : Slave
  pub origin : Origin

-- the output of that plan over these streams, on a shelf of that state
pub record IsSeat (s : Slave) (infos : List StreamInfo) (script : Option (List ℕ)) (shelf : ShelfState) (seat : Seat) : Type 0 where
  pub slave : seat.slave ≡ s
  pub shelf_is : seat.origin.shelf ≡ with_count shelf 0 0
  pub name : seat.origin.name ≡ s.name
  pub format : seat.origin.format ≡ s.format
  pub seg : seat.origin.seg ≡ s.seg
  pub streams : seat.origin.streams.streams.items ≡ chosen_streams s infos
  pub script_is : seat.origin.streams.script ≡ script

-- each output has the shelf at its place, and these are left
abbrev pub AreSeats : {S : Type 0} → (S → ShelfState) → List StreamInfo → Option (List ℕ) → List Slave → List S → List Seat → List S → Type 0
AreSeats state infos script [] shelves [] rest = shelves ≡ rest
AreSeats state infos script (s ∷ ss) (x ∷ xs) (seat ∷ seats) rest = IsSeat s infos script (state x) seat × AreSeats state infos script ss xs seats rest
AreSeats state infos script [] shelves (seat ∷ seats) rest = ⊥
AreSeats state infos script (s ∷ ss) [] seats rest = ⊥
AreSeats state infos script (s ∷ ss) (x ∷ xs) [] rest = ⊥

-- the packets that the output at a seat gets of these
abbrev pub chosen : Seat → List Packet → List Packet
chosen seat packets = chosen_by seat.origin.streams.streams.items seat.slave.chains packets

-- which outputs abort a run
abbrev pub aborts : List Seat → List Bool
aborts seats = map (λ seat. seat.slave.abort) seats

-- a packet fits an FLV file of all streams, which are numbered by their places
pub record IsInput (infos : List StreamInfo) (p : Packet) : Type 0 where
  pub streams : MuxStreams
  pub all : streams.streams.items ≡ all_streams infos
  pub fits : Fits Flv streams p

-- the first output that takes no stream, counted from that number on
abbrev pub first_without_from : ℕ → List StreamInfo → List Slave → Option ℕ
first_without_from n infos [] = None
first_without_from n infos (s ∷ ss) = if length (chosen_streams s infos) == 0 then Some n else first_without_from (n + 1) infos ss

abbrev pub first_without : List StreamInfo → List Slave → Option ℕ
first_without infos slaves = first_without_from 0 infos slaves

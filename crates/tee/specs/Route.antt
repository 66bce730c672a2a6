-- What an output does with the packets of each stream, and what it leaves of a packet.
use Rattle.std.specs.Prelude.{◌≡◌, ℕ, ◌==◌, if◌then◌else◌, Bool, true, false, List, [], ◌∷◌, Option, Some, None, IfSome}
use Rattle.rmx_media.specs.declared.packet.Format.TheVariants.{Mpegts}
use Rattle.rmx_media.specs.declared.packet.Packet.{Packet}
use Rattle.rmx_media.specs.declared.streams.Kind.{Kind}
use Rattle.rmx_media.specs.declared.streams.MuxStream.{MuxStream}
use Rattle.rmx_media.specs.declared.streams.MuxStreams.{MuxStreams}
use Rattle.rmx_media.specs.declared.streams.StreamInfo.{StreamInfo}
use Rattle.rmx_media.specs.Fits.{Fits}
use Rattle.rmx_media.specs.Streams.{kind_in}
use Rattle.bsf_chain.specs.Apply.{IsKept}
use Rattle.bsf_chain.specs.Chain.{are_keepers}
use Rattle.bsf_chain.specs.declared.filter.Filter.{Filter}
use Rattle.options.specs.Filters.{filters_for}
use Rattle.options.specs.Valid.{IsValid}
use Rattle.options.specs.declared.select.Spec.{Spec}
use Rattle.slave.specs.Table.{Takes}
use Rattle.tee.specs.Choice.{choice, chosen_streams}
use Rattle.tee.specs.Seat.{Seat}
use Rattle.tee.specs.declared.choice.Choice.{Choice}
use Rattle.tee.specs.declared.choice.Route.{Route}
use Rattle.tee.specs.declared.choice.Route.TheVariants.{Skip, Whole, Through}
use Rattle.tee.specs.declared.filter.Filtered.{Filtered}
use Rattle.tee.specs.declared.filter.Filtered.TheVariants.{Same, Other, Dropped}

-- that is what an output with these streams and chains does with packets of the stream of that number
abbrev pub IsRoute : List MuxStream → List (Spec × List Filter) → ℕ → Route → Type 0
IsRoute streams chains number Skip = kind_in streams number ≡ None
IsRoute streams chains number Whole = (kind : Kind) × (kind_in streams number ≡ Some kind) × (filters_for chains number kind ≡ [])
IsRoute streams chains number (Through chain) = (kind : Kind) × (kind_in streams number ≡ Some kind) × (chain ≡ filters_for chains number kind)

-- what an output does with the packets of the stream of that number
abbrev pub route_in : Choice → ℕ → Route
route_in c number = if number == 0 then c.first else c.second

abbrev pub is_through : Route → Bool
is_through Skip = false
is_through Whole = false
is_through (Through chain) = true

abbrev pub is_whole : Route → Bool
is_whole Skip = false
is_whole Whole = true
is_whole (Through chain) = false

-- whether filters stand for the stream of that number
abbrev pub filters_in : Choice → ℕ → Bool
filters_in c number = is_through (route_in c number)

-- whether its packets are written as they are
abbrev pub passes_in : Choice → ℕ → Bool
passes_in c number = is_whole (route_in c number)

-- the packet that is written
abbrev pub written : Packet → Filtered → Option Packet
written p Same = Some p
written p (Other q) = Some q
written p Dropped = None

-- what is left of a packet that fits an FLV file of these streams
pub record IsLeft (streams : List MuxStream) (chains : List (Spec × List Filter)) (all : MuxStreams) (p : Packet) (left : Option Packet) : Type 0 where
  pub is_choice : left ≡ choice streams chains p
  pub fits : IfSome left (Fits Mpegts all)
  pub native : (kind : Kind) → kind_in streams p.stream ≡ Some kind → are_keepers (filters_for chains p.stream kind) ≡ true → IsKept p left

-- the output at a seat, and what it does with the packets of each stream
pub record IsPlaced (infos : List StreamInfo) (seat : Seat) (c : Choice) : Type 0 where
  pub valid : IsValid seat.slave
  pub format : seat.origin.format ≡ seat.slave.format
  pub seg : seat.origin.seg ≡ seat.slave.seg
  pub streams : seat.origin.streams.streams.items ≡ chosen_streams seat.slave infos
  pub abort : c.abort ≡ seat.slave.abort
  pub first : IsRoute seat.origin.streams.streams.items seat.slave.chains 0 c.first
  pub second : IsRoute seat.origin.streams.streams.items seat.slave.chains 1 c.second

-- the output at a seat takes that of a packet
pub record IsFiltered (seat : Seat) (p : Packet) (left : Option Packet) : Type 0 where
  pub is_choice : left ≡ choice seat.origin.streams.streams.items seat.slave.chains p
  pub fits : IfSome left (Takes seat.origin)

abbrev pub AllFiltered : List Seat → Packet → List Filtered → Type 0
AllFiltered [] p [] = Unit {0}
AllFiltered [] p (f ∷ fs) = ⊥
AllFiltered (s ∷ ss) p [] = ⊥
AllFiltered (s ∷ ss) p (f ∷ fs) = IsFiltered s p (written p f) × AllFiltered ss p fs

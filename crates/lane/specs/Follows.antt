-- Which message may follow those before it, and the order of a giver's offers.
use Rattle.std.specs.Prelude.{ℕ, ◌+◌, ◌^◌, ◌<◌, ◌≤◌, List, [], ◌∷◌, length, All}
use Rattle.rmx_media.specs.Fits.{Fits}
use Rattle.lane_core.specs.Machine.{Event, offer, take, see, close, fail}
use Rattle.lane.specs.declared.msg.Msg.{Msg}
use Rattle.lane.specs.declared.msg.Purpose.{Purpose}
use Rattle.lane.specs.Past.{Past}
use Rattle.lane.specs.Ring.{Measure}

-- the bytes of a message are those of its packet's payload
abbrev pub size_of : Msg → ℕ
size_of m = length m.packet.payload

abbrev pub measure : Measure Msg Purpose
measure = record { size = size_of; limit = λ k. k.limit }

-- its packet fits what the lane is for, and its index is above theirs and leaves room for many more
abbrev pub MayFollow : Purpose → List Msg → Msg → Type 0
MayFollow k before m = All (λ (y : Msg). y.index < m.index) before × Fits k.format k.streams.value m.packet × (m.index < 2 ^ 61)

abbrev pub index_after : Event Msg → ℕ → ℕ
index_after (offer x) n = x.index + 1
index_after take n = n
index_after see n = n
index_after close n = n
index_after fail n = n

-- one above the index of the last offer, or 0
abbrev pub next_index : Past Msg → ℕ
next_index [] = 0
next_index (p ∷ h) = index_after p.0 (next_index h)

abbrev pub IsAbove : Event Msg → ℕ → Type 0
IsAbove (offer x) n = n ≤ x.index
IsAbove take n = Unit {0}
IsAbove see n = Unit {0}
IsAbove close n = Unit {0}
IsAbove fail n = Unit {0}

-- the index of each offer is above those of all offers before it
abbrev pub Rises : Past Msg → Type 0
Rises [] = Unit {0}
Rises (p ∷ h) = IsAbove p.0 (next_index h) × Rises h

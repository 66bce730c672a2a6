-- What an output is given: packets with their indices, which may have gaps, and the places of packets that are flushed.
use Rattle.std.specs.Prelude.{◌≡◌, ℕ, ◌+◌, ◌⊎◌, List, [], ◌∷◌}
use Rattle.fifo_core.specs.Follows.{Turn, Comes, Flushes}
use Rattle.rmx_media.specs.declared.packet.Packet.{Packet}
use Rattle.slave.specs.Origin.{Origin, facts_of}

pub data Given : Type 0 where
  -- a packet
  Sent : (index : ℕ) → Packet → Given
  -- a packet is flushed, by the overflow of that number
  Swept : (index number : ℕ) → Given

abbrev pub index_of : Given → ℕ
index_of (Sent i p) = i
index_of (Swept i n) = i

abbrev pub turn_of : Origin → Given → Turn
turn_of g (Sent i p) = Comes i (facts_of g p)
turn_of g (Swept i n) = Flushes i n

-- the least index that may come behind these, where n may come before them
abbrev pub end_from : ℕ → List Given → ℕ
end_from n [] = n
end_from n (t ∷ ts) = end_from (index_of t + 1) ts

-- the packet of that index is among these
abbrev pub Gives : List Given → ℕ → Packet → Type 0
Gives [] i p = ⊥
Gives (Sent j q ∷ ts) i p = ((j ≡ i) × (q ≡ p)) ⊎ Gives ts i p
Gives (Swept j n ∷ ts) i p = Gives ts i p

-- packets without gaps, from the n-th on
abbrev pub sent_from : ℕ → List Packet → List Given
sent_from n [] = []
sent_from n (p ∷ ps) = Sent n p ∷ sent_from (n + 1) ps

-- nothing was refused or flushed
abbrev pub IsGapless : List Given → Type 0
IsGapless ts = (L : List Packet) × (ts ≡ sent_from 0 L)

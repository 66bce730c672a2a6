-- What the order of interleaving has to do with sorting.
use Rattle.std.specs.Prelude.{◌≡◌, ℕ, ◌<◌, ◌≤ℤ◌, List, [], ◌∷◌, ◌++◌, length, slice_index_or}
use Rattle.std.specs.List.{All, list_any}
use Rattle.std.specs.List.Sorted.{IsPermutation, IsSortedBy, IsStableBy}
use Rattle.rmx_media.specs.declared.packet.Packet.{Packet}
use Rattle.interleaver.specs.Interleave.{is_before, is_over, line_of, interleave}

-- the second list is the first one, sorted by dts and then stream, where packets of one dts and stream keep their order
pub record IsStableSort (packets sorted : List Packet) : Type 0 where
  pub permutation : IsPermutation packets sorted
  pub sorted_by : IsSortedBy is_before sorted
  pub stable : IsStableBy is_before packets sorted

-- no packet's dts is below that of an earlier packet of its stream
abbrev pub NeverFalls : List Packet → Type 0
NeverFalls packets = (i j : ℕ) (d : Packet) → i < j → j < length packets →
    (slice_index_or packets i d).stream ≡ (slice_index_or packets j d).stream → (slice_index_or packets i d).dts ≤ℤ (slice_index_or packets j d).dts

-- the law of delta 0
abbrev pub SortsAtDeltaNought : Type 0
SortsAtDeltaNought = (n : ℕ) (packets : List Packet) → All (λ p. p.stream < n) packets → NeverFalls packets → IsStableSort packets (interleave n 0 packets)

-- what is pending is always sorted
abbrev pub PendingIsSorted : Type 0
PendingIsSorted = (n delta : ℕ) (packets : List Packet) → IsSortedBy is_before (line_of n delta packets).pending

-- in a sorted list some packet is too far behind where the last one is
abbrev pub WidthIsOfTheLast : Type 0
WidthIsOfTheLast = (delta : ℕ) (head last : Packet) (packets : List Packet) → IsSortedBy is_before (packets ++ last ∷ []) → list_any (is_over delta head.dts) (packets ++ last ∷ []) ≡ is_over delta head.dts last

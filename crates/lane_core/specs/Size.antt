-- The sizes of messages that wait.
use Rattle.std.specs.Prelude.{◌≡◌, ℕ, ◌^◌, ◌<◌, List, Some, slice_get}
use Rattle.lane_core.specs.declared.event.Held.{Held}

abbrev pub size_of : Held → ℕ
size_of h = h.size

abbrev pub AreSmall : List Held → Type 0
AreSmall hs = (i : ℕ) (h : Held) → slice_get hs i ≡ Some h → h.size < 2 ^ 32

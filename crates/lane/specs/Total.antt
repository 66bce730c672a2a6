-- Sizes of messages, and their sum.
use Rattle.std.specs.Prelude.{◌≡◌, ℕ, ◌^◌, ◌<◌, List, sum_by, slice_get, Some}

abbrev pub total : List ℕ → ℕ
total zs = sum_by (λ (z : ℕ). z) zs

-- each is below 4 GiB
abbrev pub AreSmall : List ℕ → Type 0
AreSmall zs = (i : ℕ) (z : ℕ) → slice_get zs i ≡ Some z → z < 2 ^ 32

-- Counts, which are kept in 64 bits and stand still at the largest number.
use Rattle.std.specs.Prelude.{ℕ, ◌+◌, ◌-◌, ◌^◌, ◌<◌, ◌≤◌, ◌⊎◌, Result, Ok, Err, min, max}

-- the largest count
abbrev pub most : ℕ
most = 2 ^ 64 - 1

-- n raised by k, at most to the largest count
abbrev pub raised : ℕ → ℕ → ℕ
raised n k = max n (min (n + k) most)

-- a count is higher than it was, or is the largest
abbrev pub Rose : ℕ → ℕ → Type 0
Rose before now = (before < now) ⊎ (most ≤ now)

-- a count of failures after a call: one more where the call failed, and else the same
abbrev pub faults_after : {T E : Type 0} → Result T E → ℕ → ℕ
faults_after (Ok _) faults = faults
faults_after (Err _) faults = raised faults 1

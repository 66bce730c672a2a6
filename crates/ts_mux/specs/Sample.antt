-- Times of tests.
use Rattle.std.specs.Prelude.{ℤ, pos, negsuc, ◌≤ℤ◌, ◌+ℤ◌}

-- times that a muxer takes
pub record AreTimes (dts pts : ℤ) : Type 0 where
  pub low : negsuc 8589934591 ≤ℤ dts
  pub high : dts ≤ℤ pos 8589934592
  pub early : dts ≤ℤ pts
  pub late : pts ≤ℤ (dts +ℤ pos 8388607)

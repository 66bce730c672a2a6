-- Times in milliseconds as the format counts them: 90 to the millisecond, in 33 bits.
use Rattle.std.specs.Prelude.{ℕ, ℤ, pos, negsuc, ◌-◌, ◌≤ℤ◌, ◌+ℤ◌, ◌*ℤ◌, ◌^◌, unsigned_abs}
use Rattle.std.specs.Int.{int_rem_euclid}

-- from an offset on, mod 2^33
unfoldable pub ticks : ℤ → ℕ → ℕ
ticks ms offset = unsigned_abs (int_rem_euclid ((pos 90 *ℤ ms) +ℤ pos offset) (pos (2 ^ 33)))

-- presentation and decoding times begin at 1.4 seconds
abbrev pub time_value : ℤ → ℕ
time_value ms = ticks ms 126000

-- and the clock at 0.7 seconds
abbrev pub clock_value : ℤ → ℕ
clock_value ms = ticks ms 63000

-- a time that a muxer takes: no more than 2^33 + 2^23 ms from 0
pub record IsTime (ms : ℤ) : Type 0 where
  pub low : negsuc (2 ^ 33 - 1) ≤ℤ ms
  pub high : ms ≤ℤ pos (2 ^ 34)

-- Times that a timeline takes, and steps of it.
use Rattle.std.specs.Prelude.{ℤ, pos, negsuc, ◌-◌, ◌^◌, ◌-ℤ◌, ◌≤ℤ◌, Option, None, Some}
use Rattle.std.specs.Int.{int_max}

-- times from - 2 ^ 39 to 2 ^ 39 ms
pub record IsNear (ms : ℤ) : Type 0 where
  pub low : negsuc (2 ^ 39 - 1) ≤ℤ ms
  pub high : ms ≤ℤ pos (2 ^ 39)

-- differences of such times
pub record IsSpan (ms : ℤ) : Type 0 where
  pub low : negsuc (2 ^ 40 - 1) ≤ℤ ms
  pub high : ms ≤ℤ pos (2 ^ 40)

-- times of packets that fit: from - 2 ^ 31 to 2 ^ 31 - 1
pub record IsDts (ms : ℤ) : Type 0 where
  pub low : negsuc 2147483647 ≤ℤ ms
  pub high : ms ≤ℤ pos 2147483647

-- how long after the first packet, or after 0 where there was none
abbrev pub since : Option ℤ → ℤ → ℤ
since None pts = pts
since (Some zero) pts = pts -ℤ zero

-- the pts of the first packet, where one more comes
abbrev pub zero_with : Option ℤ → ℤ → ℤ
zero_with None pts = pts
zero_with (Some zero) pts = zero

-- the greatest pts, where one more comes
abbrev pub top_with : Option ℤ → ℤ → ℤ → ℤ
top_with None top pts = pts
top_with (Some zero) top pts = int_max top pts

-- What a packet needs to be written as a tag.
use Rattle.std.specs.Prelude.{◌≤◌, ◌<◌, ◌^◌, length, ℤ, pos, negsuc, ◌≤ℤ◌, ◌+ℤ◌}
use Rattle.rmx_media.specs.declared.packet.Packet.{Packet}
use Rattle.flv_mux.specs.Flv.{config_size}

-- pts - dts is from 0 to 2 ^ 23 - 1, and dts from - 2 ^ 33 to 2 ^ 33
pub record IsTimed (dts pts : ℤ) : Type 0 where
  pub early : dts ≤ℤ pts
  pub late : pts ≤ℤ (dts +ℤ pos 8388607)
  pub low : negsuc 8589934591 ≤ℤ dts
  pub high : dts ≤ℤ pos 8589934592

pub record CanWrite (p : Packet) : Type 0 where
  pub config : config_size p.config < 2 ^ 24
  pub size : length p.payload ≤ 16777210
  pub timed : IsTimed p.dts p.pts

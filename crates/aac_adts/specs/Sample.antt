-- Packets of tests.
use Rattle.std.specs.Prelude.{◌≡◌, ◌≤◌, length, pos, negsuc, ◌≤ℤ◌, ◌+ℤ◌}
use Rattle.rmx_media.specs.declared.packet.Packet.{Packet}
use Rattle.rmx_media.specs.declared.packet.Form.TheVariants.{Native}
use Rattle.rmx_media.specs.declared.streams.Kind.TheVariants.{Audio}
use Rattle.rmx_media.specs.Config.{kind_of, IsAsRead}
use Rattle.rmx_media.specs.Fits.{IsPayload}

-- a short native audio packet of stream 1 at any time
pub record IsSample (p : Packet) : Type 0 where
  pub stream : p.stream ≡ 1
  pub form : p.form ≡ Native
  pub early : p.dts ≤ℤ p.pts
  pub late : p.pts ≤ℤ (p.dts +ℤ pos 8388607)
  pub low : negsuc 8589934591 ≤ℤ p.dts
  pub high : p.dts ≤ℤ pos 8589934592
  pub kind : kind_of p.config ≡ Audio
  pub config : IsAsRead p.config
  pub payload : IsPayload p.config p.form p.payload
  pub size : length p.payload ≤ 8184

-- Packets of tests.
use Rattle.std.specs.Prelude.{◌≡◌, ◌≤◌, length, pos, negsuc, ◌≤ℤ◌, ◌+ℤ◌}
use Rattle.rmx_media.specs.declared.packet.Packet.{Packet}
use Rattle.rmx_media.specs.declared.packet.Form.TheVariants.{Native}
use Rattle.rmx_media.specs.declared.streams.Kind.{Kind}
use Rattle.rmx_media.specs.Config.{kind_of, IsAsRead}
use Rattle.rmx_media.specs.Fits.{IsPayload}

-- a short native packet of that kind, of stream 0
pub record IsSample (kind : Kind) (p : Packet) : Type 0 where
  pub stream : p.stream ≡ 0
  pub of_kind : kind_of p.config ≡ kind
  pub form : p.form ≡ Native
  pub config : IsAsRead p.config
  pub payload : IsPayload p.config p.form p.payload
  pub size : length p.payload ≤ 8184
  pub early : p.dts ≤ℤ p.pts
  pub late : p.pts ≤ℤ (p.dts +ℤ pos 8388607)
  pub low : negsuc 2147483647 ≤ℤ p.dts
  pub high : p.dts ≤ℤ pos 2147483647

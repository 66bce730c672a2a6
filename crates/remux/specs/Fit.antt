-- What a packet of an FLV input is like.
use Rattle.std.specs.Prelude.{◌≡◌, ℕ, ◌≤◌, ◌==◌, List, [], ◌∷◌, length, Option, Some, None, negsuc, pos, ◌≤ℤ◌, ◌+ℤ◌, if◌then◌else◌}
use Rattle.rmx_media.specs.declared.packet.Form.TheVariants.{Native}
use Rattle.rmx_media.specs.declared.packet.Packet.{Packet}
use Rattle.rmx_media.specs.declared.streams.Kind.{Kind}
use Rattle.rmx_media.specs.declared.streams.Kind.TheVariants.{Video, Audio}
use Rattle.rmx_media.specs.Config.{kind_of, IsAsRead}
use Rattle.rmx_media.specs.Fits.{IsPayload}
use Rattle.flv_demux.specs.declared.deal.Kinds.{Kinds}

-- of what kind the stream of that number is, if there is one
abbrev pub kind_at : Kinds → ℕ → Option Kind
kind_at s n =
    if s.video then (if 0 == n then Some Video else if s.audio then (if 1 == n then Some Audio else None) else None)
    else if s.audio then (if 0 == n then Some Audio else None) else None

-- a packet that fits an FLV file of all streams
pub record Fit (s : Kinds) (p : Packet) : Type 0 where
  pub stream : kind_at s p.stream ≡ Some (kind_of p.config)
  pub config : IsAsRead p.config
  pub native : p.form ≡ Native
  pub payload : IsPayload p.config p.form p.payload
  pub size : length p.payload ≤ 16777210
  pub early : p.dts ≤ℤ p.pts
  pub late : p.pts ≤ℤ (p.dts +ℤ pos 8388607)
  pub low : negsuc 2147483647 ≤ℤ p.dts
  pub high : p.dts ≤ℤ pos 2147483647

-- P holds of each of these packets
abbrev pub Each : (Packet → Type 0) → List Packet → Type 0
Each P [] = Unit {0}
Each P (x ∷ xs) = P x × Each P xs

-- Which packets an output of a format takes.
use Rattle.std.specs.Prelude.{◌≡◌, ℕ, ◌≤◌, List, length, Some, true, pos, negsuc, ◌≤ℤ◌, ◌+ℤ◌}
use Rattle.rmx_media.specs.declared.config.Config.{Config}
use Rattle.rmx_media.specs.declared.config.Config.TheVariants.{Avc, Aac}
use Rattle.rmx_media.specs.declared.packet.Form.{Form}
use Rattle.rmx_media.specs.declared.packet.Form.TheVariants as form
use Rattle.rmx_media.specs.declared.packet.Format.{Format}
use Rattle.rmx_media.specs.declared.packet.Format.TheVariants.{Flv, Adts, Mpegts, Segment}
use Rattle.rmx_media.specs.declared.packet.Packet.{Packet}
use Rattle.rmx_media.specs.declared.streams.Kind.TheVariants.{Audio}
use Rattle.rmx_media.specs.declared.streams.MuxStreams.{MuxStreams}
use Rattle.rmx_media.specs.Adts.{IsFrame}
use Rattle.rmx_media.specs.Config.{kind_of, IsAsRead}
use Rattle.rmx_media.specs.Streams.{kind_in}
use Rattle.rmx_media.specs.Units.{is_valid, IsAnnexb}

-- a payload is of its form, by the packet's own configuration
abbrev pub IsPayload : Config → Form → List ℕ → Type 0
IsPayload (Avc config) form.Native payload = is_valid config.length_size payload ≡ true
IsPayload (Avc config) form.AnnexB payload = IsAnnexb payload
IsPayload (Avc config) form.Adts payload = ⊥
IsPayload (Aac config) form.Native payload = length payload ≤ 8184
IsPayload (Aac config) form.AnnexB payload = ⊥
IsPayload (Aac config) form.Adts payload = IsFrame config payload

-- what a format asks besides
abbrev pub Suits : Format → Packet → Type 0
Suits Flv p = (p.form ≡ form.Native) × (length p.payload ≤ 16777210)
Suits Adts p = kind_of p.config ≡ Audio
Suits Mpegts p = Unit {0}
Suits Segment p = ⊥

-- all that is asked of a packet but the range of its dts
pub record FitsButDts (format : Format) (streams : MuxStreams) (p : Packet) : Type 0 where
  -- its stream is there, and of the kind of its configuration
  pub stream : kind_in streams.streams.items p.stream ≡ Some (kind_of p.config)
  pub config : IsAsRead p.config
  pub payload : IsPayload p.config p.form p.payload
  pub size : length p.payload ≤ 4294967295
  -- pts - dts is from 0 to 2 ^ 23 - 1
  pub early : p.dts ≤ℤ p.pts
  pub late : p.pts ≤ℤ (p.dts +ℤ pos 8388607)
  pub suits : Suits format p

-- a packet fits a format and streams; its dts is from - 2 ^ 31 to 2 ^ 31 - 1
pub record Fits (format : Format) (streams : MuxStreams) (p : Packet) : Type 0 where
  pub all : FitsButDts format streams p
  pub low : negsuc 2147483647 ≤ℤ p.dts
  pub high : p.dts ≤ℤ pos 2147483647

-- the same with a dts from - 2 ^ 33 to 2 ^ 33, as a muxer takes packets whose times were lowered
pub record FitsLowered (format : Format) (streams : MuxStreams) (p : Packet) : Type 0 where
  pub all : FitsButDts format streams p
  pub low : negsuc 8589934591 ≤ℤ p.dts
  pub high : p.dts ≤ℤ pos 8589934592

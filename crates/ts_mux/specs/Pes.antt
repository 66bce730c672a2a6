-- PES packets (ISO/IEC 13818-1, 2.4.3.6), and the clock of a cell (2.4.3.4).
use Rattle.std.specs.Prelude.{ℕ, ℤ, ◌+◌, ◌/◌, ◌%◌, ◌^◌, ◌==◌, if◌then◌else◌, List, [], ◌∷◌, ◌++◌, length, drop, Bool}
use Rattle.std.specs.Ordering.{int_eq}
use Rattle.rmx_media.specs.declared.aac.AacConfig.{AacConfig}
use Rattle.rmx_media.specs.declared.avc.AvcConfig.{AvcConfig}
use Rattle.rmx_media.specs.declared.config.Config.{Config}
use Rattle.rmx_media.specs.declared.config.Config.TheVariants.{Avc, Aac}
use Rattle.rmx_media.specs.declared.packet.Form.{Form}
use Rattle.rmx_media.specs.declared.packet.Form.TheVariants.{Native, AnnexB, Adts}
use Rattle.rmx_media.specs.declared.packet.Packet.{Packet}
use Rattle.rmx_media.specs.Adts.{adts_frame}
use Rattle.rmx_media.specs.Bits.{packed, bytes_of}
use Rattle.rmx_media.specs.Avc.{sets_of}
use Rattle.rmx_media.specs.Units.{type_of, units_of, annexb}
use Rattle.avc_units.specs.UnitList.{with_sets}
use Rattle.ts_mux.specs.Times.{time_value, clock_value}

-- four bits of prefix, and the value in 3, 15 and 15 bits, each followed by a bit 1
unfoldable pub time_field : ℕ → ℕ → List ℕ
time_field prefix value =
    bytes_of 5 (packed ((prefix, 4) ∷ (value / 2 ^ 30, 3) ∷ (1, 1) ∷ (value / 2 ^ 15 % 2 ^ 15, 15) ∷ (1, 1) ∷ (value % 2 ^ 15, 15) ∷ (1, 1) ∷ []))

-- the flags of a cell with a clock, and the clock: its base in 33 bits, six bits 1, the extension 0 in nine bits
unfoldable pub clock_flags : Bool → ℤ → List ℕ
clock_flags restart dts =
    (if restart then 0x50 else 0x10) ∷ bytes_of 6 (packed ((clock_value dts, 33) ∷ (63, 6) ∷ (0, 9) ∷ []))

-- which times there are, their size, and the times: that of presentation alone where both are one
unfoldable pub times_of : ℤ → ℤ → List ℕ
times_of pts dts =
    if int_eq pts dts then 0x80 ∷ 5 ∷ time_field 2 (time_value pts)
    else 0xC0 ∷ 10 ∷ (time_field 3 (time_value pts) ++ time_field 1 (time_value dts))

-- a head: the stream, the number of bytes after it, the times
unfoldable pub head_of : ℕ → ℕ → ℤ → ℤ → List ℕ
head_of id size pts dts = 0 ∷ 0 ∷ 1 ∷ id ∷ size / 256 ∷ size % 256 ∷ 0x80 ∷ times_of pts dts

-- a video packet doesn't tell its size
abbrev pub video_head : ℤ → ℤ → List ℕ
video_head pts dts = head_of 0xE0 0 pts dts

-- an audio packet does: what follows the size field, with so many bytes of data
abbrev pub audio_head : ℕ → ℤ → ℤ → List ℕ
audio_head size pts dts = head_of 0xC0 ((if int_eq pts dts then 8 else 13) + size) pts dts

-- a start code and an access unit delimiter
abbrev pub delimiter : List ℕ
delimiter = 0 ∷ 0 ∷ 0 ∷ 1 ∷ 0x09 ∷ 0xF0 ∷ []

-- whether the first unit, behind its start code, is a delimiter
abbrev pub is_delimited : List ℕ → Bool
is_delimited bytes = type_of (drop 4 bytes) == 9

-- a delimiter in front, unless there is one
unfoldable pub delimited : List ℕ → List ℕ
delimited bytes = if is_delimited bytes then bytes else delimiter ++ bytes

-- units behind start codes: those of a native payload with the configuration's sets before the first IDR unit
abbrev pub started_form : AvcConfig → Form → List ℕ → List ℕ
started_form config Native payload = annexb (with_sets (sets_of config) (units_of config.length_size payload))
started_form config AnnexB payload = payload
started_form config Adts payload = payload

-- an ADTS frame
abbrev pub frame_of : AacConfig → Form → List ℕ → List ℕ
frame_of config Native payload = adts_frame config payload
frame_of config AnnexB payload = payload
frame_of config Adts payload = payload

unfoldable pub video_pes : AvcConfig → Packet → List ℕ
video_pes config p = video_head p.pts p.dts ++ delimited (started_form config p.form p.payload)

unfoldable pub audio_pes : AacConfig → Packet → List ℕ
audio_pes config p = audio_head (length (frame_of config p.form p.payload)) p.pts p.dts ++ frame_of config p.form p.payload

abbrev pub pes_by : Config → Packet → List ℕ
pes_by (Avc config) p = video_pes config p
pes_by (Aac config) p = audio_pes config p

-- the PES packet of a packet, by its own configuration
abbrev pub pes_of : Packet → List ℕ
pes_of p = pes_by p.config p

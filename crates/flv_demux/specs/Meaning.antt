-- What a tag means by itself (Adobe Flash Video File Format Specification 10.1, annexes E.4.2 and E.4.3).
use Rattle.std.specs.Prelude.{◌≡◌, ℕ, ◌≤◌, ◌/◌, ◌%◌, not, ◌||◌, ◌==◌, nat_lt, List, length, drop, take, slice_index, ℤ, if◌then◌else◌, Result, Ok, Err, true, pos, ◌-ℤ◌, ◌≤ℤ◌}
use Rattle.rmx_media.specs.Bits.{number_of}
use Rattle.rmx_media.specs.Aac.{aac_config}
use Rattle.rmx_media.specs.Avc.{avc_config}
use Rattle.rmx_media.specs.Config.{IsAsRead}
use Rattle.rmx_media.specs.declared.aac.AacConfig.{AacConfig}
use Rattle.rmx_media.specs.declared.avc.AvcConfig.{AvcConfig}
use Rattle.rmx_media.specs.declared.config.Config.TheVariants.{Avc, Aac}
use Rattle.rmx_media.specs.declared.config.ConfigFault.{ConfigFault}
use Rattle.rmx_media.specs.declared.config.ConfigFault.TheVariants as fault
use Rattle.rmx_media.specs.declared.streams.Kind.TheVariants.{Video, Audio}
use Rattle.flv_tags.specs.declared.tag.Tag.{Tag}
use Rattle.flv_demux.specs.declared.deal.Reason.TheVariants as reason
use Rattle.flv_demux.specs.declared.deal.Meaning.{Meaning}
use Rattle.flv_demux.specs.declared.deal.Meaning.TheVariants.{Counted, Configures, Media}

-- a configuration that can't be read
abbrev pub unread : ConfigFault → Meaning
unread fault.Short = Counted reason.Corrupt
unread fault.Version = Counted reason.Corrupt
unread fault.ObjectType = Counted reason.Unsupported
unread fault.Frequency = Counted reason.Unsupported
unread fault.Channels = Counted reason.Unsupported

abbrev pub by_avc : Result AvcConfig ConfigFault → Meaning
by_avc (Ok config) = Configures (Avc config)
by_avc (Err f) = unread f

abbrev pub by_aac : Result AacConfig ConfigFault → Meaning
by_aac (Ok config) = Configures (Aac config)
by_aac (Err f) = unread f

-- the body isn't empty; its first byte has the codec in the upper bits, and the second says what follows
abbrev pub audio_meaning : List ℕ → Meaning
audio_meaning body =
    if not (slice_index body 0 / 16 == 10) then Counted reason.Unsupported
    else if length body == 1 then Counted reason.Corrupt
    else if slice_index body 1 == 0 then by_aac (aac_config (drop 2 body))
    else if not (slice_index body 1 == 1) then Counted reason.Unsupported
    else if (length body == 2) || nat_lt 8186 (length body) then Counted reason.Corrupt
    else Media Audio true (pos 0) (drop 2 body)

-- the signed 24 bits from the third byte on: by how many ms the picture is shown after it is decoded
abbrev pub composition_of : List ℕ → ℤ
composition_of body = let n = number_of (take 3 (drop 2 body)) in if nat_lt n 8388608 then pos n else pos n -ℤ pos 16777216

-- the body isn't empty; its first byte has the kind of frame in the upper bits, and the codec in the lower ones
abbrev pub video_meaning : List ℕ → Meaning
video_meaning body =
    if slice_index body 0 / 16 == 5 then Counted reason.Command
    else if not ((slice_index body 0 / 16 == 1) || (slice_index body 0 / 16 == 2)) || not (slice_index body 0 % 16 == 7) then Counted reason.Unsupported
    else if nat_lt (length body) 5 then Counted reason.Corrupt
    else if slice_index body 1 == 0 then by_avc (avc_config (drop 5 body))
    else if slice_index body 1 == 2 then Counted reason.SequenceEnd
    else if not (slice_index body 1 == 1) then Counted reason.Unsupported
    else Media Video (slice_index body 0 / 16 == 1) (composition_of body) (drop 5 body)

-- the first case that fits decides
abbrev pub meaning : Tag → Meaning
meaning tag =
    if tag.filter || not ((tag.kind == 8) || (tag.kind == 9) || (tag.kind == 18)) then Counted reason.Unsupported
    else if tag.kind == 18 then Counted reason.Script
    else if length tag.body == 0 then Counted reason.Corrupt
    else if tag.kind == 8 then audio_meaning tag.body
    else video_meaning tag.body

-- what holds of the meaning of a tag as it comes from a text, whose body is of bytes and below 2 ^ 24 of them
abbrev pub IsSound : Meaning → Type 0
IsSound (Counted r) = Unit {0}
IsSound (Configures config) = IsAsRead config
IsSound (Media Video key composition payload) = (composition ≤ℤ pos 8388607) × (length payload ≤ 16777210)
IsSound (Media Audio key composition payload) = (composition ≡ pos 0) × (length payload ≤ 8184)

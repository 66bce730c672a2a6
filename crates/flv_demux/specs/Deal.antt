-- What comes of each tag, by what was seen of its stream.
use Rattle.std.specs.Prelude.{◌≡◌, ℕ, ◌+◌, ◌-◌, ◌^◌, ◌≤◌, min, Bool, true, false, ◌==◌, not, List, [], ◌∷◌, ◌++◌, length, fold, if◌then◌else◌, Option, Some, None, IfSome, ℤ, ◌+ℤ◌, negsuc, ◌≤ℤ◌, pos}
use Rattle.std.specs.Int.{int_max}
use Rattle.std.specs.Option.{option_to_list}
use Rattle.std.specs.Str.{bytes_eq}
use Rattle.rmx_media.specs.Config.{kind_of, raw_of, IsAsRead}
use Rattle.rmx_media.specs.Fits.{IsPayload}
use Rattle.rmx_media.specs.Units.{is_valid as is_of_units}
use Rattle.rmx_media.specs.declared.config.Config.{Config}
use Rattle.rmx_media.specs.declared.config.Config.TheVariants.{Avc, Aac}
use Rattle.rmx_media.specs.declared.streams.Kind.{Kind}
use Rattle.rmx_media.specs.declared.streams.Kind.TheVariants.{Video, Audio}
use Rattle.rmx_media.specs.declared.packet.Packet.{Packet}
use Rattle.rmx_media.specs.declared.packet.Form.TheVariants.{Native}
use Rattle.flv_tags.specs.declared.tag.Tag.{Tag}
use Rattle.flv_demux.specs.declared.deal.Reason.{Reason}
use Rattle.flv_demux.specs.declared.deal.Reason.TheVariants as reason
use Rattle.flv_demux.specs.declared.deal.Meaning.{Meaning}
use Rattle.flv_demux.specs.declared.deal.Meaning.TheVariants.{Counted, Configures, Media}
use Rattle.flv_demux.specs.declared.deal.Outcome.{Outcome}
use Rattle.flv_demux.specs.declared.deal.Outcome.TheVariants as outcome
use Rattle.flv_demux.specs.declared.deal.Discards.{Discards}
use Rattle.flv_demux.specs.declared.deal.Kinds.{Kinds}
use Rattle.flv_demux.specs.declared.deal.Seen.{Seen}
use Rattle.flv_demux.specs.declared.deal.Desk.{Desk}
use Rattle.flv_demux.specs.Meaning.{meaning}
use Rattle.flv_demux.specs.Probe.{kinds, has, number_of_stream, IsOfKind}

-- a count stands still at the end of 64 bits
abbrev pub more : ℕ → ℕ
more n = min (n + 1) (2 ^ 64 - 1)

abbrev pub no_discards : Discards
no_discards = record { script = 0; unsupported = 0; no_stream = 0; corrupt = 0; command = 0; sequence_end = 0; config_repeat = 0 }

abbrev pub counted : Reason → Discards → Discards
counted reason.Script d = record d { script = more d.script }
counted reason.Unsupported d = record d { unsupported = more d.unsupported }
counted reason.NoStream d = record d { no_stream = more d.no_stream }
counted reason.Corrupt d = record d { corrupt = more d.corrupt }
counted reason.Command d = record d { command = more d.command }
counted reason.SequenceEnd d = record d { sequence_end = more d.sequence_end }
counted reason.ConfigRepeat d = record d { config_repeat = more d.config_repeat }

-- no configuration is in force, and no packet came
abbrev pub nothing_seen : Seen
nothing_seen = record { force = None; version = 0; top = negsuc 9223372036854775807 }

abbrev pub new_desk : Desk
new_desk = record { video = nothing_seen; audio = nothing_seen; discards = no_discards; tags = 0 }

abbrev pub seen : Desk → Kind → Seen
seen d Video = d.video
seen d Audio = d.audio

-- by the configuration in force a payload is of whole units
abbrev pub is_valid : Config → List ℕ → Bool
is_valid (Avc config) payload = is_of_units config.length_size payload
is_valid (Aac config) payload = true

abbrev pub repeats : Option Config → Config → Bool
repeats None config = false
repeats (Some old) config = bytes_eq (raw_of old) (raw_of config)

abbrev pub packet_at : ℕ → ℤ → Bool → ℤ → List ℕ → Config → ℕ → Packet
packet_at stream dts key composition payload config version = record {
  stream = stream;
  dts = dts;
  pts = int_max (dts +ℤ composition) dts;
  key = key;
  form = Native;
  payload = payload;
  config = config;
  version = version;
}

-- a media tag under the configuration in force
abbrev pub media_outcome : ℕ → Kind → Option Config → ℕ → ℤ → Bool → ℤ → List ℕ → Outcome
media_outcome stream kind None version dts key composition payload = outcome.Counted reason.NoStream
media_outcome stream kind (Some config) version dts key composition payload =
    if is_valid config payload then outcome.Gives kind (packet_at stream dts key composition payload config version) else outcome.Counted reason.Corrupt

abbrev pub outcome_by : Kinds → Desk → ℤ → Meaning → Outcome
outcome_by k d stamp (Counted r) = outcome.Counted r
outcome_by k d stamp (Configures config) =
    if not (has k (kind_of config)) then outcome.Counted reason.NoStream
    else if repeats (seen d (kind_of config)).force config then outcome.Counted reason.ConfigRepeat
    else outcome.Forces config
outcome_by k d stamp (Media kind key composition payload) =
    if not (has k kind) then outcome.Counted reason.NoStream
    else media_outcome (number_of_stream k kind) kind (seen d kind).force (seen d kind).version (int_max (seen d kind).top stamp) key composition payload

-- the outcome of a tag
abbrev pub outcome_of : Kinds → Desk → Tag → Outcome
outcome_of k d tag = outcome_by k d tag.stamp (meaning tag)

abbrev pub with_seen : Kind → Seen → Desk → Desk
with_seen Video x d = record d { video = x }
with_seen Audio x d = record d { audio = x }

-- the first configuration has version 0
abbrev pub next_version : Option Config → ℕ → ℕ
next_version None version = 0
next_version (Some old) version = more version

abbrev pub forced : Config → Seen → Seen
forced config x = record { force = Some config; version = next_version x.force x.version; top = x.top }

-- what was seen, after an outcome
abbrev pub entered : Outcome → Desk → Desk
entered (outcome.Counted r) d = record d { discards = counted r d.discards }
entered (outcome.Forces config) d = with_seen (kind_of config) (forced config (seen d (kind_of config))) d
entered (outcome.Gives kind packet) d = with_seen kind (record (seen d kind) { top = packet.dts }) d

abbrev pub one_tag : Desk → Desk
one_tag d = record d { tags = more d.tags }

-- one tag is dealt with
abbrev pub dealt : Kinds → Desk → Tag → Desk
dealt k d tag = one_tag (entered (outcome_of k d tag) d)

abbrev pub packet_in : Outcome → Option Packet
packet_in (outcome.Counted r) = None
packet_in (outcome.Forces config) = None
packet_in (outcome.Gives kind packet) = Some packet

-- what was seen of these tags, where the kinds of streams are known
unfoldable pub desk_of : Kinds → List Tag → Desk
desk_of k tags = fold (dealt k) new_desk tags

-- the packets of these tags, from a desk on
abbrev pub packets_from : Kinds → Desk → List Tag → List Packet
packets_from k d [] = []
packets_from k d (tag ∷ tags) = option_to_list (packet_in (outcome_of k d tag)) ++ packets_from k (dealt k d tag) tags

-- the packets of these tags, where the kinds of streams are known
unfoldable pub packets_by : Kinds → List Tag → List Packet
packets_by k tags = packets_from k new_desk tags

-- the packets of these tags
abbrev pub packets : List Tag → List Packet
packets tags = packets_by (kinds tags) tags

-- what was counted of these tags
abbrev pub discards : List Tag → Discards
discards tags = (desk_of (kinds tags) tags).discards

-- the dts of a stream's last packet, or below every dts where it has none
abbrev pub last_dts : ℕ → List Packet → ℤ
last_dts stream packets = fold (λ dts p. if p.stream == stream then p.dts else dts) (negsuc 9223372036854775807) packets

-- a stream's greatest stamp is of 32 bits, or there is none yet
abbrev pub IsSmallTop : ℤ → Type 0
IsSmallTop top = top ≤ℤ pos 2147483647

-- what holds of a packet as it comes from a text, but for its stream
pub record IsSoundPacket (kind : Kind) (p : Packet) : Type 0 where
  pub config : IsOfKind kind p.config
  pub native : p.form ≡ Native
  pub payload : IsPayload p.config Native p.payload
  pub size : length p.payload ≤ 16777210
  pub low : negsuc 2147483647 ≤ℤ p.dts
  pub high : IsSmallTop p.dts
  pub early : p.dts ≤ℤ p.pts
  pub late : p.pts ≤ℤ (p.dts +ℤ pos 8388607)

abbrev pub IsSoundOutcome : Outcome → Type 0
IsSoundOutcome (outcome.Counted r) = Unit {0}
IsSoundOutcome (outcome.Forces config) = IsAsRead config
IsSoundOutcome (outcome.Gives kind packet) = IsSoundPacket kind packet

pub record IsSoundSeen (kind : Kind) (x : Seen) : Type 0 where
  pub force : IfSome x.force (IsOfKind kind)
  pub top : IsSmallTop x.top

pub record IsSoundDesk (d : Desk) : Type 0 where
  pub video : IsSoundSeen Video d.video
  pub audio : IsSoundSeen Audio d.audio

abbrev pub IsSoundGift : Option Packet → Outcome → Type 0
IsSoundGift None o = Unit {0}
IsSoundGift (Some p) o = (kind : Kind) × (o ≡ outcome.Gives kind p) × IsSoundPacket kind p

-- The tags that tell which streams there are.
use Rattle.std.specs.Prelude.{◌≡◌, ℕ, ◌+◌, ◌≤◌, Bool, ◌&&◌, ◌||◌, nat_le, List, [], ◌∷◌, ◌++◌, length, fold, if◌then◌else◌, Option, Some, None, is_some, IfSome}
use Rattle.rmx_media.specs.Config.{kind_of, IsAsRead}
use Rattle.rmx_media.specs.declared.config.Config.{Config}
use Rattle.rmx_media.specs.declared.config.Config.TheVariants.{Avc, Aac}
use Rattle.rmx_media.specs.declared.streams.Kind.{Kind}
use Rattle.rmx_media.specs.declared.streams.Kind.TheVariants.{Video, Audio}
use Rattle.rmx_media.specs.declared.streams.StreamInfo.{StreamInfo}
use Rattle.rmx_media.specs.declared.streams.MuxStream.{MuxStream}
use Rattle.flv_tags.specs.declared.tag.Tag.{Tag}
use Rattle.flv_demux.specs.declared.deal.Probe.{Probe}
use Rattle.flv_demux.specs.declared.deal.Kinds.{Kinds}
use Rattle.flv_demux.specs.declared.deal.Reason.TheVariants as reason
use Rattle.flv_demux.specs.declared.deal.Meaning.{Meaning}
use Rattle.flv_demux.specs.declared.deal.Meaning.TheVariants.{Counted, Configures, Media}
use Rattle.flv_demux.specs.Meaning.{meaning}

abbrev pub no_probe : Probe
no_probe = record { video = None; audio = None; script = None; tags = 0; bytes = 0 }

-- both kinds have a configuration, or 64 tags or 8388608 bytes of bodies came
abbrev pub is_decided : Probe → Bool
is_decided p = (is_some p.video && is_some p.audio) || nat_le 64 p.tags || nat_le 8388608 p.bytes

-- the first one stays
abbrev pub first_of : {T : Type 0} → Option T → T → Option T
first_of None x = Some x
first_of (Some old) x = Some old

abbrev pub noted : Probe → Meaning → List ℕ → Probe
noted p (Configures (Avc config)) body = record p { video = first_of p.video (Avc config) }
noted p (Configures (Aac config)) body = record p { audio = first_of p.audio (Aac config) }
noted p (Counted reason.Script) body = record p { script = first_of p.script body }
noted p (Counted reason.Unsupported) body = p
noted p (Counted reason.NoStream) body = p
noted p (Counted reason.Corrupt) body = p
noted p (Counted reason.Command) body = p
noted p (Counted reason.SequenceEnd) body = p
noted p (Counted reason.ConfigRepeat) body = p
noted p (Media kind key composition payload) body = p

abbrev pub with_size : Probe → ℕ → Probe
with_size p size = record p { tags = p.tags + 1; bytes = p.bytes + size }

-- a tag is looked at, where the probe isn't decided
abbrev pub probed : Probe → Tag → Probe
probed p tag = if is_decided p then p else with_size (noted p (meaning tag) tag.body) (length tag.body)

-- the probe: the shortest prefix of the tags that decides, or all of them
unfoldable pub probe_of : List Tag → Probe
probe_of tags = fold probed no_probe tags

abbrev pub kinds_of : Probe → Kinds
kinds_of p = record { video = is_some p.video; audio = is_some p.audio }

abbrev pub info_list : Kind → Option Config → List StreamInfo
info_list kind None = []
info_list kind (Some config) = record { kind = kind; config = config } ∷ []

-- video, then audio
abbrev pub infos_of : Probe → List StreamInfo
infos_of p = info_list Video p.video ++ info_list Audio p.audio

-- the streams of these tags
abbrev pub streams : List Tag → List StreamInfo
streams tags = infos_of (probe_of tags)

-- the kinds that have a stream
abbrev pub kinds : List Tag → Kinds
kinds tags = kinds_of (probe_of tags)

-- the body of the first script tag among those that tell which streams there are
abbrev pub script : List Tag → Option (List ℕ)
script tags = (probe_of tags).script

abbrev pub has : Kinds → Kind → Bool
has k Video = k.video
has k Audio = k.audio

abbrev pub has_stream : Kinds → Bool
has_stream k = k.video || k.audio

-- streams are numbered from 0 by their places
abbrev pub number_of_stream : Kinds → Kind → ℕ
number_of_stream k Video = 0
number_of_stream k Audio = if k.video then 1 else 0

abbrev pub stream_count : Kinds → ℕ
stream_count k = (if k.video then 1 else 0) + (if k.audio then 1 else 0)

abbrev pub numbered_from : ℕ → List StreamInfo → List MuxStream
numbered_from n [] = []
numbered_from n (info ∷ infos) = record { stream = n; info = info } ∷ numbered_from (n + 1) infos

-- streams, numbered by their places
abbrev pub numbered : List StreamInfo → List MuxStream
numbered infos = numbered_from 0 infos

-- a configuration is as read and of that kind
pub record IsOfKind (kind : Kind) (config : Config) : Type 0 where
  pub same : kind_of config ≡ kind
  pub read : IsAsRead config

-- what holds of a probe of tags as they come from a text
pub record IsSoundProbe (p : Probe) : Type 0 where
  pub video : IfSome p.video (IsOfKind Video)
  pub audio : IfSome p.audio (IsOfKind Audio)
  pub script : IfSome p.script (λ body. length body ≤ 16777215)

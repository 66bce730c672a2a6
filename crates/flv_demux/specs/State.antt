-- A demuxer: what it has of a text, and what its answers say.
use Rattle.std.specs.Prelude.{◌≡◌, ℕ, suc, ◌+◌, ◌*◌, ◌-◌, ◌<◌, ◌≤◌, ◌⊎◌, Bool, true, false, List, [], ◌∷◌, ◌++◌, length, take, Option, Some, None, Result, Ok, Err, ◌≤ℤ◌}
use Rattle.std.specs.List.{All}
use Rattle.rmx_media.specs.declared.packet.Packet.{Packet}
use Rattle.rmx_media.specs.declared.packet.Format.TheVariants.{Flv}
use Rattle.rmx_media.specs.declared.streams.Kind.{Kind}
use Rattle.rmx_media.specs.declared.streams.StreamInfo.{StreamInfo}
use Rattle.rmx_media.specs.declared.streams.MuxStreams.{MuxStreams}
use Rattle.rmx_media.specs.Fits.{Fits}
use Rattle.rmx_media.specs.Streams.{AreInfos}
use Rattle.flv_tags.specs.declared.tag.Tag.{Tag}
use Rattle.flv_tags.specs.declared.tag.TagFault.TheVariants as fault
use Rattle.flv_tags.specs.Tags.{reading_of, Begins}
use Rattle.flv_tags.specs.Reader.{ReaderState, HasRead, HasNoFault, left_of}
use Rattle.flv_demux.specs.declared.deal.Desk.{Desk}
use Rattle.flv_demux.specs.declared.deal.Kinds.{Kinds}
use Rattle.flv_demux.specs.declared.deal.Probe.{Probe}
use Rattle.flv_demux.specs.declared.deal.Shown.{Shown}
use Rattle.flv_demux.specs.declared.demuxer.DemuxStep.{DemuxStep}
use Rattle.flv_demux.specs.declared.demuxer.DemuxStep.TheVariants as next
use Rattle.flv_demux.specs.declared.demuxer.DemuxFault.{DemuxFault}
use Rattle.flv_demux.specs.declared.demuxer.DemuxFault.TheVariants as demux
use Rattle.flv_demux.specs.Probe.{probe_of, is_decided, kinds_of, infos_of, kinds, streams, script, has, has_stream, number_of_stream, stream_count, numbered}
use Rattle.flv_demux.specs.Deal.{new_desk, desk_of, no_discards, packets_by, last_dts, IsSoundPacket}

-- what is at work
pub record Core : Type 0 where
  pub reader : ReaderState
  -- tags that were read and not yet dealt with
  pub waiting : List Tag
  -- of how many of them the probe is
  pub looked : ℕ
  pub probe : Probe
  -- the kinds that have a stream, where that is decided
  pub known : Option Kinds
  pub infos : List StreamInfo
  pub desk : Desk

pub record DemuxState : Type 0 where
  pub core : Core
  -- what is told of the tags dealt with
  pub shown : Shown

-- nothing is told yet
abbrev pub unshown : Shown
unshown = record { known = false; tags = 0; discards = no_discards }

abbrev pub shown_of : Desk → Shown
shown_of d = record { known = true; tags = d.tags; discards = d.discards }

-- the text is an FLV text, whether or not it is cut
abbrev pub IsReadable : List ℕ → Type 0
IsReadable fed = ((reading_of fed).verdict ≡ None) ⊎ ((reading_of fed).verdict ≡ Some fault.CutTag)

-- it is decided which streams there are: by the tags, or by the end of the text
abbrev pub IsDecided : List ℕ → Bool → Type 0
IsDecided fed ended = (is_decided (probe_of (reading_of fed).tags) ≡ true) ⊎ ((ended ≡ true) × IsReadable fed)

-- the probe is that of all tags, whatever comes
pub record IsSure (probe : Probe) (fed : List ℕ) (ended : Bool) : Type 0 where
  pub looked : List Tag
  pub begins : Begins fed looked
  pub probe_is : probe ≡ probe_of looked
  pub why : (is_decided probe ≡ true) ⊎ ((ended ≡ true) × ((reading_of fed).tags ≡ looked) × IsReadable fed)

-- while it isn't decided which streams there are, all tags wait
pub record Waits (done : List Tag) (s : Core) : Type 0 where
  pub done_none : done ≡ []
  pub desk : s.desk ≡ new_desk
  pub within : s.looked ≤ length s.waiting
  pub probe : s.probe ≡ probe_of (take s.looked s.waiting)

-- and from then on they are dealt with
pub record Deals (k : Kinds) (fed : List ℕ) (done : List Tag) (s : Core) : Type 0 where
  pub sure : IsSure s.probe fed s.reader.ended
  pub kinds : k ≡ kinds_of s.probe
  pub infos : s.infos ≡ infos_of s.probe
  pub desk : s.desk ≡ desk_of k done
  pub idle : has_stream k ≡ false → done ≡ []

-- these bytes were fed and these tags dealt with
pub record Demuxed (fed : List ℕ) (done : List Tag) (s : Core) : Type 0 where
  pub read : HasRead fed (done ++ s.waiting) s.reader
  pub begins : Begins fed (done ++ s.waiting)
  pub unknown : s.known ≡ None → Waits done s
  pub known : (k : Kinds) → s.known ≡ Some k → Deals k fed done s

-- what is told is told of these tags
abbrev pub IsShown : List Tag → DemuxState → Type 0
IsShown done s = ((s.shown ≡ unshown) × (done ≡ [])) ⊎ ((k : Kinds) × (s.core.known ≡ Some k) × (s.shown ≡ shown_of (desk_of k done)))

-- these bytes were fed, and these tags are the ones dealt with as it is told. A call that was refused memory may have dealt
-- with others that have no packet
pub record HasDealt (fed : List ℕ) (done : List Tag) (s : DemuxState) : Type 0 where
  pub quiet : List Tag
  pub inner : Demuxed fed (done ++ quiet) s.core
  pub none : (k : Kinds) → s.core.known ≡ Some k → packets_by k (done ++ quiet) ≡ packets_by k done
  pub shown : IsShown done s

-- what is told is up to date
pub record IsTold (done : List Tag) (s : DemuxState) : Type 0 where
  pub unknown : s.core.known ≡ None → s.shown ≡ unshown
  pub known : (k : Kinds) → s.core.known ≡ Some k → s.shown ≡ shown_of (desk_of k done)

-- what is known of the streams is what the tags of all bytes fed say
pub record Settles (k : Kinds) (fed : List ℕ) (s : DemuxState) : Type 0 where
  pub known : s.core.known ≡ Some k
  pub kinds : k ≡ kinds (reading_of fed).tags
  pub infos : s.core.infos ≡ streams (reading_of fed).tags
  pub script : s.core.probe.script ≡ script (reading_of fed).tags

-- a packet of a stream that there is
pub record IsOfStream (k : Kinds) (p : Packet) : Type 0 where
  pub kind : Kind
  pub there : has k kind ≡ true
  pub number : p.stream ≡ number_of_stream k kind
  pub sound : IsSoundPacket kind p

-- the next packet is of one of the next tags, and those between have none
pub record GivesPacket (p : Packet) (fed : List ℕ) (done : List Tag) (new : DemuxState) : Type 0 where
  pub kinds : Kinds
  pub before : List Tag
  pub tag : Tag
  pub settled : Settles kinds fed new
  pub dealt : HasDealt fed ((done ++ before) ++ tag ∷ []) new
  pub begins : Begins fed ((done ++ before) ++ tag ∷ [])
  pub none : packets_by kinds (done ++ before) ≡ packets_by kinds done
  pub one : packets_by kinds ((done ++ before) ++ tag ∷ []) ≡ packets_by kinds done ++ p ∷ []
  pub told : IsTold ((done ++ before) ++ tag ∷ []) new
  -- its dts isn't below that of its stream's last packet, and its stream is one of those that there are
  pub rising : last_dts p.stream (packets_by kinds done) ≤ℤ p.dts
  pub below : p.stream < stream_count kinds
  pub fits : (m : MuxStreams) → m.streams.items ≡ numbered new.core.infos → Fits Flv m p

-- more tags were dealt with, none of which has a packet
pub record Passes (fed : List ℕ) (done : List Tag) (new : DemuxState) : Type 0 where
  pub more : List Tag
  pub dealt : HasDealt fed (done ++ more) new
  pub none : (k : Kinds) → new.core.known ≡ Some k → packets_by k (done ++ more) ≡ packets_by k done
  pub told : IsTold (done ++ more) new

-- all tags of the bytes fed are dealt with, and there are streams
pub record DealsWithAll (fed : List ℕ) (done : List Tag) (new : DemuxState) : Type 0 where
  pub passes : Passes fed done new
  pub kinds : Kinds
  pub settled : Settles kinds fed new
  pub some : has_stream kinds ≡ true
  pub all : (reading_of fed).tags ≡ done ++ passes.more

-- it isn't decided which streams there are
pub record Undecided (fed : List ℕ) (done : List Tag) (new : DemuxState) : Type 0 where
  pub dealt : HasDealt fed done new
  pub unknown : new.core.known ≡ None
  pub none : done ≡ []
  pub untold : new.shown ≡ unshown

-- it is decided that there is no stream
pub record HasNoStreams (fed : List ℕ) (done : List Tag) (ended : Bool) (new : DemuxState) : Type 0 where
  pub dealt : HasDealt fed done new
  pub kinds : Kinds
  pub settled : Settles kinds fed new
  pub decided : IsDecided fed ended
  pub no_streams : streams (reading_of fed).tags ≡ []
  pub none : done ≡ []
  pub told : new.shown ≡ shown_of new_desk

-- what an answer says of the bytes fed and the tags dealt with before it
abbrev pub Nexts : Result DemuxStep DemuxFault → List ℕ → List Tag → Bool → DemuxState → DemuxState → Type 0
Nexts (Ok (next.Packet p)) fed done ended old new = GivesPacket p fed done new
Nexts (Ok next.NeedMore) fed done ended old new = (ended ≡ false) × HasNoFault fed × (DealsWithAll fed done new ⊎ (Undecided fed done new × (is_decided (probe_of (reading_of fed).tags) ≡ false)))
Nexts (Ok next.End) fed done ended old new = (ended ≡ true) × ((reading_of fed).verdict ≡ None) × DealsWithAll fed done new
Nexts (Err (demux.Tag fault.CutTag)) fed done ended old new = (ended ≡ true) × ((reading_of fed).verdict ≡ Some fault.CutTag) × DealsWithAll fed done new
Nexts (Err (demux.Tag fault.NotFlv)) fed done ended old new = ((reading_of fed).verdict ≡ Some fault.NotFlv) × (ended ≡ false → 9 ≤ length fed) × Undecided fed done new
Nexts (Err (demux.Tag fault.BadOffset)) fed done ended old new = ((reading_of fed).verdict ≡ Some fault.BadOffset) × Undecided fed done new
Nexts (Err (demux.Tag fault.NoMemory)) fed done ended old new = ⊥
Nexts (Err demux.NoStreams) fed done ended old new = HasNoStreams fed done ended new
Nexts (Err demux.NoMemory) fed done ended old new = HasDealt fed done new × (new.shown ≡ old.shown)

abbrev pub is_packet : DemuxStep → Bool
is_packet (next.Packet p) = true
is_packet next.NeedMore = false
is_packet next.End = false

-- what is to be done before the streams are known
abbrev pub unlooked : Core → ℕ
unlooked s = elim s.known [ None ↦ suc (length s.waiting - s.looked) | Some k ↦ 0 ]

-- how many steps are left at most, where nothing more is fed
abbrev pub left_in : Core → ℕ
left_in s = 4 * left_of s.reader + 2 * length s.waiting + unlooked s

-- bodies are as long as three bytes can say
abbrev pub HaveSmallBodies : List Tag → Type 0
HaveSmallBodies tags = All (λ tag. length tag.body < 16777216) tags

-- no stream, or a video and an audio stream or one of both, with configurations as read
abbrev pub AreSoundInfos : List StreamInfo → Type 0
AreSoundInfos [] = Unit {0}
AreSoundInfos (info ∷ infos) = AreInfos (info ∷ infos)

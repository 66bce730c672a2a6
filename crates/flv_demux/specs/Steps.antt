-- One step of a demuxer.
use Rattle.std.specs.Prelude.{◌≡◌, ℕ, ◌+◌, ◌≤◌, slice_index_or, ◌⊎◌, Bool, true, false, List, [], ◌∷◌, ◌++◌, length, Option, Some, None, Result, Ok, Err, ◌≤ℤ◌}
use Rattle.rmx_media.specs.declared.packet.Packet.{Packet}
use Rattle.flv_tags.specs.declared.tag.Tag.{Tag}
use Rattle.flv_tags.specs.declared.tag.TagFault.{TagFault}
use Rattle.flv_tags.specs.declared.tag.TagFault.TheVariants as fault
use Rattle.flv_tags.specs.Tags.{reading_of, Begins}
use Rattle.flv_tags.specs.Reader.{ReaderState, HasRead, HasNoFault}
use Rattle.flv_demux.specs.declared.deal.Desk.{Desk}
use Rattle.flv_demux.specs.declared.deal.Kinds.{Kinds}
use Rattle.flv_demux.specs.declared.deal.Streams.{Streams}
use Rattle.flv_demux.specs.declared.demuxer.DemuxStep.{DemuxStep}
use Rattle.flv_demux.specs.declared.demuxer.DemuxStep.TheVariants as next
use Rattle.flv_demux.specs.declared.demuxer.DemuxFault.{DemuxFault}
use Rattle.flv_demux.specs.declared.demuxer.DemuxFault.TheVariants as demux
use Rattle.flv_demux.specs.declared.steps.Read.{Read}
use Rattle.flv_demux.specs.declared.steps.Read.TheVariants as read
use Rattle.flv_demux.specs.declared.steps.Stepped.{Stepped}
use Rattle.flv_demux.specs.declared.steps.Stepped.TheVariants as stepped
use Rattle.flv_demux.specs.Probe.{probe_of, probed, is_decided, has_stream, kinds_of, infos_of}
use Rattle.flv_demux.specs.Deal.{dealt, packet_in, outcome_of, packets_by, IsSoundGift}
use Rattle.flv_demux.specs.State.{Core, Demuxed, IsOfStream}
use Rattle.flv_demux.specs.Deal.{last_dts}

-- one tag was read behind those that wait, or there is none: then all whole tags were read
abbrev pub ReadsOne : Result Read DemuxFault → List ℕ → List Tag → Bool → ReaderState → List Tag → List Tag → Type 0
ReadsOne (Ok read.Tag) fed done ended reader old new = HasRead fed (done ++ new) reader × Begins fed (done ++ new) × ((tag : Tag) × (new ≡ old ++ tag ∷ []))
ReadsOne (Ok read.NeedMore) fed done ended reader old new = HasRead fed (done ++ old) reader × (new ≡ old) × (ended ≡ false) × ((reading_of fed).tags ≡ done ++ old) × HasNoFault fed
ReadsOne (Ok read.End) fed done ended reader old new = HasRead fed (done ++ old) reader × (new ≡ old) × (ended ≡ true) × (reading_of fed ≡ record { tags = done ++ old; verdict = None })
ReadsOne (Err demux.NoMemory) fed done ended reader old new = HasRead fed (done ++ old) reader × (new ≡ old)
ReadsOne (Err demux.NoStreams) fed done ended reader old new = ⊥
ReadsOne (Err (demux.Tag fault.NotFlv)) fed done ended reader old new = HasRead fed (done ++ old) reader × (new ≡ old) × (reading_of fed ≡ record { tags = done ++ old; verdict = Some fault.NotFlv }) × (ended ≡ false → 9 ≤ length fed)
ReadsOne (Err (demux.Tag fault.BadOffset)) fed done ended reader old new = HasRead fed (done ++ old) reader × (new ≡ old) × (reading_of fed ≡ record { tags = done ++ old; verdict = Some fault.BadOffset })
ReadsOne (Err (demux.Tag fault.CutTag)) fed done ended reader old new = HasRead fed (done ++ old) reader × (new ≡ old) × (ended ≡ true) × (reading_of fed ≡ record { tags = done ++ old; verdict = Some fault.CutTag })
ReadsOne (Err (demux.Tag fault.NoMemory)) fed done ended reader old new = ⊥

-- the first waiting tag was dealt with
pub record DealsFirst (k : Kinds) (packet : Option Packet) (waiting rest : List Tag) (old new : Desk) : Type 0 where
  pub tag : Tag
  pub first : waiting ≡ tag ∷ rest
  pub desk : new ≡ dealt k old tag
  pub packet_is : packet ≡ packet_in (outcome_of k old tag)
  pub gift : IsSoundGift packet (outcome_of k old tag)

-- a packet of the next tag
pub record GivesOne (p : Packet) (fed : List ℕ) (done : List Tag) (new : Core) : Type 0 where
  pub kinds : Kinds
  pub tag : Tag
  pub known : new.known ≡ Some kinds
  pub dealt : Demuxed fed (done ++ tag ∷ []) new
  pub one : packets_by kinds (done ++ tag ∷ []) ≡ packets_by kinds done ++ p ∷ []
  pub rising : last_dts p.stream (packets_by kinds done) ≤ℤ p.dts
  pub stream : IsOfStream kinds p

-- tags without a packet were dealt with, or none
pub record PassesOn (fed : List ℕ) (done : List Tag) (new : Core) : Type 0 where
  pub more : List Tag
  pub dealt : Demuxed fed (done ++ more) new
  pub none : (k : Kinds) → new.known ≡ Some k → packets_by k (done ++ more) ≡ packets_by k done

-- all tags were dealt with, and there is a stream
pub record IsThrough (fed : List ℕ) (done : List Tag) (new : Core) : Type 0 where
  pub kinds : Kinds
  pub known : new.known ≡ Some kinds
  pub some : has_stream kinds ≡ true
  pub all : (reading_of fed).tags ≡ done

pub record HasNone (new : Core) : Type 0 where
  pub kinds : Kinds
  pub known : new.known ≡ Some kinds
  pub none : has_stream kinds ≡ false

abbrev pub Steps : Result Stepped DemuxFault → List ℕ → List Tag → Bool → Core → Type 0
Steps (Ok (stepped.Packet p)) fed done ended new = GivesOne p fed done new
Steps (Ok stepped.Again) fed done ended new = PassesOn fed done new
Steps (Ok stepped.NeedMore) fed done ended new = Demuxed fed done new × (ended ≡ false) × HasNoFault fed × (IsThrough fed done new ⊎ ((new.known ≡ None) × (is_decided (probe_of (reading_of fed).tags) ≡ false)))
Steps (Ok stepped.End) fed done ended new = Demuxed fed done new × (ended ≡ true) × ((reading_of fed).verdict ≡ None) × IsThrough fed done new
Steps (Err demux.NoMemory) fed done ended new = Demuxed fed done new
Steps (Err demux.NoStreams) fed done ended new = Demuxed fed done new × HasNone new
Steps (Err (demux.Tag fault.NotFlv)) fed done ended new = Demuxed fed done new × (new.known ≡ None) × ((reading_of fed).verdict ≡ Some fault.NotFlv) × (ended ≡ false → 9 ≤ length fed)
Steps (Err (demux.Tag fault.BadOffset)) fed done ended new = Demuxed fed done new × (new.known ≡ None) × ((reading_of fed).verdict ≡ Some fault.BadOffset)
Steps (Err (demux.Tag fault.CutTag)) fed done ended new = Demuxed fed done new × (ended ≡ true) × ((reading_of fed).verdict ≡ Some fault.CutTag) × IsThrough fed done new
Steps (Err (demux.Tag fault.NoMemory)) fed done ended new = ⊥

abbrev pub is_read : Read → Bool
is_read read.Tag = true
is_read read.NeedMore = false
is_read read.End = false

abbrev pub is_on : Stepped → Bool
is_on (stepped.Packet p) = true
is_on stepped.Again = true
is_on stepped.NeedMore = false
is_on stepped.End = false

-- the parts of a demuxer at work
abbrev pub core_at : ReaderState → List Tag → Streams → Desk → Core
core_at reader waiting s desk = record { reader = reader; waiting = waiting; looked = s.looked; probe = s.probe; known = s.known; infos = s.infos.items; desk = desk }

-- the fault of a reader, as a demuxer answers it
abbrev pub fault_in : TagFault → DemuxFault
fault_in fault.NotFlv = demux.Tag fault.NotFlv
fault_in fault.BadOffset = demux.Tag fault.BadOffset
fault_in fault.CutTag = demux.Tag fault.CutTag
fault_in fault.NoMemory = demux.NoMemory

-- the text ends too early
abbrev pub is_cut : DemuxFault → Bool
is_cut (demux.Tag fault.NotFlv) = false
is_cut (demux.Tag fault.BadOffset) = false
is_cut (demux.Tag fault.CutTag) = true
is_cut (demux.Tag fault.NoMemory) = false
is_cut demux.NoStreams = false
is_cut demux.NoMemory = false

-- one more of the waiting tags is looked at
pub record LooksAtNext (waiting : List Tag) (old new : Streams) : Type 0 where
  pub tag : Tag
  pub tag_is : tag ≡ slice_index_or waiting old.looked tag
  pub looked : new.looked ≡ old.looked + 1
  pub probe : new.probe ≡ probed old.probe tag
  pub known : new.known ≡ old.known

-- the streams are known from now on
pub record Decides (old new : Streams) : Type 0 where
  pub known : new.known ≡ Some (kinds_of old.probe)
  pub infos : new.infos.items ≡ infos_of old.probe
  pub probe : new.probe ≡ old.probe
  pub looked : new.looked ≡ old.looked

-- a packet of the next tags, of which those before have none
pub record GivesNext (p : Packet) (fed : List ℕ) (done : List Tag) (new : Core) : Type 0 where
  pub before : List Tag
  pub none : (k : Kinds) → new.known ≡ Some k → packets_by k (done ++ before) ≡ packets_by k done
  pub gives : GivesOne p fed (done ++ before) new

-- what the steps up to an answer do
abbrev pub Advances : Result DemuxStep DemuxFault → List ℕ → List Tag → Bool → Core → Type 0
Advances (Ok (next.Packet p)) fed done ended new = GivesNext p fed done new
Advances (Ok next.NeedMore) fed done ended new = (p : PassesOn fed done new) × Steps (Ok stepped.NeedMore) fed (done ++ p.more) ended new
Advances (Ok next.End) fed done ended new = (p : PassesOn fed done new) × Steps (Ok stepped.End) fed (done ++ p.more) ended new
Advances (Err f) fed done ended new = (p : PassesOn fed done new) × Steps (Err f) fed (done ++ p.more) ended new

-- memory was refused
abbrev pub is_refusal : Result DemuxStep DemuxFault → Bool
is_refusal (Ok step) = false
is_refusal (Err (demux.Tag f)) = false
is_refusal (Err demux.NoStreams) = false
is_refusal (Err demux.NoMemory) = true

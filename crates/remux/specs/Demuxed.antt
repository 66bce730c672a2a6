-- What a demuxer answers.
use Rattle.std.specs.Prelude.{◌≡◌, ℕ, ◌<◌, ◌≤◌, ◌⊎◌, length, Bool, true, false, List, [], ◌∷◌, ◌++◌, Option, Some, None, Result, Ok, Err, ◌≤ℤ◌}
use Rattle.rmx_media.specs.declared.packet.Packet.{Packet}
use Rattle.flv_tags.specs.declared.tag.Tag.{Tag}
use Rattle.flv_tags.specs.declared.tag.TagFault.{TagFault}
use Rattle.flv_tags.specs.declared.tag.TagFault.TheVariants as tag_fault
use Rattle.flv_tags.specs.Tags.{reading_of, Begins}
use Rattle.flv_demux.specs.declared.deal.Kinds.{Kinds}
use Rattle.flv_demux.specs.declared.demuxer.DemuxStep.{DemuxStep}
use Rattle.flv_demux.specs.declared.demuxer.DemuxStep.TheVariants as step
use Rattle.flv_demux.specs.declared.demuxer.DemuxFault.{DemuxFault}
use Rattle.flv_demux.specs.declared.demuxer.DemuxFault.TheVariants as fault
use Rattle.flv_demux.specs.Probe.{stream_count, kinds, streams, probe_of, is_decided}
use Rattle.flv_demux.specs.Deal.{packets_by, last_dts}
use Rattle.remux.specs.Fit.{Fit}

-- p is the packet of the next tag that has one
pub record Gives (s : Kinds) (b : List ℕ) (done : List Tag) (p : Packet) (has : List Tag → Type 0) : Type 0 where
  pub before : List Tag
  pub tag : Tag
  pub dealt : has (before ++ tag ∷ [])
  pub later : length done ≤ length before
  pub begin : Begins b (before ++ tag ∷ [])
  pub none_before : packets_by s before ≡ packets_by s done
  pub one : packets_by s (before ++ tag ∷ []) ≡ packets_by s done ++ p ∷ []
  pub stream : p.stream < stream_count s
  pub order : last_dts p.stream (packets_by s done) ≤ℤ p.dts
  pub fit : Fit s p

-- all tags are dealt with, and there was no further packet
pub record NoMore (s : Kinds) (b : List ℕ) (done : List Tag) (has : List Tag → Type 0) : Type 0 where
  pub dealt : has (reading_of b).tags
  pub none : packets_by s (reading_of b).tags ≡ packets_by s done

-- some tags are dealt with
pub record SomeDealt (b : List ℕ) (has : List Tag → Type 0) : Type 0 where
  pub tags : List Tag
  pub begin : Begins b tags
  pub dealt : has tags

-- an answer where the streams are known
abbrev pub Nexts : Result DemuxStep DemuxFault → Kinds → List ℕ → List Tag → Bool → Option Kinds → (List Tag → Type 0) → Type 0
Nexts (Ok (step.Packet p)) s b done ended known has = (known ≡ Some s) × Gives s b done p has
Nexts (Ok step.NeedMore) s b done ended known has = (known ≡ Some s) × (ended ≡ false) × NoMore s b done has
Nexts (Ok step.End) s b done ended known has = (known ≡ Some s) × (ended ≡ true) × ((reading_of b).verdict ≡ None) × NoMore s b done has
Nexts (Err (fault.Tag f)) s b done ended known has = (known ≡ Some s) × (ended ≡ true) × (f ≡ tag_fault.CutTag) × ((reading_of b).verdict ≡ Some f) × NoMore s b done has
Nexts (Err fault.NoStreams) s b done ended known has = ⊥
Nexts (Err fault.NoMemory) s b done ended known has = SomeDealt b has

-- the text doesn't begin as an FLV file does
abbrev pub is_refused : Option TagFault → Bool
is_refused (Some tag_fault.NotFlv) = true
is_refused (Some tag_fault.BadOffset) = true
is_refused (Some tag_fault.CutTag) = false
is_refused (Some tag_fault.NoMemory) = false
is_refused None = false

-- it is decided which streams there are, whatever comes
pub record Finds (s : Kinds) (b : List ℕ) (ended : Bool) (known : Option Kinds) : Type 0 where
  pub known_is : known ≡ Some s
  pub kinds_are : s ≡ kinds (reading_of b).tags
  pub decided : (is_decided (probe_of (reading_of b).tags) ≡ true) ⊎ (ended ≡ true)
  pub some : 0 < stream_count s
  pub calm : is_refused (reading_of b).verdict ≡ false

-- it isn't decided by all tags at hand, and the text may be an FLV text
pub record Waits (b : List ℕ) (ended : Bool) (known : Option Kinds) (has : List Tag → Type 0) : Type 0 where
  pub unended : ended ≡ false
  pub unknown : known ≡ None
  pub dealt : has []
  pub undecided : is_decided (probe_of (reading_of b).tags) ≡ false
  pub calm : 9 ≤ length b → is_refused (reading_of b).verdict ≡ false

-- there is no stream
pub record FindsNone (b : List ℕ) (ended : Bool) : Type 0 where
  pub settled : (is_decided (probe_of (reading_of b).tags) ≡ true) ⊎ (ended ≡ true)
  pub none : streams (reading_of b).tags ≡ []
  pub calm : is_refused (reading_of b).verdict ≡ false

-- an answer where the streams aren't known
abbrev pub Firsts : Result DemuxStep DemuxFault → List ℕ → Bool → Option Kinds → (List Tag → Type 0) → Type 0
Firsts (Ok (step.Packet p)) b ended known has = (s : Kinds) × Finds s b ended known × Gives s b [] p has
Firsts (Ok step.NeedMore) b ended known has = Waits b ended known has ⊎ ((s : Kinds) × Finds s b ended known × (ended ≡ false) × NoMore s b [] has)
Firsts (Ok step.End) b ended known has = (s : Kinds) × Finds s b ended known × (ended ≡ true) × ((reading_of b).verdict ≡ None) × NoMore s b [] has
Firsts (Err (fault.Tag tag_fault.NotFlv)) b ended known has = ((9 ≤ length b) ⊎ (ended ≡ true)) × ((reading_of b).verdict ≡ Some tag_fault.NotFlv)
Firsts (Err (fault.Tag tag_fault.BadOffset)) b ended known has = ((9 ≤ length b) ⊎ (ended ≡ true)) × ((reading_of b).verdict ≡ Some tag_fault.BadOffset)
Firsts (Err (fault.Tag tag_fault.CutTag)) b ended known has = (s : Kinds) × Finds s b ended known × (ended ≡ true) × ((reading_of b).verdict ≡ Some tag_fault.CutTag) × NoMore s b [] has
Firsts (Err (fault.Tag tag_fault.NoMemory)) b ended known has = ⊥
Firsts (Err fault.NoStreams) b ended known has = FindsNone b ended
Firsts (Err fault.NoMemory) b ended known has = Unit {0}

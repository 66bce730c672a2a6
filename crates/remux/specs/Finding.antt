-- Looking for the streams of an input.
use Rattle.std.specs.Prelude.{◌≡◌, ℕ, ◌+◌, ◌<◌, ◌≤◌, ◌⊎◌, Bool, true, false, List, [], ◌++◌, length, Option, Some, None, Result, Ok, Err}
use Rattle.rmx_media.specs.declared.packet.Packet.{Packet}
use Rattle.flv_tags.specs.declared.tag.Tag.{Tag}
use Rattle.flv_tags.specs.declared.tag.TagFault.TheVariants as tag_fault
use Rattle.flv_tags.specs.Tags.{reading_of}
use Rattle.flv_demux.specs.declared.deal.Kinds.{Kinds}
use Rattle.flv_demux.specs.Probe.{streams, probe_of, is_decided}
use Rattle.rmx_edge.specs.Count.{Rose}
use Rattle.rmx_edge.specs.Inputs.{InputState}
use Rattle.remux.specs.declared.probe.Reached.{Reached}
use Rattle.remux.specs.declared.probe.Reached.TheVariants as reached
use Rattle.remux.specs.declared.probe.Progress.{Progress}
use Rattle.remux.specs.declared.probe.Looked.{Looked}
use Rattle.remux.specs.declared.probe.Looked.TheVariants as looked
use Rattle.remux.specs.declared.probe.Found.{Found}
use Rattle.remux.specs.declared.probe.Unfound.{Unfound}
use Rattle.remux.specs.declared.probe.Unfound.TheVariants as unfound
use Rattle.remux.specs.Demuxed.{Gives, NoMore, Finds, Waits, FindsNone, is_refused}
use Rattle.remux.specs.Took.{Took, SawEnd}

-- the packet that came with the streams, if one did
abbrev pub First : Kinds → List ℕ → Option Packet → (List Tag → Type 0) → Type 0
First s b None has = NoMore s b [] has
First s b (Some p) has = Gives s b [] p has

-- what one look gives
abbrev pub Looks : Result Looked Unfound → List ℕ → Bool → Option Kinds → (List Tag → Type 0) → Type 0
Looks (Ok (looked.Found first)) b ended known has = (s : Kinds) × Finds s b ended known × First s b first has
Looks (Ok looked.Wait) b ended known has = Waits b ended known has
Looks (Err unfound.NotFlv) b ended known has = ((9 ≤ length b) ⊎ (ended ≡ true)) × ((reading_of b).verdict ≡ Some tag_fault.NotFlv)
Looks (Err unfound.BadOffset) b ended known has = ((9 ≤ length b) ⊎ (ended ≡ true)) × ((reading_of b).verdict ≡ Some tag_fault.BadOffset)
Looks (Err unfound.NoStreams) b ended known has = FindsNone b ended
Looks (Err unfound.InputFault) b ended known has = ⊥
Looks (Err unfound.NoMemory) b ended known has = Unit {0}

-- b without its last piece settles nothing: it doesn't decide the probe, and isn't refused
pub record LateProbe (b : List ℕ) : Type 0 where
  pub front : List ℕ
  pub piece : List ℕ
  pub whole : b ≡ front ++ piece
  pub small : length piece ≤ 65536
  pub undecided : (p rest : List ℕ) → front ≡ p ++ rest → is_decided (probe_of (reading_of p).tags) ≡ false
  pub calm : 9 ≤ length front → is_refused (reading_of front).verdict ≡ false

-- how far the reading came
abbrev pub ByReached : Reached → List ℕ → Bool → ℕ → InputState → Type 0
ByReached reached.More b ended left now = (ended ≡ false) × (now.readable ≡ true)
ByReached reached.End b ended left now = (ended ≡ true) × SawEnd now × (is_decided (probe_of (reading_of b).tags) ≡ false) × (0 < left) × (now.readable ≡ false)
ByReached reached.Limit b ended left now = (ended ≡ true) × (left ≡ 0) × (is_decided (probe_of (reading_of b).tags) ≡ false)

-- these bytes were taken
pub record Taking (limit : ℕ) (old new : InputState) (bytes : List ℕ) : Type 0 where
  pub long : length bytes ≤ limit
  pub took : Took bytes old new

-- the streams aren't known yet
pub record Seeks (limit left : ℕ) (reached : Reached) (old new : InputState) (ended : Bool) (known : Option Kinds) (has : List ℕ → List Tag → Type 0) : Type 0 where
  pub bytes : List ℕ
  pub long : length bytes + left ≡ limit
  pub took : Took bytes old new
  pub unknown : known ≡ None
  pub dealt : has bytes []
  pub late : LateProbe bytes
  pub how : ByReached reached bytes ended left new

-- the streams were found
pub record FoundIn (f : Found) (limit : ℕ) (old new : InputState) (ended : Bool) (known : Option Kinds) (has : List ℕ → List Tag → Type 0) : Type 0 where
  pub bytes : List ℕ
  pub long : length bytes + f.left ≡ limit
  pub took : Took bytes old new
  pub streams : Kinds
  pub finds : Finds streams bytes ended known
  pub first : First streams bytes f.first (has bytes)
  pub late : LateProbe bytes
  pub how : ByReached f.reached bytes ended f.left new

-- a fault of the input came first
pub record Broke (limit : ℕ) (old new : InputState) : Type 0 where
  pub bytes : List ℕ
  pub taking : Taking limit old new bytes
  pub fewer : length bytes < limit
  pub rose : Rose old.faults new.faults
  pub undecided : is_decided (probe_of (reading_of bytes).tags) ≡ false
  pub calm : 9 ≤ length bytes → is_refused (reading_of bytes).verdict ≡ false

-- there are no streams
pub record NoneIn (limit : ℕ) (old new : InputState) : Type 0 where
  pub bytes : List ℕ
  pub taking : Taking limit old new bytes
  pub none : streams (reading_of bytes).tags ≡ []
  pub settled : (is_decided (probe_of (reading_of bytes).tags) ≡ true) ⊎ (SawEnd new ⊎ (length bytes ≡ limit))
  pub calm : is_refused (reading_of bytes).verdict ≡ false
  pub late : LateProbe bytes

-- the text is no FLV text
abbrev pub RefusedIn : (f : Rattle.flv_tags.specs.declared.tag.TagFault.TagFault) → ℕ → InputState → InputState → Type 0
RefusedIn f limit old new = (bytes : List ℕ) × Taking limit old new bytes × ((reading_of bytes).verdict ≡ Some f) × ((9 ≤ length bytes) ⊎ SawEnd new) × LateProbe bytes

-- what the search for streams comes to
abbrev pub Finding : Result Found Unfound → ℕ → InputState → InputState → Bool → Option Kinds → (List ℕ → List Tag → Type 0) → Type 0
Finding (Ok f) limit old new ended known has = FoundIn f limit old new ended known has
Finding (Err unfound.NotFlv) limit old new ended known has = RefusedIn tag_fault.NotFlv limit old new
Finding (Err unfound.BadOffset) limit old new ended known has = RefusedIn tag_fault.BadOffset limit old new
Finding (Err unfound.NoStreams) limit old new ended known has = NoneIn limit old new
Finding (Err unfound.InputFault) limit old new ended known has = Broke limit old new
Finding (Err unfound.NoMemory) limit old new ended known has = (bytes : List ℕ) × Taking limit old new bytes

-- what a further piece comes to
abbrev pub SeeksOn : Result Progress Unfound → ℕ → InputState → InputState → Bool → Option Kinds → (List ℕ → List Tag → Type 0) → Type 0
SeeksOn (Ok p) limit old new ended known has = Seeks limit p.left p.reached old new ended known has
SeeksOn (Err unfound.InputFault) limit old new ended known has = Broke limit old new
SeeksOn (Err unfound.NoMemory) limit old new ended known has = (bytes : List ℕ) × Taking limit old new bytes
SeeksOn (Err unfound.NotFlv) limit old new ended known has = ⊥
SeeksOn (Err unfound.BadOffset) limit old new ended known has = ⊥
SeeksOn (Err unfound.NoStreams) limit old new ended known has = ⊥

-- How the packets of an input were handed over, up to its end.
use Rattle.std.specs.Prelude.{◌≡◌, ℕ, ◌<◌, ◌≤◌, ◌⊎◌, Bool, true, false, List, [], ◌++◌, length, Option, Some, None}
use Rattle.rmx_media.specs.declared.packet.Packet.{Packet}
use Rattle.flv_tags.specs.declared.tag.Tag.{Tag}
use Rattle.flv_tags.specs.declared.tag.TagFault.TheVariants as tag_fault
use Rattle.flv_tags.specs.Tags.{reading_of}
use Rattle.flv_demux.specs.declared.deal.Kinds.{Kinds}
use Rattle.flv_demux.specs.Probe.{stream_count}
use Rattle.flv_demux.specs.Deal.{packets_by}
use Rattle.interleaver.specs.Interleave.{interleave, emitted}
use Rattle.interleaver.specs.Queues.{Pending, goes}
use Rattle.rmx_edge.specs.Count.{Rose}
use Rattle.rmx_edge.specs.Inputs.{InputState}
use Rattle.remux.specs.declared.probe.Reached.{Reached}
use Rattle.remux.specs.declared.read.ReadEnd.{ReadEnd}
use Rattle.remux.specs.declared.read.ReadEnd.TheVariants as ending
use Rattle.remux.specs.Demuxed.{Finds}
use Rattle.remux.specs.Finding.{First, LateProbe, ByReached}
use Rattle.remux.specs.Fit.{Fit}
use Rattle.remux.specs.Flow.{Flow}
use Rattle.remux.specs.Reading.{StopsEarly, Breaks}
use Rattle.remux.specs.Took.{Took, SawEnd}

-- the streams were found, and no packet was given
pub record Ready (s : Kinds) (b : List ℕ) (first : Option Packet) (reached : Reached) (left : ℕ) (now : InputState) (ended : Bool) (known : Option Kinds) (has : List ℕ → List Tag → Type 0) (v : Pending) (keeps : List Packet → Type 0) (takes : Packet → Type 0) : Type 0 where
  pub finds : Finds s b ended known
  pub first_is : First s b first (has b)
  pub late : LateProbe b
  pub how : ByReached reached b ended left now
  pub count : v.streams ≡ stream_count s
  pub flow : Flow [] [] v
  pub stuck : goes v ≡ false
  pub none : v.pending ≡ []
  pub kept : keeps []
  pub accepts : (p : Packet) → Fit s p → takes p

-- what the outputs were given of all packets of these bytes: all of them, or all up to the first behind which they are dead,
-- which the end let out
pub record GivenOut (s : Kinds) (b : List ℕ) (n delta : ℕ) (has : List ℕ → List Tag → Type 0) (keeps : List Packet → Type 0) (dead : ℕ → Bool) : Type 0 where
  pub dealt : has b (reading_of b).tags
  pub given : List Packet
  pub rest : List Packet
  pub kept : keeps given
  pub order : interleave n delta (packets_by s (reading_of b).tags) ≡ given ++ rest
  pub alive : (u : ℕ) → 0 < u → u < length given → dead u ≡ false
  pub last : (rest ≡ []) ⊎ ((0 < length given) × (dead (length given) ≡ true))
  pub late : 0 < length given → dead (length given) ≡ true → length (emitted n delta (packets_by s (reading_of b).tags)) < length given

-- the reading went on behind b, and all that it took was dealt with
pub record Carried (s : Kinds) (b : List ℕ) (left : ℕ) (old new : InputState) (n delta : ℕ) (has : List ℕ → List Tag → Type 0) (keeps : List Packet → Type 0) (dead : ℕ → Bool) : Type 0 where
  pub more : List ℕ
  pub long : length more ≤ left
  pub only : old.readable ≡ false → more ≡ []
  pub took : Took more old new
  pub out : GivenOut s (b ++ more) n delta has keeps dead

-- no more may be taken: whether the text ends there isn't known
abbrev pub limited : ReadEnd → ReadEnd
limited ending.Whole = ending.Limit
limited ending.Cut = ending.Limit
limited ending.Limit = ending.Limit
limited ending.InputFault = ending.InputFault
limited ending.Stop = ending.Stop
limited ending.NoMemory = ending.NoMemory

-- nothing further is handed over
abbrev pub last_of_all : ReadEnd → Bool
last_of_all ending.Whole = false
last_of_all ending.Cut = false
last_of_all ending.Limit = false
last_of_all ending.InputFault = false
last_of_all ending.Stop = true
last_of_all ending.NoMemory = true

-- how it ended
abbrev pub Carries : ReadEnd → Kinds → List ℕ → ℕ → InputState → InputState → Pending → (List ℕ → List Tag → Type 0) → (List Packet → Type 0) → (ℕ → Bool) → Type 0
Carries ending.Whole s b left old new v has keeps dead = (r : Carried s b left old new v.streams v.delta has keeps dead) × SawEnd new × ((reading_of (b ++ r.more)).verdict ≡ None) × (length r.more < left)
Carries ending.Cut s b left old new v has keeps dead = (r : Carried s b left old new v.streams v.delta has keeps dead) × SawEnd new × ((reading_of (b ++ r.more)).verdict ≡ Some tag_fault.CutTag) × (length r.more < left)
Carries ending.Limit s b left old new v has keeps dead = (r : Carried s b left old new v.streams v.delta has keeps dead) × (length r.more ≡ left)
Carries ending.InputFault s b left old new v has keeps dead = Carried s b left old new v.streams v.delta has keeps dead × Rose old.faults new.faults
Carries ending.Stop s b left old new v has keeps dead = StopsEarly s b left old new has v keeps dead
Carries ending.NoMemory s b left old new v has keeps dead = Breaks s b left old new has v keeps dead

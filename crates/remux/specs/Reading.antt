-- A reading of an input up to its end or to a stop.
use Rattle.std.specs.Prelude.{◌≡◌, ℕ, ◌+◌, ◌<◌, ◌≤◌, Bool, true, false, List, [], ◌++◌, length, take, Option, Some, None}
use Rattle.rmx_media.specs.declared.packet.Packet.{Packet}
use Rattle.flv_tags.specs.declared.tag.Tag.{Tag}
use Rattle.flv_tags.specs.declared.tag.TagFault.TheVariants as tag_fault
use Rattle.flv_tags.specs.Tags.{reading_of}
use Rattle.flv_demux.specs.declared.deal.Kinds.{Kinds}
use Rattle.flv_demux.specs.Probe.{probe_of, is_decided}
use Rattle.flv_demux.specs.Deal.{packets_by}
use Rattle.interleaver.specs.Interleave.{emitted}
use Rattle.interleaver.specs.Queues.{Pending}
use Rattle.rmx_edge.specs.Count.{Rose}
use Rattle.rmx_edge.specs.Inputs.{InputState}
use Rattle.remux.specs.declared.read.ReadEnd.{ReadEnd}
use Rattle.remux.specs.declared.read.ReadEnd.TheVariants as ending
use Rattle.remux.specs.Flow.{Stopped, CutShort}
use Rattle.remux.specs.Pumped.{AllGiven}
use Rattle.remux.specs.Took.{Took, SawEnd}

-- b without its last piece holds no probe, or no more tags than so many
pub record Late (b : List ℕ) (done : ℕ) : Type 0 where
  pub front : List ℕ
  pub piece : List ℕ
  pub whole : b ≡ front ++ piece
  pub small : length piece ≤ 65536
  pub old : (p rest : List ℕ) → front ≡ p ++ rest → is_decided (probe_of (reading_of p).tags) ≡ true → length (reading_of p).tags ≤ done

-- no prefix of b that holds the probe and so many tags is 65536 bytes shorter
abbrev pub IsShort : List ℕ → ℕ → Type 0
IsShort b tags = (p rest : List ℕ) → b ≡ p ++ rest → is_decided (probe_of (reading_of p).tags) ≡ true → tags ≤ length (reading_of p).tags → length b < length p + 65536

-- t is the least number of tags over which at least u packets are emitted
pub record IsLeast (s : Kinds) (n delta : ℕ) (tags : List Tag) (t u : ℕ) : Type 0 where
  pub enough : u ≤ length (emitted n delta (packets_by s (take t tags)))
  pub least : (fewer : ℕ) → fewer < t → length (emitted n delta (packets_by s (take fewer tags))) < u

-- the reading stopped early
pub record StopsEarly (s : Kinds) (b : List ℕ) (limit : ℕ) (old new : InputState) (has : List ℕ → List Tag → Type 0) (v : Pending) (keeps : List Packet → Type 0) (dead : ℕ → Bool) : Type 0 where
  pub more : List ℕ
  pub long : length more ≤ limit
  pub only : old.readable ≡ false → more ≡ []
  pub took : Took more old new
  -- the end was not seen, where the probe is decided by the tags themselves
  pub unspent : is_decided (probe_of (reading_of (b ++ more)).tags) ≡ true → new.readable ≡ true
  pub done : ℕ
  pub stopped : Stopped s (b ++ more) done v.streams v.delta has keeps dead
  -- `tags` is the least number of tags whose packets emit as many as were given
  pub least : IsLeast s v.streams v.delta (reading_of (b ++ more)).tags (length stopped.before + 1) (length stopped.given)
  pub short : is_decided (probe_of (reading_of (b ++ more)).tags) ≡ true → IsShort (b ++ more) (length stopped.before + 1)

-- all tags of what was taken are dealt with
pub record Reaches (s : Kinds) (b : List ℕ) (limit : ℕ) (old new : InputState) (known : Option Kinds) (has : List ℕ → List Tag → Type 0) (v : Pending) (keeps : List Packet → Type 0) (dead : ℕ → Bool) (takes : Packet → Type 0) : Type 0 where
  pub more : List ℕ
  pub long : length more ≤ limit
  pub only : old.readable ≡ false → more ≡ []
  pub took : Took more old new
  pub all : AllGiven s (b ++ more) known has v keeps dead takes

-- memory was wanted
pub record Breaks (s : Kinds) (b : List ℕ) (limit : ℕ) (old new : InputState) (has : List ℕ → List Tag → Type 0) (v : Pending) (keeps : List Packet → Type 0) (dead : ℕ → Bool) : Type 0 where
  pub more : List ℕ
  pub long : length more ≤ limit
  pub only : old.readable ≡ false → more ≡ []
  pub took : Took more old new
  pub cut : CutShort s (b ++ more) v.streams v.delta has keeps dead

-- how dealing with the rest ended
abbrev pub Drains : ReadEnd → Kinds → List ℕ → ℕ → Option Kinds → (List ℕ → List Tag → Type 0) → Pending → (List Packet → Type 0) → (ℕ → Bool) → (Packet → Type 0) → Type 0
Drains ending.Whole s b done known has v keeps dead takes = ((reading_of b).verdict ≡ None) × AllGiven s b known has v keeps dead takes
Drains ending.Cut s b done known has v keeps dead takes = ((reading_of b).verdict ≡ Some tag_fault.CutTag) × AllGiven s b known has v keeps dead takes
Drains ending.Limit s b done known has v keeps dead takes = ⊥
Drains ending.InputFault s b done known has v keeps dead takes = ⊥
Drains ending.Stop s b done known has v keeps dead takes = Stopped s b done v.streams v.delta has keeps dead
Drains ending.NoMemory s b done known has v keeps dead takes = CutShort s b v.streams v.delta has keeps dead

-- how a reading ended that went on behind b
abbrev pub Ends : ReadEnd → Kinds → List ℕ → ℕ → InputState → InputState → Option Kinds → (List ℕ → List Tag → Type 0) → Pending → (List Packet → Type 0) → (ℕ → Bool) → (Packet → Type 0) → Type 0
Ends ending.Whole s b limit old new known has v keeps dead takes = (r : Reaches s b limit old new known has v keeps dead takes) × SawEnd new × ((reading_of (b ++ r.more)).verdict ≡ None) × (length r.more < limit)
Ends ending.Cut s b limit old new known has v keeps dead takes = (r : Reaches s b limit old new known has v keeps dead takes) × SawEnd new × ((reading_of (b ++ r.more)).verdict ≡ Some tag_fault.CutTag) × (length r.more < limit)
Ends ending.Limit s b limit old new known has v keeps dead takes = (r : Reaches s b limit old new known has v keeps dead takes) × (length r.more ≡ limit)
Ends ending.InputFault s b limit old new known has v keeps dead takes = Reaches s b limit old new known has v keeps dead takes × Rose old.faults new.faults
Ends ending.Stop s b limit old new known has v keeps dead takes = StopsEarly s b limit old new has v keeps dead
Ends ending.NoMemory s b limit old new known has v keeps dead takes = Breaks s b limit old new has v keeps dead

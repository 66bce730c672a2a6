-- How a reading ended: what it took, which packets were handed over, and which tags were dealt with.
use Rattle.std.specs.Prelude.{◌≡◌, ℕ, ◌<◌, ◌⊎◌, Bool, true, List, [], length, Some, None}
use Rattle.rmx_edge.specs.Count.{Rose}
use Rattle.rmx_edge.specs.Inputs.{InputState}
use Rattle.rmx_media.specs.declared.packet.Packet.{Packet}
use Rattle.flv_tags.specs.declared.tag.Tag.{Tag}
use Rattle.flv_tags.specs.declared.tag.TagFault.TheVariants as tag_fault
use Rattle.flv_tags.specs.Tags.{reading_of, Begins}
use Rattle.flv_demux.specs.Probe.{probe_of, is_decided, kinds, stream_count}
use Rattle.flv_demux.specs.Deal.{packets_by}
use Rattle.interleaver.specs.Interleave.{interleave, emitted}
use Rattle.remux.specs.declared.read.ReadEnd.{ReadEnd}
use Rattle.remux.specs.declared.read.ReadEnd.TheVariants as ending
use Rattle.remux.specs.Reading.{IsLeast, IsShort}
use Rattle.remux.specs.Took.{SawEnd}

-- the packets of these tags in the order in which they are handed over
abbrev pub order_of : ℕ → List Tag → List Packet
order_of delta tags = interleave (stream_count (kinds tags)) delta (packets_by (kinds tags) tags)

-- those of them that these tags let out, whatever follows
abbrev pub emitted_of : ℕ → List Tag → List Packet
emitted_of delta tags = emitted (stream_count (kinds tags)) delta (packets_by (kinds tags) tags)

-- Everything that was taken was dealt with, and all packets were handed over, or all up to the first behind which an output
-- that aborts, or every one, was known to be dead. That packet was let out by the end alone: no tag was dealt with after it was
-- handed over.
pub record IsOver (delta : ℕ) (bytes : List ℕ) (given rest : List Packet) (done : List Tag) (dead : ℕ → Bool) : Type 0 where
  pub all_tags : done ≡ (reading_of bytes).tags
  pub all_packets : (rest ≡ []) ⊎ ((0 < length given) × (dead (length given) ≡ true))
  pub late : 0 < length given → dead (length given) ≡ true → length (emitted_of delta (reading_of bytes).tags) < length given

-- The reading stopped early: behind the last packet an output that aborts, or every one, was known to be dead, and the tags
-- dealt with are as few as let so many packets out. Where the tags themselves decide which streams there are, the end was not
-- seen, and a piece less would not have held so many tags.
pub record IsStopped (delta : ℕ) (bytes : List ℕ) (given : List Packet) (done : List Tag) (dead : ℕ → Bool) (new : InputState) : Type 0 where
  pub some : 0 < length given
  pub dies : dead (length given) ≡ true
  pub begin : Begins bytes done
  pub least : IsLeast (kinds (reading_of bytes).tags) (stream_count (kinds (reading_of bytes).tags)) delta (reading_of bytes).tags (length done) (length given)
  pub unspent : is_decided (probe_of (reading_of bytes).tags) ≡ true → new.readable ≡ true
  pub short : is_decided (probe_of (reading_of bytes).tags) ≡ true → IsShort bytes (length done)

abbrev pub CameTo : ReadEnd → ℕ → ℕ → InputState → InputState → List ℕ → List Packet → List Packet → List Tag → (ℕ → Bool) → Type 0
CameTo ending.Whole max delta old new bytes given rest done dead =
    IsOver delta bytes given rest done dead × SawEnd new × ((reading_of bytes).verdict ≡ None) × (length bytes < max)
CameTo ending.Cut max delta old new bytes given rest done dead =
    IsOver delta bytes given rest done dead × SawEnd new × ((reading_of bytes).verdict ≡ Some tag_fault.CutTag) × (length bytes < max)
CameTo ending.Limit max delta old new bytes given rest done dead = IsOver delta bytes given rest done dead × (length bytes ≡ max)
CameTo ending.InputFault max delta old new bytes given rest done dead = IsOver delta bytes given rest done dead × Rose old.faults new.faults
CameTo ending.Stop max delta old new bytes given rest done dead = IsStopped delta bytes given done dead new
CameTo ending.NoMemory max delta old new bytes given rest done dead = Begins bytes done

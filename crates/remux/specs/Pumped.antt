-- What a run over the packets at hand does.
use Rattle.std.specs.Prelude.{◌≡◌, ℕ, Bool, true, false, List, Option, Some, None, Result, Ok, Err}
use Rattle.rmx_media.specs.declared.packet.Packet.{Packet}
use Rattle.flv_tags.specs.declared.tag.Tag.{Tag}
use Rattle.flv_tags.specs.declared.tag.TagFault.TheVariants as tag_fault
use Rattle.flv_tags.specs.Tags.{reading_of}
use Rattle.flv_demux.specs.declared.deal.Kinds.{Kinds}
use Rattle.interleaver.specs.Queues.{Pending}
use Rattle.remux.specs.declared.pump.Pumped.{Pumped}
use Rattle.remux.specs.declared.pump.Pumped.TheVariants as pumped
use Rattle.remux.specs.declared.pump.PumpFault.{PumpFault}
use Rattle.remux.specs.declared.pump.PumpFault.TheVariants as fault
use Rattle.remux.specs.Flow.{Flowing, Stopped, CutShort}

-- all tags of these bytes are dealt with, and all that may go was given
pub record AllGiven (s : Kinds) (b : List ℕ) (known : Option Kinds) (has : List ℕ → List Tag → Type 0) (v : Pending) (keeps : List Packet → Type 0) (dead : ℕ → Bool) (takes : Packet → Type 0) : Type 0 where
  pub flowing : Flowing s b known has v keeps dead takes
  pub all : flowing.tags ≡ (reading_of b).tags

abbrev pub Pumps : Result Pumped PumpFault → Kinds → List ℕ → ℕ → Bool → Option Kinds → (List ℕ → List Tag → Type 0) → Pending → (List Packet → Type 0) → (ℕ → Bool) → (Packet → Type 0) → Type 0
Pumps (Ok pumped.More) s b done ended known has v keeps dead takes = (ended ≡ false) × AllGiven s b known has v keeps dead takes
Pumps (Ok pumped.End) s b done ended known has v keeps dead takes = (ended ≡ true) × ((reading_of b).verdict ≡ None) × AllGiven s b known has v keeps dead takes
Pumps (Ok pumped.Stop) s b done ended known has v keeps dead takes = Stopped s b done v.streams v.delta has keeps dead
Pumps (Err (fault.Tag f)) s b done ended known has v keeps dead takes = (ended ≡ true) × (f ≡ tag_fault.CutTag) × ((reading_of b).verdict ≡ Some f) × AllGiven s b known has v keeps dead takes
Pumps (Err fault.NoMemory) s b done ended known has v keeps dead takes = CutShort s b v.streams v.delta has keeps dead

-- What a reading loop keeps.
use Rattle.std.specs.Prelude.{◌≡◌, ℕ, ◌+◌, Bool, List, ◌++◌, length, Option}
use Rattle.rmx_media.specs.declared.packet.Packet.{Packet}
use Rattle.flv_tags.specs.declared.tag.Tag.{Tag}
use Rattle.flv_demux.specs.declared.deal.Kinds.{Kinds}
use Rattle.interleaver.specs.Queues.{Pending}
use Rattle.rmx_edge.specs.Inputs.{InputState}
use Rattle.remux.specs.Flow.{Flowing}
use Rattle.remux.specs.Took.{Took}
use Rattle.remux.specs.Reading.{Late}

-- so many more bytes were taken behind b
pub record Under (s : Kinds) (b : List ℕ) (limit left : ℕ) (old new : InputState) (known : Option Kinds) (has : List ℕ → List Tag → Type 0) (v : Pending) (keeps : List Packet → Type 0) (dead : ℕ → Bool) (takes : Packet → Type 0) : Type 0 where
  pub more : List ℕ
  pub long : length more + left ≡ limit
  pub took : Took more old new
  pub flowing : Flowing s (b ++ more) known has v keeps dead takes
  pub late : Late (b ++ more) (length flowing.tags)

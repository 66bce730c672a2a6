-- A line between the packets of tags and what was given.
use Rattle.std.specs.Prelude.{◌≡◌, ℕ, ◌<◌, ◌≤◌, Bool, true, false, List, [], ◌∷◌, ◌++◌, length, Option, Some}
use Rattle.rmx_media.specs.declared.packet.Packet.{Packet}
use Rattle.flv_tags.specs.declared.tag.Tag.{Tag}
use Rattle.flv_tags.specs.Tags.{reading_of}
use Rattle.flv_demux.specs.declared.deal.Kinds.{Kinds}
use Rattle.flv_demux.specs.Probe.{stream_count}
use Rattle.flv_demux.specs.Deal.{packets_by, last_dts}
use Rattle.flv_tags.specs.Tags.{Begins}
use Rattle.interleaver.specs.Interleave.{IsLined, emitted, interleave}
use Rattle.interleaver.specs.Queues.{Pending, goes}
use Rattle.remux.specs.Fit.{Fit, Each}

-- these packets were pushed, and these went out
pub record Flow (packets given : List Packet) (v : Pending) : Type 0 where
  pub lined : IsLined v.streams v.delta packets given v.pending
  pub first : v.first_last ≡ last_dts 0 packets
  pub second : v.second_last ≡ last_dts 1 packets
  pub unfinished : v.finished ≡ false

-- of these bytes some tags are dealt with, and all that may go of their packets was given, to a tee that is alive
pub record Flowing (s : Kinds) (b : List ℕ) (known : Option Kinds) (has : List ℕ → List Tag → Type 0) (v : Pending) (keeps : List Packet → Type 0) (dead : ℕ → Bool) (takes : Packet → Type 0) : Type 0 where
  pub tags : List Tag
  pub given : List Packet
  pub streams : known ≡ Some s
  pub count : v.streams ≡ stream_count s
  pub some : 0 < stream_count s
  pub begin : Begins b tags
  pub dealt : has b tags
  pub kept : keeps given
  pub flow : Flow (packets_by s tags) given v
  pub stuck : goes v ≡ false
  pub alive : (u : ℕ) → 0 < u → u ≤ length given → dead u ≡ false
  pub pending : Each takes v.pending
  pub accepts : (p : Packet) → Fit s p → takes p

-- a stop, behind so many tags: the last of these packets made it dead, and they need the last of these tags
pub record Stopped (s : Kinds) (b : List ℕ) (done n delta : ℕ) (has : List ℕ → List Tag → Type 0) (keeps : List Packet → Type 0) (dead : ℕ → Bool) : Type 0 where
  pub before : List Tag
  pub later : done ≤ length before
  pub tag : Tag
  pub begin : Begins b (before ++ tag ∷ [])
  pub given : List Packet
  pub dealt : has b (before ++ tag ∷ [])
  pub kept : keeps given
  pub rest : List Packet
  pub enough : emitted n delta (packets_by s (before ++ tag ∷ [])) ≡ given ++ rest
  pub less : length (emitted n delta (packets_by s before)) < length given
  pub dies : dead (length given) ≡ true
  pub alive : (u : ℕ) → 0 < u → u < length given → dead u ≡ false

-- memory was wanted: what was given is a beginning of the whole order
pub record CutShort (s : Kinds) (b : List ℕ) (n delta : ℕ) (has : List ℕ → List Tag → Type 0) (keeps : List Packet → Type 0) (dead : ℕ → Bool) : Type 0 where
  pub tags : List Tag
  pub begin : Begins b tags
  pub fed : List ℕ
  pub dealt : has fed tags
  pub given : List Packet
  pub rest : List Packet
  pub kept : keeps given
  pub order : interleave n delta (packets_by s (reading_of b).tags) ≡ given ++ rest
  pub alive : (u : ℕ) → 0 < u → u ≤ length given → dead u ≡ false

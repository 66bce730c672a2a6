-- The dts of a stream's packets don't fall, and each packet is of a stream.
use Rattle.std.proofs.Common.{◌≡◌, ℕ, Bool, true, false, not, List, refl, Option, Some, None, arith}
use Rattle.std.specs.Prelude.{if◌then◌else◌, ℤ, ◌≤ℤ◌}
use Rattle.std.specs.Int.{int_max}
use Rattle.std.proofs.lemmas.Int.{ints}
use Rattle.rmx_media.specs.declared.packet.Packet.{Packet}
use Rattle.rmx_media.specs.declared.config.Config.{Config}
use Rattle.rmx_media.specs.Config.{kind_of}
use Rattle.flv_demux.specs.declared.deal.Kinds.{Kinds}
use Rattle.rmx_media.specs.declared.streams.Kind.{Kind}
use Rattle.flv_tags.specs.declared.tag.Tag.{Tag}
use Rattle.flv_demux.specs.declared.deal.Desk.{Desk}
use Rattle.flv_demux.specs.declared.deal.Meaning.{Meaning}
use Rattle.flv_demux.specs.declared.deal.Meaning.TheVariants.{Counted, Configures, Media}
use Rattle.flv_demux.specs.declared.deal.Outcome.{Outcome}
use Rattle.flv_demux.specs.declared.deal.Outcome.TheVariants as outcome
use Rattle.flv_demux.specs.Meaning.{meaning}
use Rattle.flv_demux.specs.Probe.{has, number_of_stream}
use Rattle.flv_demux.specs.Deal.{seen, outcome_of, outcome_by, media_outcome, is_valid, repeats}

-- a packet is of a stream that is there, and behind what was seen of it
pub record InOrder (s : Kinds) (d : Desk) (p : Packet) : Type 0 where
  pub kind : Kind
  pub there : has s kind ≡ true
  pub stream : p.stream ≡ number_of_stream s kind
  pub order : (seen d kind).top ≤ℤ p.dts

abbrev pub Ordered : Kinds → Desk → Outcome → Type 0
Ordered s d (outcome.Counted r) = Unit {0}
Ordered s d (outcome.Forces config) = Unit {0}
Ordered s d (outcome.Gives kind p) = (has s kind ≡ true) × (p.stream ≡ number_of_stream s kind) × ((seen d kind).top ≤ℤ p.dts)

max_high : (a b : ℤ) → a ≤ℤ int_max a b
max_high a b = grind (arith, ints)

by_valid : (s : Kinds) (d : Desk) (kind : Kind) (v : Bool) (p : Packet) → has s kind ≡ true → p.stream ≡ number_of_stream s kind → (seen d kind).top ≤ℤ p.dts → Ordered s d (if v then outcome.Gives kind p else outcome.Counted Rattle.flv_demux.specs.declared.deal.Reason.TheVariants.Corrupt)
by_valid s d kind true p t e o = (t, e, o)
by_valid s d kind false p t e o = tt

by_media : (s : Kinds) (d : Desk) (kind : Kind) (force : Option Config) (stamp : ℤ) (key : Bool) (composition : ℤ) (payload : List ℕ) → has s kind ≡ true →
    Ordered s d (media_outcome (number_of_stream s kind) kind force (seen d kind).version (int_max (seen d kind).top stamp) key composition payload)
by_media s d kind None stamp key composition payload t = tt
by_media s d kind (Some config) stamp key composition payload t =
    by_valid s d kind (is_valid config payload) _ t refl (max_high (seen d kind).top stamp)

by_has : (s : Kinds) (d : Desk) (kind : Kind) (v : Bool) (o : Outcome) → has s kind ≡ v → (has s kind ≡ true → Ordered s d o) → Ordered s d (if not v then outcome.Counted Rattle.flv_demux.specs.declared.deal.Reason.TheVariants.NoStream else o)
by_has s d kind true o e f = f e
by_has s d kind false o e f = tt

no_packet : (s : Kinds) (d : Desk) (config : Config) (v r : Bool) → Ordered s d (if not v then outcome.Counted Rattle.flv_demux.specs.declared.deal.Reason.TheVariants.NoStream else if r then outcome.Counted Rattle.flv_demux.specs.declared.deal.Reason.TheVariants.ConfigRepeat else outcome.Forces config)
no_packet s d config true true = tt
no_packet s d config true false = tt
no_packet s d config false r = tt

by_meaning : (s : Kinds) (d : Desk) (stamp : ℤ) (m : Meaning) → Ordered s d (outcome_by s d stamp m)
by_meaning s d stamp (Counted r) = tt
by_meaning s d stamp (Configures config) = no_packet s d config (has s (kind_of config)) (repeats (seen d (kind_of config)).force config)
by_meaning s d stamp (Media kind key composition payload) = by_has s d kind (has s kind) _ refl (λ t. by_media s d kind (seen d kind).force stamp key composition payload t)

-- the outcome of a tag is in order
pub ordered : (s : Kinds) (d : Desk) (tag : Tag) → Ordered s d (outcome_of s d tag)
ordered s d tag = by_meaning s d tag.stamp (meaning tag)

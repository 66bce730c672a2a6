-- The filter chains of an output, each with the streams that it is for.
use Rattle.std.specs.Prelude.{ℕ, ◌+◌, ◌==◌, ◌&&◌, ◌++◌, nat_le, Bool, true, false, List, [], ◌∷◌, length, Result, Ok, Err, if◌then◌else◌}
use Rattle.std.specs.List.{list_any, list_all}
use Rattle.bsf_chain.specs.declared.filter.Filter.{Filter}
use Rattle.bsf_chain.specs.declared.filter.BsfFault.{BsfFault}
use Rattle.bsf_chain.specs.Chain.{are_keepers}
use Rattle.bsf_chain.specs.Parse.{chain_of}
use Rattle.rmx_media.specs.declared.streams.Kind.{Kind}
use Rattle.rmx_media.specs.declared.streams.Kind.TheVariants as kind
use Rattle.options.specs.declared.fault.WordKind.{WordKind}
use Rattle.options.specs.declared.fault.WordKind.TheVariants.{BadFilter}
use Rattle.options.specs.declared.select.Spec.{Spec}
use Rattle.options.specs.declared.select.Spec.TheVariants.{All, Video, Audio, Index}

abbrev pub spec_number : Spec → ℕ
spec_number All = 0
spec_number Video = 1
spec_number Audio = 2
spec_number (Index number) = 3 + number

abbrev pub is_same : Spec → Spec → Bool
is_same a b = spec_number a == spec_number b

abbrev pub or_bad_filter : Result (List Filter) BsfFault → Result (List Filter) WordKind
or_bad_filter (Ok filters) = Ok filters
or_bad_filter (Err f) = Err BadFilter

-- the filters of a chain's text
unfoldable pub chain : List ℕ → Result (List Filter) WordKind
chain text = or_bad_filter (chain_of text)

abbrev pub has_chain : List (Spec × List Filter) → Spec → Bool
has_chain chains spec = list_any (λ c. is_same c.0 spec) chains

-- whether each of the chains keeps native packets native
unfoldable pub are_native : List (Spec × List Filter) → Bool
are_native chains = list_all (λ c. are_keepers c.1) chains

abbrev pub is_video : Kind → Bool
is_video kind.Video = true
is_video kind.Audio = false

abbrev pub is_audio : Kind → Bool
is_audio kind.Video = false
is_audio kind.Audio = true

-- whether a specifier selects the stream of that number and kind
abbrev pub selects : Spec → ℕ → Kind → Bool
selects All number kind = true
selects Video number kind = is_video kind
selects Audio number kind = is_audio kind
selects (Index n) number kind = n == number

-- the filters of the chains that select that stream, in the order of the options
abbrev pub filters_for : List (Spec × List Filter) → ℕ → Kind → List Filter
filters_for [] number kind = []
filters_for (c ∷ cs) number kind = if selects c.0 number kind then c.1 ++ filters_for cs number kind else filters_for cs number kind

-- whether the chains that select that stream have at most sixteen filters together
abbrev pub fit_together : List (Spec × List Filter) → ℕ → Kind → Bool
fit_together chains number kind = nat_le (length (filters_for chains number kind)) 16

unfoldable pub are_short : List (Spec × List Filter) → Bool
are_short chains =
    fit_together chains 0 kind.Video && fit_together chains 1 kind.Video
    && fit_together chains 0 kind.Audio && fit_together chains 1 kind.Audio

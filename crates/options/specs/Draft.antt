-- What the options of an output have set so far, and what one option more sets.
use Rattle.std.specs.Prelude.{ℕ, List, [], ◌∷◌, ◌++◌, Bool, Option, Some, None, is_some, Result, Ok, Err, if◌then◌else◌}
use Rattle.std.specs.Option.{ok_or, option_map}
use Rattle.rmx_media.specs.declared.packet.Format.{Format}
use Rattle.options.specs.declared.fault.WordKind.{WordKind}
use Rattle.options.specs.declared.fault.WordKind.TheVariants.{UnknownFormat, UnknownOption, BadValue}
use Rattle.options.specs.declared.key.Key.{Key}
use Rattle.options.specs.declared.key.Key.TheVariants as key
use Rattle.bsf_chain.specs.declared.filter.Filter.{Filter}
use Rattle.options.specs.declared.select.Spec.{Spec}
use Rattle.options.specs.declared.select.Spec.TheVariants.{All, Video, Audio, Index}
use Rattle.options.specs.Filters.{chain, has_chain}
use Rattle.options.specs.declared.fifo.FifoDraft.{FifoDraft}
use Rattle.options.specs.declared.segment.SegDraft.{SegDraft}
use Rattle.options.specs.declared.draft.Draft.{Draft}
use Rattle.options.specs.Read.{◌>>=◌, or_bad}
use Rattle.options.specs.Keyword.{flag, format_named, on_fail_named}
use Rattle.options.specs.Select.{specs}
use Rattle.options.specs.Fifos.{fifo_options}
use Rattle.options.specs.Segment.{no_segments, with_inner, with_time, with_list, with_list_kind, with_start, with_reset, with_any_packet}
use Rattle.options.specs.Key.{key_named}

-- a draft without where its parts lie in memory
pub record Kept : Type 0 where
  pub format : Option Format
  pub select : Option (List Spec)
  pub abort : Option Bool
  pub use_fifo : Option Bool
  pub fifo : Option FifoDraft
  pub segment : SegDraft
  pub chains : List (Spec × List Filter)

abbrev pub view : Draft → Kept
view d = record {
  format = d.format;
  select = option_map (λ specs. specs.items) d.select;
  abort = d.abort;
  use_fifo = d.use_fifo;
  fifo = d.fifo;
  segment = d.segment;
  chains = d.chains.items;
}

abbrev pub no_options : Kept
no_options = record { format = None; select = None; abort = None; use_fifo = None; fifo = None; segment = no_segments; chains = [] }

abbrev pub is_set : Key → Kept → Bool
is_set key.Format d = is_some d.format
is_set key.Select d = is_some d.select
is_set key.OnFail d = is_some d.abort
is_set key.UseFifo d = is_some d.use_fifo
is_set key.FifoOptions d = is_some d.fifo
is_set key.Filters d = has_chain d.chains All
is_set key.VideoFilters d = has_chain d.chains Video
is_set key.AudioFilters d = has_chain d.chains Audio
is_set key.FirstFilters d = has_chain d.chains (Index 0)
is_set key.SecondFilters d = has_chain d.chains (Index 1)
is_set key.SegmentFormat d = is_some d.segment.inner
is_set key.SegmentTime d = is_some d.segment.time_us
is_set key.SegmentList d = is_some d.segment.list
is_set key.SegmentListType d = is_some d.segment.list_kind
is_set key.SegmentStart d = is_some d.segment.start
is_set key.ResetTimestamps d = is_some d.segment.reset
is_set key.BreakNonKeyframes d = is_some d.segment.any_packet

abbrev pub with_format : List ℕ → Kept → Result Kept WordKind
with_format value d = ok_or (format_named value) UnknownFormat >>= λ v. Ok (record d { format = Some v })

abbrev pub with_select : List ℕ → Kept → Result Kept WordKind
with_select value d = specs value >>= λ v. Ok (record d { select = Some v })

abbrev pub with_on_fail : List ℕ → Kept → Result Kept WordKind
with_on_fail value d = or_bad (on_fail_named value) >>= λ v. Ok (record d { abort = Some v })

abbrev pub with_use_fifo : List ℕ → Kept → Result Kept WordKind
with_use_fifo value d = or_bad (flag value) >>= λ v. Ok (record d { use_fifo = Some v })

abbrev pub with_fifo_options : List ℕ → Kept → Result Kept WordKind
with_fifo_options value d = fifo_options value >>= λ v. Ok (record d { fifo = Some v })

-- the chain for these streams stands behind those that came before
abbrev pub with_chain : Spec → List ℕ → Kept → Result Kept WordKind
with_chain spec value d = chain value >>= λ filters. Ok (record d { chains = d.chains ++ (spec, filters) ∷ [] })

-- what the value of an option of segments sets; the other options set nothing of segments
abbrev pub segment_with : Key → List ℕ → SegDraft → Result SegDraft WordKind
segment_with key.SegmentFormat value d = with_inner value d
segment_with key.SegmentTime value d = with_time value d
segment_with key.SegmentList value d = with_list value d
segment_with key.SegmentListType value d = with_list_kind value d
segment_with key.SegmentStart value d = with_start value d
segment_with key.ResetTimestamps value d = with_reset value d
segment_with key.BreakNonKeyframes value d = with_any_packet value d
segment_with key.Format value d = Ok d
segment_with key.Select value d = Ok d
segment_with key.OnFail value d = Ok d
segment_with key.UseFifo value d = Ok d
segment_with key.FifoOptions value d = Ok d
segment_with key.Filters value d = Ok d
segment_with key.VideoFilters value d = Ok d
segment_with key.AudioFilters value d = Ok d
segment_with key.FirstFilters value d = Ok d
segment_with key.SecondFilters value d = Ok d

abbrev pub with_segment : Key → List ℕ → Kept → Result Kept WordKind
with_segment key value d = segment_with key value d.segment >>= λ s. Ok (record d { segment = s })

-- what the value of an option sets
unfoldable pub with_value : Key → List ℕ → Kept → Result Kept WordKind
with_value key.Format value d = with_format value d
with_value key.Select value d = with_select value d
with_value key.OnFail value d = with_on_fail value d
with_value key.UseFifo value d = with_use_fifo value d
with_value key.FifoOptions value d = with_fifo_options value d
with_value key.Filters value d = with_chain All value d
with_value key.VideoFilters value d = with_chain Video value d
with_value key.AudioFilters value d = with_chain Audio value d
with_value key.FirstFilters value d = with_chain (Index 0) value d
with_value key.SecondFilters value d = with_chain (Index 1) value d
with_value key.SegmentFormat value d = with_segment key.SegmentFormat value d
with_value key.SegmentTime value d = with_segment key.SegmentTime value d
with_value key.SegmentList value d = with_segment key.SegmentList value d
with_value key.SegmentListType value d = with_segment key.SegmentListType value d
with_value key.SegmentStart value d = with_segment key.SegmentStart value d
with_value key.ResetTimestamps value d = with_segment key.ResetTimestamps value d
with_value key.BreakNonKeyframes value d = with_segment key.BreakNonKeyframes value d

-- the key is judged first, then whether it came before, then the value
abbrev pub with_known : Option Key → List ℕ → Kept → Result Kept WordKind
with_known None value d = Err UnknownOption
with_known (Some k) value d = if is_set k d then Err BadValue else with_value k value d

unfoldable pub with_named : List ℕ → List ℕ → Kept → Result Kept WordKind
with_named name value d = with_known (key_named name) value d

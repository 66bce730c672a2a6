-- The names of the options.
use Rattle.std.specs.Prelude.{ℕ, List, [], ◌∷◌, Option, codes}
use Rattle.std.specs.List.{find}
use Rattle.std.specs.Str.{bytes_eq}
use Rattle.options.specs.declared.key.Key.{Key}
use Rattle.options.specs.declared.key.Key.TheVariants.{Format, Select, OnFail, UseFifo, FifoOptions, Filters, VideoFilters, AudioFilters, FirstFilters, SecondFilters, SegmentFormat, SegmentTime, SegmentList, SegmentListType, SegmentStart, ResetTimestamps, BreakNonKeyframes}

abbrev pub name_of : Key → List ℕ
name_of Format = codes "f"
name_of Select = codes "select"
name_of OnFail = codes "onfail"
name_of UseFifo = codes "use_fifo"
name_of FifoOptions = codes "fifo_options"
name_of Filters = codes "bsfs"
name_of VideoFilters = codes "bsfs/v"
name_of AudioFilters = codes "bsfs/a"
name_of FirstFilters = codes "bsfs/0"
name_of SecondFilters = codes "bsfs/1"
name_of SegmentFormat = codes "segment_format"
name_of SegmentTime = codes "segment_time"
name_of SegmentList = codes "segment_list"
name_of SegmentListType = codes "segment_list_type"
name_of SegmentStart = codes "segment_start_number"
name_of ResetTimestamps = codes "reset_timestamps"
name_of BreakNonKeyframes = codes "break_non_keyframes"

abbrev pub all_keys : List Key
all_keys =
    Format ∷ Select ∷ OnFail ∷ UseFifo ∷ FifoOptions ∷ Filters ∷ VideoFilters ∷ AudioFilters ∷ FirstFilters ∷ SecondFilters ∷ SegmentFormat ∷ SegmentTime ∷ SegmentList ∷ SegmentListType
    ∷ SegmentStart ∷ ResetTimestamps ∷ BreakNonKeyframes ∷ []

-- the option of that name
unfoldable pub key_named : List ℕ → Option Key
key_named text = find (λ key. bytes_eq text (name_of key)) all_keys

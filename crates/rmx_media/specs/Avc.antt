-- The configuration of an AVC stream (AVCDecoderConfigurationRecord of ISO/IEC 14496-15, 5.2.4.1), as far as it is read.
use Rattle.std.specs.Prelude.{ℕ, zero, suc, ◌+◌, ◌%◌, ◌==◌, Bool, true, false, not, nat_lt, if◌then◌else◌, List, [], ◌∷◌, ◌++◌, length, take, drop, filter, Option, None, Some, Result, Ok, Err, slice_index}
use Rattle.rmx_media.specs.declared.config.ConfigFault.{ConfigFault}
use Rattle.rmx_media.specs.declared.config.ConfigFault.TheVariants.{Short, Version}
use Rattle.rmx_media.specs.declared.avc.AvcConfig.{AvcConfig}
use Rattle.rmx_media.specs.Bits.{number_of}
use Rattle.rmx_media.specs.Units.{is_filled}

-- parameter sets that were read, and what follows them
pub record Run : Type 0 where
  pub sets : List (List ℕ)
  pub rest : List ℕ

abbrev pub with_set : List ℕ → Option Run → Option Run
with_set set None = None
with_set set (Some run) = Some (record { sets = set ∷ run.sets; rest = run.rest })

-- so many sets, each behind its length in two bytes; nothing where the bytes end before
abbrev pub run_of : ℕ → List ℕ → Option Run
run_of zero bytes = Some (record { sets = []; rest = bytes })
run_of (suc count) bytes =
    if nat_lt (length bytes) (2 + number_of (take 2 bytes)) then None
    else with_set (take (number_of (take 2 bytes)) (drop 2 bytes)) (run_of count (drop (2 + number_of (take 2 bytes)) bytes))

abbrev pub with_sets : List (List ℕ) → Option Run → Option (List (List ℕ))
with_sets sets None = None
with_sets sets (Some run) = Some (sets ++ run.sets)

-- behind the sequence parameter sets a byte counts the picture parameter sets, which follow it
abbrev pub sets_after : Option Run → Option (List (List ℕ))
sets_after None = None
sets_after (Some run) = if nat_lt (length run.rest) 1 then None else with_sets run.sets (run_of (slice_index run.rest 0) (drop 1 run.rest))

-- the sequence parameter sets and then the picture parameter sets
unfoldable pub sets_in : List ℕ → Option (List (List ℕ))
sets_in raw = if nat_lt (length raw) 6 then None else sets_after (run_of (slice_index raw 5 % 32) (drop 6 raw))

abbrev pub read_as : List ℕ → Option (List (List ℕ)) → Result AvcConfig ConfigFault
read_as raw None = Err Short
read_as raw (Some sets) = Ok (record { raw = raw; length_size = slice_index raw 4 % 4 + 1 })

-- the configuration, or the first fault
unfoldable pub avc_config : List ℕ → Result AvcConfig ConfigFault
avc_config raw =
    if nat_lt (length raw) 1 then Err Short
    else if not (slice_index raw 0 == 1) then Err Version
    else read_as raw (sets_in raw)

abbrev pub some_sets : Option (List (List ℕ)) → List (List ℕ)
some_sets None = []
some_sets (Some sets) = sets

-- all parameter sets of a configuration, in order
unfoldable pub all_sets : AvcConfig → List (List ℕ)
all_sets config = some_sets (sets_in config.raw)

-- those that are not empty
abbrev pub sets_of : AvcConfig → List (List ℕ)
sets_of config = filter is_filled (all_sets config)

abbrev pub rest_alone : Option Run → Option (List ℕ)
rest_alone None = None
rest_alone (Some run) = Some run.rest

abbrev pub sets_alone : Option Run → Option (List (List ℕ))
sets_alone None = None
sets_alone (Some run) = Some run.sets

abbrev pub left_by : Bool → Option Run → Option (List (List ℕ))
left_by false run = sets_after run
left_by true run = sets_alone run

-- so many sets at the front of the bytes, and the picture parameter sets behind them, unless these are the picture parameter sets
abbrev pub sets_left : Bool → ℕ → List ℕ → Option (List (List ℕ))
sets_left last count bytes = left_by last (run_of count bytes)

-- The options of segments.
use Rattle.std.specs.Prelude.{ℕ, ◌||◌, List, Bool, false, Some, None, is_some, unwrap_or, Result, Ok, nat_eq, if◌then◌else◌, codes}
use Rattle.std.specs.List.{ends_with}
use Rattle.std.specs.Option.{ok_or, option_map_or}
use Rattle.rmx_media.specs.declared.packet.Format.TheVariants.{Mpegts}
use Rattle.playlist.specs.declared.list.ListKind.{ListKind}
use Rattle.playlist.specs.declared.list.ListKind.TheVariants.{Flat, Csv, M3u8}
use Rattle.playlist.specs.declared.seg_options.SegOptions.{SegOptions}
use Rattle.options.specs.declared.fault.WordKind.{WordKind}
use Rattle.options.specs.declared.fault.WordKind.TheVariants.{UnknownFormat}
use Rattle.options.specs.declared.segment.SegDraft.{SegDraft}
use Rattle.options.specs.Read.{◌>>=◌, or_bad}
use Rattle.options.specs.Number.{number}
use Rattle.options.specs.Time.{time}
use Rattle.options.specs.Keyword.{flag, inner_named, list_kind_named}
use Rattle.options.specs.Name.{checked_name}

abbrev pub no_segments : SegDraft
no_segments = record { inner = None; time_us = None; list = None; list_kind = None; start = None; reset = None; any_packet = None }

abbrev pub has_any : SegDraft → Bool
has_any d = is_some d.inner || is_some d.time_us || is_some d.list || is_some d.list_kind || is_some d.start || is_some d.reset || is_some d.any_packet

abbrev pub with_inner : List ℕ → SegDraft → Result SegDraft WordKind
with_inner value d = ok_or (inner_named value) UnknownFormat >>= λ v. Ok (record d { inner = Some v })

abbrev pub with_time : List ℕ → SegDraft → Result SegDraft WordKind
with_time value d = or_bad (time value) >>= λ v. Ok (record d { time_us = Some v })

abbrev pub with_list : List ℕ → SegDraft → Result SegDraft WordKind
with_list value d = checked_name value >>= λ v. Ok (record d { list = Some v })

abbrev pub with_list_kind : List ℕ → SegDraft → Result SegDraft WordKind
with_list_kind value d = or_bad (list_kind_named value) >>= λ v. Ok (record d { list_kind = Some v })

abbrev pub with_start : List ℕ → SegDraft → Result SegDraft WordKind
with_start value d = or_bad (number 0 4294967295 value) >>= λ v. Ok (record d { start = Some v })

abbrev pub with_reset : List ℕ → SegDraft → Result SegDraft WordKind
with_reset value d = or_bad (flag value) >>= λ v. Ok (record d { reset = Some v })

abbrev pub with_any_packet : List ℕ → SegDraft → Result SegDraft WordKind
with_any_packet value d = or_bad (flag value) >>= λ v. Ok (record d { any_packet = Some v })

-- the kind of list that its name asks for, where none is said
unfoldable pub list_kind_for : List ℕ → ListKind
list_kind_for name =
    if ends_with nat_eq name (codes ".m3u8") then M3u8
    else if ends_with nat_eq name (codes ".csv") then Csv
    else Flat

-- the options, with their defaults where they aren't set
abbrev pub seg_options : SegDraft → SegOptions
seg_options d = record {
  inner = unwrap_or d.inner Mpegts;
  time_us = unwrap_or d.time_us 2000000;
  list = d.list;
  list_kind = unwrap_or d.list_kind (option_map_or list_kind_for d.list Flat);
  start = unwrap_or d.start 0;
  reset = unwrap_or d.reset false;
  any_packet = unwrap_or d.any_packet false;
}

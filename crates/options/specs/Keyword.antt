-- Values out of a list of words.
use Rattle.std.specs.Prelude.{ℕ, List, Bool, true, false, Option, Some, None, ◌||◌, if◌then◌else◌, codes}
use Rattle.std.specs.Str.{bytes_eq}
use Rattle.rmx_media.specs.declared.packet.Format.{Format}
use Rattle.rmx_media.specs.declared.packet.Format.TheVariants.{Flv, Adts, Mpegts, Segment}
use Rattle.playlist.specs.declared.list.ListKind.{ListKind}
use Rattle.playlist.specs.declared.list.ListKind.TheVariants.{Flat, Csv, M3u8}

abbrev pub flag : List ℕ → Option Bool
flag text =
    if bytes_eq text (codes "1") || bytes_eq text (codes "true") then Some true
    else if bytes_eq text (codes "0") || bytes_eq text (codes "false") then Some false
    else None

-- the formats that a segment may have
abbrev pub inner_named : List ℕ → Option Format
inner_named text =
    if bytes_eq text (codes "flv") then Some Flv
    else if bytes_eq text (codes "adts") then Some Adts
    else if bytes_eq text (codes "mpegts") then Some Mpegts
    else None

abbrev pub format_named : List ℕ → Option Format
format_named text = if bytes_eq text (codes "segment") then Some Segment else inner_named text

-- whether the run ends where the output fails
abbrev pub on_fail_named : List ℕ → Option Bool
on_fail_named text =
    if bytes_eq text (codes "abort") then Some true
    else if bytes_eq text (codes "ignore") then Some false
    else None

abbrev pub list_kind_named : List ℕ → Option ListKind
list_kind_named text =
    if bytes_eq text (codes "flat") then Some Flat
    else if bytes_eq text (codes "csv") then Some Csv
    else if bytes_eq text (codes "m3u8") then Some M3u8
    else None

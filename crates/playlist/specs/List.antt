-- Lists of segments.
use Rattle.std.specs.Prelude.{ℕ, ◌+◌, ◌/◌, ◌^◌, max, ℤ, pos, negsuc, neg_ℤ, ◌*ℤ◌, ◌-ℤ◌, ◌≤ℤ◌, ◌==◌, ◌||◌, Bool, List, [], ◌∷◌, ◌++◌, map, flat_map, fold, decimal, codes, if◌then◌else◌}
use Rattle.std.specs.List.{list_any}
use Rattle.rmx_media.specs.Time.{seconds_text}
use Rattle.rmx_edge.specs.Shelf.{ShelfCall, Create, Write, Close}
use Rattle.playlist.specs.declared.list.ListKind.{ListKind}
use Rattle.playlist.specs.declared.list.ListKind.TheVariants.{Flat, Csv, M3u8}
use Rattle.playlist.specs.declared.list.ListEntry.{ListEntry}
use Rattle.playlist.specs.Template.{TemplateParts, name_of}

-- the times of an entry lie from -2^40 to 2^40 ms
pub record IsInRange (e : ListEntry) : Type 0 where
  pub start_above : neg_ℤ (pos (2 ^ 40)) ≤ℤ e.start_ms
  pub start_below : e.start_ms ≤ℤ pos (2 ^ 40)
  pub end_above : neg_ℤ (pos (2 ^ 40)) ≤ℤ e.end_ms
  pub end_below : e.end_ms ≤ℤ pos (2 ^ 40)

-- ms as seconds with six decimals
abbrev pub time_text : ℤ → List ℕ
time_text ms = seconds_text (ms *ℤ pos 1000)

-- the number, or 0 for one below it
abbrev pub at_least_0 : ℤ → ℕ
at_least_0 (pos n) = n
at_least_0 (negsuc n) = 0

-- how many ms a segment lasts: at least 0
abbrev pub duration : ListEntry → ℕ
duration e = at_least_0 (e.end_ms -ℤ e.start_ms)

abbrev pub name_in : TemplateParts → ListEntry → List ℕ
name_in t e = name_of t e.number

-- a line feed behind the text
abbrev pub line : List ℕ → List ℕ
line text = text ++ 10 ∷ []

-- a comma, a quote and the ends of lines
abbrev pub asks_quotes : ℕ → Bool
asks_quotes c = (c == 44) || (c == 34) || (c == 13) || (c == 10)

abbrev pub doubled : ℕ → List ℕ
doubled c = if c == 34 then 34 ∷ 34 ∷ [] else c ∷ []

-- a field of a CSV file (RFC 4180, section 2)
abbrev pub csv_field : List ℕ → List ℕ
csv_field text = if list_any asks_quotes text then 34 ∷ (flat_map doubled text ++ 34 ∷ []) else text

abbrev pub csv_line : TemplateParts → ListEntry → List ℕ
csv_line t e = line (csv_field (name_in t e) ++ 44 ∷ (time_text e.start_ms ++ 44 ∷ time_text e.end_ms))

-- the lines of a segment
abbrev pub entry_lines : ListKind → TemplateParts → ListEntry → List (List ℕ)
entry_lines Flat t e = line (name_in t e) ∷ []
entry_lines Csv t e = csv_line t e ∷ []
entry_lines M3u8 t e = line (codes "#EXTINF:" ++ (time_text (pos (duration e)) ++ 44 ∷ [])) ∷ line (name_in t e) ∷ []

abbrev pub first_number : List ListEntry → ℕ
first_number [] = 0
first_number (e ∷ es) = e.number

-- a segment's seconds, rounded up
abbrev pub seconds_up : ListEntry → ℕ
seconds_up e = (duration e + 999) / 1000

-- the greatest duration in seconds, rounded up, and at least 1 (RFC 8216, section 4.3.3.1)
abbrev pub target_duration : List ListEntry → ℕ
target_duration entries = fold (λ target e. max target (seconds_up e)) 1 entries

-- the head of a media playlist (RFC 8216, sections 4.3.1 and 4.3.3)
abbrev pub playlist_heads : ℕ → ℕ → List (List ℕ)
playlist_heads first target =
    line (codes "#EXTM3U")
    ∷ line (codes "#EXT-X-VERSION:3")
    ∷ line (codes "#EXT-X-MEDIA-SEQUENCE:" ++ decimal first)
    ∷ line (codes "#EXT-X-TARGETDURATION:" ++ decimal target)
    ∷ []

abbrev pub head_lines : ListKind → List ListEntry → List (List ℕ)
head_lines Flat entries = []
head_lines Csv entries = []
head_lines M3u8 entries = playlist_heads (first_number entries) (target_duration entries)

abbrev pub tail_lines : ListKind → List (List ℕ)
tail_lines Flat = []
tail_lines Csv = []
tail_lines M3u8 = line (codes "#EXT-X-ENDLIST") ∷ []

-- the lines of the list
abbrev pub list_text : ListKind → TemplateParts → List ListEntry → List (List ℕ)
list_text kind t entries = head_lines kind entries ++ (flat_map (entry_lines kind t) entries ++ tail_lines kind)

-- the calls at its beginning, of a segment, and at its end
abbrev pub head_calls : ListKind → List ℕ → List ListEntry → List ShelfCall
head_calls kind name entries = Create name ∷ map Write (head_lines kind entries)

abbrev pub entry_calls : ListKind → TemplateParts → ListEntry → List ShelfCall
entry_calls kind t e = map Write (entry_lines kind t e)

abbrev pub tail_calls : ListKind → List ShelfCall
tail_calls kind = map Write (tail_lines kind) ++ Close ∷ []

-- the calls that write the list: each line is one write
unfoldable pub list_calls : ListKind → List ℕ → TemplateParts → List ListEntry → List ShelfCall
list_calls kind name t entries = Create name ∷ (map Write (list_text kind t entries) ++ Close ∷ [])

-- Outputs of segments: the format of their files, and how these are numbered.
use Rattle.std.specs.Prelude.{ℕ, Bool, false, is_some, List, Option, Some, None}
use Rattle.playlist.specs.Template.{TemplateParts}
use Rattle.playlist.specs.declared.seg_options.SegOptions.{SegOptions}
use Rattle.rmx_edge.specs.Count.{raised}
use Rattle.rmx_edge.specs.Shelf.{ShelfCall}
use Rattle.rmx_media.specs.declared.packet.Format.{Format}
use Rattle.rmx_media.specs.declared.packet.Format.TheVariants.{Flv, Adts, Mpegts, Segment}
use Rattle.rmx_media.specs.declared.streams.MuxStreams.{MuxStreams}
use Rattle.segmenter.specs.Numbers.{creates}
use Rattle.segmenter.specs.Session.{Session}

-- the format of the files that an output writes: that of each segment, where there are segments
abbrev pub file_format : Format → Option SegOptions → Format
file_format Flv seg = Flv
file_format Adts seg = Adts
file_format Mpegts seg = Mpegts
file_format Segment None = Segment
file_format Segment (Some options) = options.inner

-- the number of an output's first segment
abbrev pub start_of : Option SegOptions → ℕ
start_of None = 0
start_of (Some options) = options.start

-- whether a list of a session's segments is asked for
abbrev pub asks_list : Option SegOptions → Bool
asks_list None = false
asks_list (Some options) = is_some options.list

-- The number of the next segment behind these calls. Each create takes one, also one that is refused. Files that are no segments
-- take none.
abbrev pub number_after : Option SegOptions → ℕ → List ShelfCall → ℕ
number_after None number calls = number
number_after (Some options) number calls = raised number (creates calls)

-- the session of segments of which the first has that number
abbrev pub session_by : Option SegOptions → Option TemplateParts → MuxStreams → ℕ → Option Session
session_by None template streams first = None
session_by (Some options) None streams first = None
session_by (Some options) (Some parts) streams first = Some (record { plan = record { options = options; streams = streams }; template = parts; first = first })

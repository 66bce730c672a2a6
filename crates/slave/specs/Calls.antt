-- The shelf calls of a session, by the format of its output.
use Rattle.std.specs.Prelude.{◌≡◌, ℕ, IsSome, List, [], Option, Some, None, Result, Ok, Err, ◌⊎◌}
use Rattle.playlist.specs.Template.{template}
use Rattle.playlist.specs.declared.seg_options.SegOptions.{SegOptions}
use Rattle.rmx_edge.specs.declared.shelf.ShelfFault.{ShelfFault}
use Rattle.rmx_edge.specs.Shelf.{ShelfCall, ShelfState}
use Rattle.rmx_edge.specs.FileCalls.{calls_over}
use Rattle.rmx_edge.specs.Run.{Stopped, Runs}
use Rattle.rmx_media.specs.declared.packet.Format.{Format}
use Rattle.rmx_media.specs.declared.packet.Format.TheVariants as format
use Rattle.rmx_media.specs.declared.packet.Packet.{Packet}
use Rattle.rmx_media.specs.declared.streams.MuxStreams.{MuxStreams}
use Rattle.aac_adts.specs.Adts.{begin_calls as adts_begin_calls, put_calls as adts_put_calls, end_calls as adts_end_calls}
use Rattle.aac_adts.specs.AdtsMux.{streams_of as adts_streams_of}
use Rattle.flv_mux.specs.Flv.{begin_calls as flv_begin_calls, put_calls as flv_put_calls, end_calls as flv_end_calls}
use Rattle.flv_mux.specs.FlvMux.{Shows as FlvShows, streams_of as flv_streams_of}
use Rattle.ts_mux.specs.File.{begin_calls as ts_begin_calls, put_calls as ts_put_calls, end_calls as ts_end_calls}
use Rattle.ts_mux.specs.TsMux.{Shows as TsShows, streams_of as ts_streams_of}
use Rattle.segmenter.specs.Calls.{begin_calls as seg_begin_calls, put_calls as seg_put_calls, end_calls as seg_end_calls}
use Rattle.segmenter.specs.FileMux.{IsFile}
use Rattle.segmenter.specs.Numbers.{called, Wants}
use Rattle.segmenter.specs.SegMux.{IsSegMuxOf, Shows as SegShows, next_of as seg_next_of}
use Rattle.segmenter.specs.Session.{Session}
use Rattle.slave.specs.declared.mux.Mux.{Mux}
use Rattle.slave.specs.declared.mux.Mux.TheVariants.{Adts, Flv, Mpegts, Segment}
use Rattle.slave.specs.Origin.{Origin, session_name}
use Rattle.slave.specs.Segments.{asks_list, number_after, session_by}

-- the files of segments are of a format that is one file
abbrev pub HasFiles : Option SegOptions → Type 0
HasFiles None = ⊥
HasFiles (Some options) = IsFile options.inner

-- there is a muxer of that format and name; segments have their options, and their name is a template
abbrev pub IsBuilt : Format → Option SegOptions → List ℕ → Type 0
IsBuilt format.Adts seg name = seg ≡ None
IsBuilt format.Flv seg name = seg ≡ None
IsBuilt format.Mpegts seg name = seg ≡ None
IsBuilt format.Segment seg name = HasFiles seg × IsSome (template name)

abbrev pub segments_begin : Option Session → List ShelfCall
segments_begin None = []
segments_begin (Some session) = seg_begin_calls session

abbrev pub segments_put : Option Session → List Packet → Packet → List ShelfCall
segments_put None before p = []
segments_put (Some session) before p = seg_put_calls session before p

abbrev pub segments_end : Option Session → List Packet → List ShelfCall
segments_end None before = []
segments_end (Some session) before = seg_end_calls session before

-- the calls that begin a session: a file of this name, or its first segment
abbrev pub begin_of : Format → MuxStreams → Option Session → List ℕ → List ShelfCall
begin_of format.Adts streams session name = adts_begin_calls name
begin_of format.Flv streams session name = flv_begin_calls streams name
begin_of format.Mpegts streams session name = ts_begin_calls streams name
begin_of format.Segment streams session name = segments_begin session

-- the calls of a packet, behind those packets in the session
abbrev pub put_of : Format → MuxStreams → Option Session → List Packet → Packet → List ShelfCall
put_of format.Adts streams session before p = adts_put_calls p
put_of format.Flv streams session before p = flv_put_calls before p
put_of format.Mpegts streams session before p = ts_put_calls streams before p
put_of format.Segment streams session before p = segments_put session before p

-- the calls that end a session of these packets
abbrev pub end_of : Format → MuxStreams → Option Session → List Packet → List ShelfCall
end_of format.Adts streams session before = adts_end_calls
end_of format.Flv streams session before = flv_end_calls streams before
end_of format.Mpegts streams session before = ts_end_calls
end_of format.Segment streams session before = segments_end session before

-- the session of segments of an output of which the first has that number
abbrev pub session_of : Origin → ℕ → Option Session
session_of g first = session_by g.seg (template g.name) g.streams first

-- the calls that begin session s, whose first segment has that number, where it has segments
abbrev pub begin_calls : Origin → ℕ → ℕ → List ShelfCall
begin_calls g first s = begin_of g.format g.streams (session_of g first) (session_name g.name s)

abbrev pub put_calls : Origin → ℕ → List Packet → Packet → List ShelfCall
put_calls g first before p = put_of g.format g.streams (session_of g first) before p

abbrev pub end_calls : Origin → ℕ → List Packet → List ShelfCall
end_calls g first before = end_of g.format g.streams (session_of g first) before

-- the calls of a session's packets
abbrev pub puts : Origin → ℕ → List Packet → List ShelfCall
puts g first ps = calls_over (put_calls g first) [] ps

-- the muxer writes the format of this output, with its streams, and names its segments so
abbrev pub IsMuxOf : Origin → Mux → Type 0
IsMuxOf g (Adts mux) = (g.format ≡ format.Adts) × (adts_streams_of mux ≡ g.streams) × (g.seg ≡ None)
IsMuxOf g (Flv mux) = (g.format ≡ format.Flv) × (flv_streams_of mux ≡ g.streams) × (g.seg ≡ None)
IsMuxOf g (Mpegts mux) = (g.format ≡ format.Mpegts) × (ts_streams_of mux ≡ g.streams) × (g.seg ≡ None)
IsMuxOf g (Segment parts mux) =
    (g.format ≡ format.Segment) × (options : SegOptions) × (g.seg ≡ Some options) × (template g.name ≡ Some parts)
    × IsSegMuxOf (record { options = options; streams = g.streams }) mux

-- the number that its next segment gets
abbrev pub number_in : Mux → ℕ
number_in (Adts mux) = 0
number_in (Flv mux) = 0
number_in (Mpegts mux) = 0
number_in (Segment parts mux) = seg_next_of mux

-- the muxer is where these packets of the session that it writes left it
abbrev pub MuxAfter : Origin → ℕ → List Packet → Mux → Type 0
MuxAfter g first before (Adts mux) = Unit {0}
MuxAfter g first before (Flv mux) = FlvShows mux before
MuxAfter g first before (Mpegts mux) = TsShows mux before
MuxAfter g first before (Segment parts mux) =
    (options : SegOptions) → g.seg ≡ Some options → SegShows mux (record { plan = record { options = options; streams = g.streams }; template = parts; first = first }) before

-- each create that was called took a number
abbrev pub TakesNumbers : {T : Type 0} → Option SegOptions → List ShelfCall → Result T ShelfFault → ℕ → ℕ → ShelfState → ShelfState → Type 0
TakesNumbers seg calls (Ok x) number next old new = next ≡ number_after seg number calls
TakesNumbers seg calls (Err e) number next old new = (stop : Stopped calls 0 old new) × (next ≡ number_after seg number (called stop))

-- the calls were made up to the first that was refused, and took their numbers
pub record MuxRuns {T : Type 0} (seg : Option SegOptions) (calls : List ShelfCall) (r : Result T ShelfFault) (number next : ℕ) (old new : ShelfState) : Type 0 where
  pub run : Runs calls r old new
  pub numbers : TakesNumbers seg calls r number next old new

-- so it is, or memory for an entry of a list was wanted before any call
abbrev pub RunsOrWants : {T : Type 0} → Option SegOptions → List ShelfCall → Result T ShelfFault → ℕ → ℕ → ShelfState → ShelfState → Type 0
RunsOrWants seg calls r number next old new = MuxRuns seg calls r number next old new ⊎ Wants (asks_list seg) r number next old new

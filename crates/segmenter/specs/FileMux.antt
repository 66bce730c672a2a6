-- The shelf calls of one file, by its format, and what clauses see of a muxer for it.
use Rattle.std.specs.Prelude.{◌≡◌, ℕ, ◌⊎◌, List, []}
use Rattle.rmx_edge.specs.Shelf.{ShelfCall}
use Rattle.rmx_media.specs.declared.packet.Format.{Format}
use Rattle.rmx_media.specs.declared.packet.Format.TheVariants as format
use Rattle.rmx_media.specs.declared.packet.Packet.{Packet}
use Rattle.rmx_media.specs.declared.streams.MuxStreams.{MuxStreams}
use Rattle.aac_adts.specs.Adts.{begin_calls as adts_begin_calls, put_calls as adts_put_calls, end_calls as adts_end_calls}
use Rattle.aac_adts.specs.AdtsMux.{streams_of as adts_streams_of}
use Rattle.flv_mux.specs.Flv.{begin_calls as flv_begin_calls, put_calls as flv_put_calls, end_calls as flv_end_calls}
use Rattle.flv_mux.specs.FlvMux.{Shows as FlvShows, streams_of as flv_streams_of}
use Rattle.ts_mux.specs.File.{begin_calls as ts_begin_calls, put_calls as ts_put_calls, end_calls as ts_end_calls}
use Rattle.ts_mux.specs.TsMux.{Shows as TsShows, streams_of as ts_streams_of}
use Rattle.segmenter.specs.declared.file_mux.FileMux.{FileMux}
use Rattle.segmenter.specs.declared.file_mux.FileMux.TheVariants.{Adts, Flv, Mpegts}

-- the formats whose files are one take
abbrev pub IsFile : Format → Type 0
IsFile f = (f ≡ format.Adts) ⊎ ((f ≡ format.Flv) ⊎ (f ≡ format.Mpegts))

-- the calls that begin a file of this name
abbrev pub begin_of : Format → MuxStreams → List ℕ → List ShelfCall
begin_of format.Adts streams name = adts_begin_calls name
begin_of format.Flv streams name = flv_begin_calls streams name
begin_of format.Mpegts streams name = ts_begin_calls streams name
begin_of format.Segment streams name = []

-- the calls of a packet, behind those packets in the file
abbrev pub put_of : Format → MuxStreams → List Packet → Packet → List ShelfCall
put_of format.Adts streams before p = adts_put_calls p
put_of format.Flv streams before p = flv_put_calls before p
put_of format.Mpegts streams before p = ts_put_calls streams before p
put_of format.Segment streams before p = []

-- the calls that end a file of these packets
abbrev pub end_of : Format → MuxStreams → List Packet → List ShelfCall
end_of format.Adts streams before = adts_end_calls
end_of format.Flv streams before = flv_end_calls streams before
end_of format.Mpegts streams before = ts_end_calls
end_of format.Segment streams before = []

-- the muxer writes this format, with these streams
abbrev pub IsFileMuxOf : Format → MuxStreams → FileMux → Type 0
IsFileMuxOf f streams (Adts mux) = (f ≡ format.Adts) × (adts_streams_of mux ≡ streams)
IsFileMuxOf f streams (Flv mux) = (f ≡ format.Flv) × (flv_streams_of mux ≡ streams)
IsFileMuxOf f streams (Mpegts mux) = (f ≡ format.Mpegts) × (ts_streams_of mux ≡ streams)

-- the muxer is where these packets of the file that it writes left it
abbrev pub FileAfter : List Packet → FileMux → Type 0
FileAfter before (Adts mux) = Unit {0}
FileAfter before (Flv mux) = FlvShows mux before
FileAfter before (Mpegts mux) = TsShows mux before

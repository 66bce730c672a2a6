-- Which of a file's calls create it.
use Rattle.std.proofs.Common.{◌≡◌, ℕ, arith, Bool, true, false, if◌then◌else◌, List, [], ◌∷◌, refl, ◌∙◌}
use Rattle.std.specs.Prelude.{map, reverse}
use Rattle.rmx_edge.specs.Shelf.{ShelfCall, Create, Write, Close}
use Rattle.rmx_edge.specs.Pieces.{writes}
use Rattle.rmx_media.specs.declared.packet.Format.{Format}
use Rattle.rmx_media.specs.declared.packet.Format.TheVariants.{Flv, Adts, Mpegts, Segment}
use Rattle.rmx_media.specs.declared.packet.Packet.{Packet}
use Rattle.rmx_media.specs.declared.streams.MuxStream.{MuxStream}
use Rattle.rmx_media.specs.declared.streams.MuxStreams.{MuxStreams}
use Rattle.aac_adts.specs.Adts.{pieces_of}
use Rattle.flv_mux.specs.Flv.{head_pieces, packet_pieces, tail_pieces}
use Rattle.ts_mux.specs.File.{put_calls as ts_put_calls, table_calls, has_tables, tables_before, packet_cells, cells_before, pid_of}
use Rattle.segmenter.specs.FileMux.{begin_of, put_of, end_of, IsFileMuxOf}
use Rattle.segmenter.specs.declared.file_mux.FileMux.{FileMux}
use Rattle.segmenter.specs.declared.file_mux.FileMux.TheVariants as mux
use Rattle.segmenter.specs.Numbers.{creates}
use Rattle.segmenter.proofs.NumberLemmas.{creates-append, writes_create, map_creates}

tables_create : (shown : Bool) (ss : List MuxStream) (counter : ℕ) → creates (if shown then table_calls ss counter else []) ≡ 0
tables_create true ss counter = refl
tables_create false ss counter = refl

ts_put_creates : (streams : MuxStreams) (before : List Packet) (p : Packet) → creates (ts_put_calls streams before p) ≡ 0
unfolding ts_put_calls
ts_put_creates streams before p =
    let earlier : List Packet = reverse before in
    let ss = streams.streams.items in
    let counter : ℕ = Prim.Native.Nat.◌%◌ (tables_before ss earlier) 16 in
    let tables : List ShelfCall = if has_tables ss earlier p then table_calls ss counter else [] in
    let cells : List (List ℕ) = packet_cells ss (Prim.Native.Nat.◌%◌ (cells_before ss (pid_of ss p.stream) earlier) 16) p in
    creates-append tables (map Write cells)
    ∙ (let e : creates tables ≡ 0 = tables_create (has_tables ss earlier p) ss counter in omega (arith, e, map_creates cells))

-- those of a packet create nothing
pub put_creates : (f : Format) (streams : MuxStreams) (before : List Packet) (p : Packet) → creates (put_of f streams before p) ≡ 0
put_creates Flv streams before p = writes_create (packet_pieces before p)
put_creates Adts streams before p = writes_create (pieces_of p)
put_creates Mpegts streams before p = ts_put_creates streams before p
put_creates Segment streams before p = refl

-- nor those of the end
pub end_creates : (f : Format) (streams : MuxStreams) (before : List Packet) → creates (end_of f streams before) ≡ 0
end_creates Flv streams before = creates-append (writes (tail_pieces streams before)) (Close ∷ []) ∙ omega (arith, writes_create (tail_pieces streams before))
end_creates Adts streams before = refl
end_creates Mpegts streams before = refl
end_creates Segment streams before = refl

abbrev pub behind_create : Format → MuxStreams → List ShelfCall
behind_create Flv streams = writes (head_pieces streams)
behind_create Adts streams = []
behind_create Mpegts streams = table_calls streams.streams.items 0
behind_create Segment streams = []

pub behind_creates : (f : Format) (streams : MuxStreams) → creates (behind_create f streams) ≡ 0
behind_creates Flv streams = writes_create (head_pieces streams)
behind_creates Adts streams = refl
behind_creates Mpegts streams = refl
behind_creates Segment streams = refl

-- a file begins with its creation
pub begins : (f : Format) (streams : MuxStreams) (m : FileMux) (name : List ℕ) → IsFileMuxOf f streams m → begin_of f streams name ≡ Create name ∷ behind_create f streams
begins Flv streams m name h = refl
begins Adts streams m name h = refl
begins Mpegts streams m name h = refl
begins Segment streams (mux.Adts m) name h = let e : Segment ≡ Adts = h.0 in cc
begins Segment streams (mux.Flv m) name h = let e : Segment ≡ Flv = h.0 in cc
begins Segment streams (mux.Mpegts m) name h = let e : Segment ≡ Mpegts = h.0 in cc

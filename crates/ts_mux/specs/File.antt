-- The calls of a file. What a packet's calls are goes by the packets before it in the file, which are listed here the newest first.
use Rattle.std.specs.Prelude.{ℕ, ℤ, pos, ◌-ℤ◌, ◌+◌, ◌%◌, ◌==◌, ◌||◌, not, int_lt, if◌then◌else◌, Bool, false, List, [], ◌∷◌, ◌++◌, length, map, reverse, Option, Some, None}
use Rattle.rmx_media.specs.declared.config.Config.{Config}
use Rattle.rmx_media.specs.declared.config.Config.TheVariants.{Avc, Aac}
use Rattle.rmx_media.specs.declared.packet.Packet.{Packet}
use Rattle.rmx_media.specs.declared.streams.Kind.{Kind}
use Rattle.rmx_media.specs.declared.streams.Kind.TheVariants.{Video, Audio}
use Rattle.rmx_media.specs.declared.streams.MuxStream.{MuxStream}
use Rattle.rmx_media.specs.declared.streams.MuxStreams.{MuxStreams}
use Rattle.rmx_media.specs.Packet.{is_restart}
use Rattle.rmx_edge.specs.Shelf.{ShelfCall, Create, Write, Close}
use Rattle.rmx_edge.specs.FileCalls.{file_calls}
use Rattle.ts_psi.specs.declared.tables.TableStream.{TableStream}
use Rattle.ts_psi.specs.Tables.{pat_cell, pmt_cell}
use Rattle.ts_mux.specs.Cells.{cells_of, no_flags}
use Rattle.ts_mux.specs.Pes.{pes_of, clock_flags}

-- AVC, or AAC in ADTS frames
abbrev pub stream_type_of : Kind → ℕ
stream_type_of Video = 0x1B
stream_type_of Audio = 0x0F

-- the streams as the program's table tells them, from this PID on
abbrev pub table_streams : ℕ → List MuxStream → List TableStream
table_streams pid [] = []
table_streams pid (s ∷ ss) = record { stream_type = stream_type_of s.info.kind; pid = pid } ∷ table_streams (pid + 1) ss

-- both tables, with this counter
abbrev pub table_calls : List MuxStream → ℕ → List ShelfCall
table_calls streams counter = map Write (pat_cell counter ∷ pmt_cell (table_streams 0x100 streams) counter ∷ [])

-- whether the stream of that number is the first one, whose cells carry the clock
abbrev pub is_first : List MuxStream → ℕ → Bool
is_first [] number = false
is_first (s ∷ ss) number = number == s.stream

-- the PID of the stream of that number
abbrev pub pid_of : List MuxStream → ℕ → ℕ
pid_of streams number = if is_first streams number then 0x100 else 0x101

abbrev pub video_by : Kind → ℕ → Option ℕ
video_by Video number = Some number
video_by Audio number = None

-- the number of the video stream, which is the first one where there is video
abbrev pub video_of : List MuxStream → Option ℕ
video_of [] = None
video_of (s ∷ ss) = video_by s.info.kind s.stream

-- the flags of a packet's first cell: with the clock, where the stream is the one that carries it
abbrev pub flags_of : List MuxStream → Packet → List ℕ
flags_of streams p = if is_first streams p.stream then clock_flags (is_restart p (video_of streams)) p.dts else no_flags

-- how many bytes that cell carries
abbrev pub room_of : List MuxStream → Packet → ℕ
room_of streams p = if is_first streams p.stream then 176 else 184

-- the cells of a packet, of which the first has this counter
abbrev pub packet_cells : List MuxStream → ℕ → Packet → List (List ℕ)
packet_cells streams counter p =
    cells_of (pid_of streams p.stream) counter (flags_of streams p) (room_of streams p) (pes_of p)

-- how many cells of a PID the packets have
abbrev pub cells_before : List MuxStream → ℕ → List Packet → ℕ
cells_before streams pid [] = 0
cells_before streams pid (p ∷ earlier) =
    (if pid_of streams p.stream == pid then length (packet_cells streams 0 p) else 0) + cells_before streams pid earlier

-- the version of the last packet of a PID; 0 if there is none
abbrev pub version_before : List MuxStream → ℕ → List Packet → ℕ
version_before streams pid [] = 0
version_before streams pid (p ∷ earlier) = if pid_of streams p.stream == pid then p.version else version_before streams pid earlier

-- whether a packet's configuration is another than that of its stream's last packet
abbrev pub is_changed : List MuxStream → List Packet → Packet → Bool
is_changed streams earlier p = not (p.version == version_before streams (pid_of streams p.stream) earlier)

abbrev pub is_key_video : Config → Bool → Bool
is_key_video (Avc config) key = key
is_key_video (Aac config) key = false

-- whether tables come before a packet that is not the file's first, where they were last written at this dts
abbrev pub renews : ℤ → Bool → Packet → Bool
renews last changed p = is_key_video p.config p.key || not (int_lt (p.dts -ℤ last) (pos 100)) || changed

-- never before the first, for which those of the file's beginning stand
abbrev pub tables_due : Option ℤ → Bool → Packet → Bool
tables_due None changed p = false
tables_due (Some last) changed p = renews last changed p

abbrev pub last_after : Option ℤ → Bool → Packet → Option ℤ
last_after None changed p = Some p.dts
last_after (Some last) changed p = if renews last changed p then Some p.dts else Some last

-- the dts of the last packet that has tables before it or is the file's first
abbrev pub tables_at : List MuxStream → List Packet → Option ℤ
tables_at streams [] = None
tables_at streams (p ∷ earlier) = last_after (tables_at streams earlier) (is_changed streams earlier p) p

-- whether a packet has tables before it
abbrev pub has_tables : List MuxStream → List Packet → Packet → Bool
has_tables streams earlier p = tables_due (tables_at streams earlier) (is_changed streams earlier p) p

-- how often both tables were written, once at the file's beginning
abbrev pub tables_before : List MuxStream → List Packet → ℕ
tables_before streams [] = 1
tables_before streams (p ∷ earlier) = (if has_tables streams earlier p then 1 else 0) + tables_before streams earlier

abbrev pub calls_after : List MuxStream → List Packet → Packet → List ShelfCall
calls_after streams earlier p =
    (if has_tables streams earlier p then table_calls streams (tables_before streams earlier % 16) else [])
    ++ map Write (packet_cells streams (cells_before streams (pid_of streams p.stream) earlier % 16) p)

-- the calls that begin a file
abbrev pub begin_calls : MuxStreams → List ℕ → List ShelfCall
begin_calls streams name = Create name ∷ table_calls streams.streams.items 0

-- the calls of a packet behind those before it, which are in their order
unfoldable pub put_calls : MuxStreams → List Packet → Packet → List ShelfCall
put_calls streams before p = calls_after streams.streams.items (reverse before) p

-- the calls that end a file
abbrev pub end_calls : List ShelfCall
end_calls = Close ∷ []

-- the calls of a whole file of these packets
abbrev pub ts_calls : MuxStreams → List ℕ → List Packet → List ShelfCall
ts_calls streams name packets = file_calls (begin_calls streams name) (put_calls streams) (λ (all : List Packet). end_calls) packets

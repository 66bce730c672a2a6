-- What a muxer keeps of the packets before, and one step of it.
use Rattle.std.specs.Prelude.{ℕ, ℤ, ◌+◌, ◌%◌, ◌==◌, not, if◌then◌else◌, Bool, List, [], ◌++◌, length, map, Option}
use Rattle.rmx_media.specs.declared.packet.Packet.{Packet}
use Rattle.rmx_media.specs.declared.streams.MuxStream.{MuxStream}
use Rattle.ts_mux.specs.declared.track.Track.{Track}
use Rattle.rmx_edge.specs.Shelf.{ShelfCall, Write}
use Rattle.ts_mux.specs.File.{is_first, packet_cells, cells_before, version_before, tables_at, tables_before, tables_due, last_after, table_calls}

-- when tables were last written, how often they were, mod 16, and what there was of each PID
pub record Past : Type 0 where
  pub last : Option ℤ
  pub tables : ℕ
  pub first : Track
  pub second : Track

abbrev pub track_after : List MuxStream → ℕ → List Packet → Track
track_after streams pid earlier = record { cells = cells_before streams pid earlier % 16; version = version_before streams pid earlier }

-- after these packets, the newest first
abbrev pub past_after : List MuxStream → List Packet → Past
past_after streams earlier = record {
  last = tables_at streams earlier;
  tables = tables_before streams earlier % 16;
  first = track_after streams 0x100 earlier;
  second = track_after streams 0x101 earlier;
}

-- what there was of the PID of a stream
abbrev pub track_of : List MuxStream → ℕ → Past → Track
track_of streams number past = if is_first streams number then past.first else past.second

abbrev pub is_new : List MuxStream → Past → Packet → Bool
is_new streams past p = not (p.version == (track_of streams p.stream past).version)

abbrev pub track_with : List MuxStream → Packet → Track → Track
track_with streams p track = record { cells = (track.cells + length (packet_cells streams 0 p)) % 16; version = p.version }

-- after the tables that come before a packet
abbrev pub with_tables : List MuxStream → Packet → Past → Past
with_tables streams p past = record {
  last = last_after past.last (is_new streams past p) p;
  tables = if tables_due past.last (is_new streams past p) p then (past.tables + 1) % 16 else past.tables;
  first = past.first;
  second = past.second;
}

-- after a packet's cells
abbrev pub with_cells : List MuxStream → Packet → Past → Past
with_cells streams p past = record {
  last = past.last;
  tables = past.tables;
  first = if is_first streams p.stream then track_with streams p past.first else past.first;
  second = if is_first streams p.stream then past.second else track_with streams p past.second;
}

-- after one more packet
abbrev pub step : List MuxStream → Past → Packet → Past
step streams past p = with_cells streams p (with_tables streams p past)

abbrev pub tables_calls : List MuxStream → Past → Packet → List ShelfCall
tables_calls streams past p = if tables_due past.last (is_new streams past p) p then table_calls streams past.tables else []

abbrev pub cells_calls : List MuxStream → Past → Packet → List ShelfCall
cells_calls streams past p = map Write (packet_cells streams (track_of streams p.stream past).cells p)

-- the calls of a packet
abbrev pub calls_at : List MuxStream → Past → Packet → List ShelfCall
calls_at streams past p = tables_calls streams past p ++ cells_calls streams past p

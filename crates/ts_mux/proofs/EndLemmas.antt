-- A packet's calls end in a write.
use Rattle.std.proofs.Common.{ℕ, List, [], ◌∷◌, refl, true, ◌%◌, if◌then◌else◌, take, drop}
use Rattle.std.specs.Prelude.{map, reverse}
use Rattle.rmx_media.specs.declared.packet.Packet.{Packet}
use Rattle.rmx_media.specs.declared.streams.MuxStream.{MuxStream}
use Rattle.rmx_media.specs.declared.streams.MuxStreams.{MuxStreams}
use Rattle.rmx_edge.specs.Shelf.{ShelfCall, Write}
use Rattle.rmx_edge.specs.Pieces.{EndsInWrite}
use Rattle.rmx_edge.proofs.PieceLemmas.{ends-append}
use Rattle.ts_mux.specs.Cells.{cell, next, more_cells, cells_of}
use Rattle.ts_mux.specs.File.{put_calls, pid_of, flags_of, room_of, has_tables, table_calls, tables_before, cells_before}
use Rattle.ts_mux.specs.Pes.{pes_of}

ends_after : (call : ShelfCall) (calls : List ShelfCall) → EndsInWrite calls → EndsInWrite (call ∷ calls)
ends_after call calls h = ends-append (call ∷ []) calls h

writes_end : (piece : List ℕ) (pieces : List (List ℕ)) → EndsInWrite (map Write (piece ∷ pieces))
writes_end piece [] = record { front = []; piece = piece; split = refl }
writes_end piece (next_one ∷ pieces) = ends_after (Write piece) (map Write (next_one ∷ pieces)) (writes_end next_one pieces)

cells_end : (pid counter : ℕ) (flags : List ℕ) (room : ℕ) (pes : List ℕ) → EndsInWrite (map Write (cells_of pid counter flags room pes))
unfolding cells_of
cells_end pid counter flags room pes =
    writes_end (cell pid true counter flags (take room pes)) (more_cells pid (next counter) (drop room pes))

pub put_ends : (all : MuxStreams) (before : List Packet) (p : Packet) → EndsInWrite (put_calls all before p)
unfolding put_calls
put_ends all before p =
    let streams : List MuxStream = all.streams.items in
    let earlier : List Packet = reverse before in
    ends-append (if has_tables streams earlier p then table_calls streams (tables_before streams earlier % 16) else [])
    _ (cells_end (pid_of streams p.stream) (cells_before streams (pid_of streams p.stream) earlier % 16) (flags_of streams p) (room_of streams p) (pes_of p))

-- Each write is a cell of 188 bytes.
use Rattle.std.proofs.Common.{◌≡◌, ℕ, zero, suc, ◌+◌, ◌-◌, ◌/◌, ◌%◌, ◌≤◌, Bool, true, false, if◌then◌else◌, List, [], ◌∷◌, ◌++◌, length, take, drop, refl, ap, ◌∙◌, arith, length-append}
use Rattle.std.specs.Prelude.{map, reverse}
use Rattle.std.specs.List.{All}
use Rattle.std.proofs.lemmas.List.{length-take, length-replicate}
use Rattle.std.proofs.lemmas.List.Elements.{All-cons, All-append, All-map}
use Rattle.rmx_media.specs.declared.packet.Packet.{Packet}
use Rattle.rmx_media.specs.declared.streams.MuxStream.{MuxStream}
use Rattle.rmx_media.specs.declared.streams.MuxStreams.{MuxStreams}
use Rattle.rmx_media.specs.Streams.{CanMux, AreStreams}
use Rattle.rmx_edge.specs.Shelf.{ShelfCall, Create, Write, Close}
use Rattle.rmx_edge.specs.FileCalls.{calls_over}
use Rattle.rmx_media.specs.Bits.{bytes_of}
use Rattle.ts_psi.specs.Cell.{stuffing, table_cell}
use Rattle.ts_psi.specs.Crc.{crc}
use Rattle.ts_psi.specs.Tables.{pat_cell, pmt_cell, pmt_section, pat_section}
use Rattle.ts_mux.specs.Cells.{cell, front_of, field, next, no_flags, cells_by, more_cells, cells_of}
use Rattle.ts_mux.specs.File.{table_streams, table_calls, pid_of, flags_of, room_of, is_first, has_tables, tables_before, cells_before, put_calls, begin_calls, end_calls, ts_calls}
use Rattle.ts_mux.specs.Laws.{WritesCell}
use Rattle.ts_mux.specs.Pes.{pes_of}

length-stuffing : (n : ℕ) → length (stuffing n) ≡ n
unfolding stuffing
length-stuffing n = length-replicate n 255

length-field : (flags : List ℕ) (missing : ℕ) → length (field flags missing) ≡ missing
length-field flags zero = refl
length-field flags (suc m) =
    let parts : length (take m flags ++ stuffing (m - length flags)) ≡ m =
    length-append (take m flags) (stuffing (m - length flags)) ∙ (let e : length (take m flags) + length (stuffing (m - length flags)) ≡ m = omega (arith, length-take m flags, length-stuffing (m - length flags)) in e) in
    ap suc parts

length-cell : (pid counter : ℕ) (start : Bool) (flags body : List ℕ) → length body ≤ 184 → length (cell pid start counter flags body) ≡ 188
unfolding cell front_of
length-cell pid counter start flags body h =
    let missing : ℕ = 184 - length body in
    length-append (front_of pid start counter flags missing) body
    ∙ (let e : length (front_of pid start counter flags missing) + length body ≡ 188 = omega (arith, length-field flags missing) in e)

length-cell_by : (pid counter room : ℕ) (start : Bool) (flags bytes : List ℕ) → room ≤ 184 → length (cell pid start counter flags (take room bytes)) ≡ 188
length-cell_by pid counter room start flags bytes h =
    let few : length (take room bytes) ≤ 184 = omega (arith, length-take room bytes) in
    length-cell pid counter start flags (take room bytes) few

abbrev IsCell : List ℕ → Type 0
IsCell piece = length piece ≡ 188

none : All WritesCell []
none = λ k d h. absurd (omega (arith, h))

no_cells : All IsCell []
no_cells = λ k d h. absurd (omega (arith, h))

all_by : (n pid counter : ℕ) (bytes : List ℕ) → All IsCell (cells_by n pid counter bytes)
all_by zero pid counter bytes = no_cells
all_by (suc n) pid counter bytes =
    All-cons IsCell (cell pid false counter no_flags (take 184 bytes)) (cells_by n pid (next counter) (drop 184 bytes))
    (length-cell_by pid counter 184 false no_flags bytes (omega arith)) (all_by n pid (next counter) (drop 184 bytes))

all_of : (pid counter : ℕ) (flags : List ℕ) (room : ℕ) (pes : List ℕ) → room ≤ 184 → All IsCell (cells_of pid counter flags room pes)
unfolding cells_of more_cells
all_of pid counter flags room pes h =
    All-cons IsCell (cell pid true counter flags (take room pes)) (more_cells pid (next counter) (drop room pes))
    (length-cell_by pid counter room true flags pes h) (all_by ((length (drop room pes) + 183) / 184) pid (next counter) (drop room pes))

room_fits : (first : Bool) → (if first then 176 else 184) ≤ 184
room_fits true = omega arith
room_fits false = omega arith

length-table_cell : (pid counter : ℕ) (section : List ℕ) → length section ≤ 179 → length (table_cell pid counter section) ≡ 188
unfolding table_cell
length-table_cell pid counter section h =
    let sum : length (section ++ bytes_of 4 (crc section)) ≡ length section + 4 = length-append section (bytes_of 4 (crc section)) in
    let rest : length ((section ++ bytes_of 4 (crc section)) ++ stuffing (179 - length section)) ≡ 183 =
    length-append (section ++ bytes_of 4 (crc section)) (stuffing (179 - length section))
    ∙ (let e : length (section ++ bytes_of 4 (crc section)) + length (stuffing (179 - length section)) ≡ 183 = omega (arith, length-stuffing (179 - length section)) in e) in
    ap (λ k. suc (suc (suc (suc (suc k))))) rest

both_tables : (streams : List MuxStream) (counter : ℕ) → length (pmt_section (table_streams 0x100 streams)) ≤ 179 → All WritesCell (table_calls streams counter)
both_tables streams counter h =
    let second : ShelfCall = Write (pmt_cell (table_streams 0x100 streams) counter) in
    All-cons WritesCell (Write (pat_cell counter)) (second ∷ []) (length-table_cell 0 counter pat_section (omega arith))
    (All-cons WritesCell second [] (length-table_cell 0x1000 counter (pmt_section (table_streams 0x100 streams)) h) none)

all_tables : (streams : List MuxStream) (counter : ℕ) → AreStreams streams → All WritesCell (table_calls streams counter)
all_tables [] counter h = absurd h
all_tables (one ∷ []) counter h = both_tables (one ∷ []) counter (omega arith)
all_tables (video ∷ audio ∷ []) counter h = both_tables (video ∷ audio ∷ []) counter (omega arith)
all_tables (video ∷ audio ∷ more ∷ streams) counter h = absurd h

all_shown : (shown : Bool) (calls : List ShelfCall) → All WritesCell calls → All WritesCell (if shown then calls else [])
all_shown true calls h = h
all_shown false calls h = none

all_put : (streams : MuxStreams) (before : List Packet) (p : Packet) → CanMux streams → All WritesCell (put_calls streams before p)
unfolding put_calls
all_put all before p h =
    let streams : List MuxStream = all.streams.items in
    let earlier : List Packet = reverse before in
    let tables : List ShelfCall = table_calls streams (tables_before streams earlier % 16) in
    let cells : List (List ℕ) = cells_of (pid_of streams p.stream) (cells_before streams (pid_of streams p.stream) earlier % 16) (flags_of streams p) (room_of streams p) (pes_of p) in
    All-append WritesCell (if has_tables streams earlier p then tables else []) (map Write cells)
    (all_shown (has_tables streams earlier p) tables (all_tables streams (tables_before streams earlier % 16) h.streams))
    (All-map WritesCell Write cells (all_of (pid_of streams p.stream) (cells_before streams (pid_of streams p.stream) earlier % 16) (flags_of streams p) (room_of streams p) (pes_of p)
    (room_fits (is_first streams p.stream))))

all_over : (streams : MuxStreams) (before packets : List Packet) → CanMux streams → All WritesCell (calls_over (put_calls streams) before packets)
all_over streams before [] h = none
all_over streams before (p ∷ packets) h =
    All-append WritesCell (put_calls streams before p) (calls_over (put_calls streams) (before ++ p ∷ []) packets) (all_put streams before p h)
    (all_over streams (before ++ p ∷ []) packets h)

pub all_cells : (streams : MuxStreams) (name : List ℕ) (packets : List Packet) → CanMux streams → All WritesCell (ts_calls streams name packets)
all_cells streams name packets h =
    All-append WritesCell (begin_calls streams name) (calls_over (put_calls streams) [] packets ++ end_calls)
    (All-cons WritesCell (Create name) (table_calls streams.streams.items 0) tt (all_tables streams.streams.items 0 h.streams))
    (All-append WritesCell (calls_over (put_calls streams) [] packets) end_calls (all_over streams [] packets h) (All-cons WritesCell Close [] tt none))

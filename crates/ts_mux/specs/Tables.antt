-- The table cells that a file has again and again, and their counters.
use Rattle.std.specs.Prelude.{◌≡◌, ℕ, ◌+◌, List, [], ◌∷◌, map, slice_set}
use Rattle.rmx_media.specs.declared.streams.MuxStream.{MuxStream}
use Rattle.rmx_edge.specs.Shelf.{ShelfCall, Write}
use Rattle.ts_psi.specs.Tables.{pat_cell, pmt_cell}
use Rattle.ts_mux.specs.declared.tables.Tables.{Tables}
use Rattle.ts_mux.specs.File.{table_streams}

-- a cell with a field-less head, with another counter
abbrev pub with_counter : List ℕ → ℕ → List ℕ
with_counter cell counter = slice_set cell 3 (16 + counter)

abbrev pub calls_of : Tables → ℕ → List ShelfCall
calls_of t counter = map Write (with_counter t.programs counter ∷ with_counter t.program_map counter ∷ [])

-- the cells are those of the streams, with counter 0
pub record AreTables (streams : List MuxStream) (t : Tables) : Type 0 where
  pub programs : t.programs ≡ pat_cell 0
  pub program_map : t.program_map ≡ pmt_cell (table_streams 0x100 streams) 0

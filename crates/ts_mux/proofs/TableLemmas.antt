-- The table cells with their counters.
use Rattle.std.proofs.Common.{◌≡◌, ℕ, List, [], ◌∷◌, refl, ap, ◌∙◌}
use Rattle.std.specs.Prelude.{map}
use Rattle.rmx_media.specs.declared.streams.MuxStream.{MuxStream}
use Rattle.rmx_edge.specs.Shelf.{Write}
use Rattle.ts_psi.specs.Cell.{table_cell}
use Rattle.ts_psi.specs.Tables.{pat_cell, pmt_cell, pmt_section, pat_section}
use Rattle.ts_mux.specs.declared.tables.Tables.{Tables}
use Rattle.ts_mux.specs.File.{table_streams, table_calls}
use Rattle.ts_mux.specs.Tables.{AreTables, calls_of, with_counter}

counted : (pid counter : ℕ) (section : List ℕ) → with_counter (table_cell pid 0 section) counter ≡ table_cell pid counter section
unfolding table_cell
counted pid counter section = refl

-- the cells that were kept are those of the table, but for the counter
pub calls_are : (streams : List MuxStream) (t : Tables) (counter : ℕ) → AreTables streams t → calls_of t counter ≡ table_calls streams counter
calls_are streams t counter h =
    ap (λ (x : List ℕ). map Write (with_counter x counter ∷ with_counter t.program_map counter ∷ [])) h.programs
    ∙ ap (λ (x : List ℕ). map Write (with_counter (pat_cell 0) counter ∷ with_counter x counter ∷ [])) h.program_map
    ∙ ap (λ (x : List ℕ). map Write (x ∷ with_counter (pmt_cell (table_streams 0x100 streams) 0) counter ∷ [])) (counted 0 counter pat_section)
    ∙ ap (λ (x : List ℕ). map Write (pat_cell counter ∷ x ∷ [])) (counted 0x1000 counter (pmt_section (table_streams 0x100 streams)))

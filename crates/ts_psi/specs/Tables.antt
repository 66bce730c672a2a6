-- The two tables.
use Rattle.std.specs.Prelude.{ℕ, ◌+◌, ◌*◌, ◌/◌, ◌%◌, ◌<◌, List, [], ◌∷◌, ◌++◌, length, flat_map}
use Rattle.ts_psi.specs.declared.tables.TableStream.{TableStream}
use Rattle.ts_psi.specs.Cell.{table_cell}

-- one program, 1, whose table has the PID 1000 hex
abbrev pub pat_section : List ℕ
pat_section = 0x00 ∷ 0xB0 ∷ 0x0D ∷ 0x00 ∷ 0x01 ∷ 0xC1 ∷ 0x00 ∷ 0x00 ∷ 0x00 ∷ 0x01 ∷ 0xF0 ∷ 0x00 ∷ []

abbrev pub pat_cell : ℕ → List ℕ
pat_cell counter = table_cell 0 counter pat_section

-- a PID under three bits 1
abbrev pub pid_bytes : ℕ → List ℕ
pid_bytes pid = (0xE0 + pid / 256) ∷ pid % 256 ∷ []

abbrev pub stream_entry : TableStream → List ℕ
stream_entry stream = stream.stream_type ∷ pid_bytes stream.pid ++ 0xF0 ∷ 0x00 ∷ []

abbrev pub first_pid : List TableStream → ℕ
first_pid [] = 0
first_pid (stream ∷ streams) = stream.pid

abbrev pub pmt_section : List TableStream → List ℕ
pmt_section streams =
    0x02 ∷ 0xB0 ∷ (13 + 5 * length streams) ∷ 0x00 ∷ 0x01 ∷ 0xC1 ∷ 0x00 ∷ 0x00 ∷ pid_bytes (first_pid streams) ++ 0xF0 ∷ 0x00 ∷ flat_map stream_entry streams

abbrev pub pmt_cell : List TableStream → ℕ → List ℕ
pmt_cell streams counter = table_cell 0x1000 counter (pmt_section streams)

abbrev pub HasPid : TableStream → Type 0
HasPid stream = stream.pid < 8192

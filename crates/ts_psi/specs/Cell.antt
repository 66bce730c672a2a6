-- Cells of a transport stream, of 188 bytes.
use Rattle.std.specs.Prelude.{ℕ, ◌+◌, ◌-◌, ◌*◌, ◌/◌, ◌%◌, List, [], ◌∷◌, ◌++◌, length, replicate}
use Rattle.ts_psi.specs.Crc.{crc}
use Rattle.rmx_media.specs.Bits.{bytes_of}

-- so many bytes FF
unfoldable pub stuffing : ℕ → List ℕ
stuffing count = replicate count 255

-- the head: whether a unit starts, the PID, whether there is a field before the payload, the counter
abbrev pub cell_head : ℕ → ℕ → ℕ → ℕ → List ℕ
cell_head pid start control counter = 0x47 ∷ (64 * start + pid / 256) ∷ pid % 256 ∷ (16 * control + counter) ∷ []

-- a section with its checksum
abbrev pub checked : List ℕ → List ℕ
checked section = section ++ bytes_of 4 (crc section)

-- a table: head, pointer byte, the section with its checksum, stuffing
unfoldable pub table_cell : ℕ → ℕ → List ℕ → List ℕ
table_cell pid counter section = cell_head pid 1 1 counter ++ 0 ∷ (checked section ++ stuffing (179 - length section))

-- Cells, and the cells of a PES packet.
use Rattle.std.specs.Prelude.{ℕ, ◌+◌, ◌-◌, ◌/◌, ◌%◌, Bool, true, false, List, [], ◌∷◌, ◌++◌, length, zero, suc, take, drop}
use Rattle.ts_psi.specs.Cell.{stuffing, cell_head}

abbrev pub start_bit : Bool → ℕ
start_bit true = 1
start_bit false = 0

-- the field before the payload where so many bytes are missing: its length, its flags with what they announce, stuffing
abbrev pub field : List ℕ → ℕ → List ℕ
field flags zero = []
field flags (suc m) = m ∷ take m flags ++ stuffing (m - length flags)

-- payload alone, or a field and payload
abbrev pub control_of : ℕ → ℕ
control_of zero = 1
control_of (suc missing) = 3

-- what stands before the payload of a cell, where so many bytes of 184 are missing
unfoldable pub front_of : ℕ → Bool → ℕ → List ℕ → ℕ → List ℕ
front_of pid start counter flags missing =
    cell_head pid (start_bit start) (control_of missing) counter ++ field flags missing

-- a cell that carries these bytes
unfoldable pub cell : ℕ → Bool → ℕ → List ℕ → List ℕ → List ℕ
cell pid start counter flags body = front_of pid start counter flags (184 - length body) ++ body

-- the counter of the next cell
abbrev pub next : ℕ → ℕ
next counter = (counter + 1) % 16

-- the flags of a field that is there for stuffing alone
abbrev pub no_flags : List ℕ
no_flags = 0 ∷ []

-- so many cells of the bytes
abbrev pub cells_by : ℕ → ℕ → ℕ → List ℕ → List (List ℕ)
cells_by zero pid counter bytes = []
cells_by (suc n) pid counter bytes = cell pid false counter no_flags (take 184 bytes) ∷ cells_by n pid (next counter) (drop 184 bytes)

-- the cells after the first, as many as the bytes take
unfoldable pub more_cells : ℕ → ℕ → List ℕ → List (List ℕ)
more_cells pid counter bytes = cells_by ((length bytes + 183) / 184) pid counter bytes

-- the cells of a PES packet: the first one carries at most `room` bytes and has these flags
unfoldable pub cells_of : ℕ → ℕ → List ℕ → ℕ → List ℕ → List (List ℕ)
cells_of pid counter flags room pes =
    cell pid true counter flags (take room pes) ∷ more_cells pid (next counter) (drop room pes)

-- the number of cells of so many bytes
abbrev pub cell_count : ℕ → ℕ → ℕ
cell_count room size = 1 + (size - room + 183) / 184

-- What holds of every file.
use Rattle.std.specs.Prelude.{◌≡◌, ℕ, List, length}
use Rattle.std.specs.List.{All}
use Rattle.rmx_media.specs.declared.packet.Packet.{Packet}
use Rattle.rmx_media.specs.declared.streams.MuxStreams.{MuxStreams}
use Rattle.rmx_media.specs.Streams.{CanMux}
use Rattle.rmx_edge.specs.Shelf.{ShelfCall, Create, Write, Close}
use Rattle.ts_mux.specs.File.{ts_calls}

-- where a call writes, it writes a whole cell
abbrev pub WritesCell : ShelfCall → Type 0
WritesCell (Create name) = Unit {0}
WritesCell (Write piece) = length piece ≡ 188
WritesCell Close = Unit {0}

-- each write of a file is a cell of 188 bytes
abbrev pub FilesAreCells : Type 0
FilesAreCells = (streams : MuxStreams) (name : List ℕ) (packets : List Packet) → CanMux streams → All WritesCell (ts_calls streams name packets)

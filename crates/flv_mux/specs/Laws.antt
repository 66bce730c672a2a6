-- What holds of every file of FLV.
use Rattle.std.specs.Prelude.{◌≡◌, ℕ, List, [], ◌∷◌, ◌++◌, true}
use Rattle.rmx_media.specs.declared.packet.Packet.{Packet}
use Rattle.rmx_media.specs.declared.streams.MuxStreams.{MuxStreams}
use Rattle.rmx_edge.specs.Shelf.{ShelfTake, after}
use Rattle.rmx_edge.specs.Pieces.{joined}
use Rattle.flv_mux.specs.Flv.{head_pieces, packet_pieces, tail_pieces, flv_calls}

-- the pieces of packets, which come after those before
abbrev pub pieces_after : List Packet → List Packet → List (List ℕ)
pieces_after before [] = []
pieces_after before (p ∷ ps) = packet_pieces before p ++ pieces_after (before ++ p ∷ []) ps

-- the pieces of a whole file
abbrev pub file_pieces : MuxStreams → List Packet → List (List ℕ)
file_pieces m packets = head_pieces m ++ (pieces_after [] packets ++ tail_pieces m packets)

-- a whole file is one closed take, which holds its pieces one after another
abbrev pub FilesAreTags : Type 0
FilesAreTags =
    (m : MuxStreams) (name : List ℕ) (packets : List Packet) (old : List ShelfTake)
    → after (flv_calls m name packets) old ≡ old ++ record { name = name; bytes = joined (file_pieces m packets); closed = true } ∷ []

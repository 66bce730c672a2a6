-- What holds of every file of ADTS frames.
use Rattle.std.specs.Prelude.{◌≡◌, ℕ, List, [], ◌∷◌, ◌++◌, flat_map, true}
use Rattle.rmx_media.specs.declared.packet.Packet.{Packet}
use Rattle.rmx_edge.specs.Shelf.{ShelfTake, after}
use Rattle.aac_adts.specs.Adts.{adts_calls, frame_of}

-- a whole file is one closed take, which holds the packets' frames one after another
abbrev pub FilesAreFrames : Type 0
FilesAreFrames =
    (name : List ℕ) (packets : List Packet) (old : List ShelfTake)
    → after (adts_calls name packets) old ≡ old ++ record { name = name; bytes = flat_map frame_of packets; closed = true } ∷ []

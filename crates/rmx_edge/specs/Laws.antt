-- What holds of every run of calls.
use Rattle.std.specs.Prelude.{◌≡◌, ℕ, List, [], ◌∷◌, ◌++◌, length, true, Err}
use Rattle.rmx_edge.specs.declared.shelf.ShelfFault.{ShelfFault}
use Rattle.rmx_edge.specs.Count.{raised}
use Rattle.rmx_edge.specs.Shelf.{ShelfTake, ShelfCall, Create, Write, Close, ShelfState, Accepted, after, total, accepted_by, Flushes}
use Rattle.rmx_edge.specs.Pieces.{writes, joined}
use Rattle.rmx_edge.specs.Run.{Completed, Stopped, bytes_of}

-- a file that is written in pieces is one closed take of all their bytes, whatever stood on the shelf before
abbrev pub FilesAreTakes : Type 0
FilesAreTakes =
    (name : List ℕ) (pieces : List (List ℕ)) (old : List ShelfTake)
    → after (Create name ∷ (writes pieces ++ Close ∷ [])) old ≡ old ++ record { name = name; bytes = joined pieces; closed = true } ∷ []

-- a flush that is refused after a run that ended in a write is a refusal of that write
abbrev pub FlushesStopWrites : Type 0
FlushesStopWrites =
    (calls : List ShelfCall) (piece : List ℕ) (e : ShelfFault) (a b c : ShelfState)
    → Completed (calls ++ Write piece ∷ []) a b → Flushes {T = Unit {0}} (Err e) b c → Stopped (calls ++ Write piece ∷ []) (length calls) a c

-- the count of accepted bytes is raised by the pieces of all calls that were made
abbrev pub BytesAreCounted : Type 0
BytesAreCounted = (calls : List ShelfCall) (a : Accepted) → total (accepted_by calls a) ≡ raised (total a) (bytes_of calls)

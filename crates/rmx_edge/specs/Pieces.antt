-- Calls that write pieces. A piece of no bytes is not written.
use Rattle.std.specs.Prelude.{◌≡◌, ℕ, List, [], ◌∷◌, ◌++◌, length, flat_map, ◌==◌, if◌then◌else◌}
use Rattle.rmx_edge.specs.Shelf.{ShelfCall, Write}

abbrev pub write_of : List ℕ → List ShelfCall
write_of piece = if length piece == 0 then [] else Write piece ∷ []

unfoldable pub writes : List (List ℕ) → List ShelfCall
writes [] = []
writes (piece ∷ pieces) = write_of piece ++ writes pieces

-- the bytes of pieces
abbrev pub joined : List (List ℕ) → List ℕ
joined pieces = flat_map (λ (piece : List ℕ). piece) pieces

-- the last of the calls is a write, as a flush after them asks
pub record EndsInWrite (calls : List ShelfCall) : Type 0 where
  pub front : List ShelfCall
  pub piece : List ℕ
  pub split : calls ≡ front ++ Write piece ∷ []

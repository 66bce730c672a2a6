-- The Annex B form in pieces.
use Rattle.std.specs.Prelude.{◌≡◌, ℕ, ◌<◌, if◌then◌else◌, List, [], ◌∷◌, length, Option, MatchOption}
use Rattle.std.specs.List.{flat_map}
use denote.Ref.{Bor}
use Rattle.avc_units.specs.declared.pieces.Pieces.{Pieces}
use Rattle.avc_units.specs.Placed.{left_of as placed_left}
use Rattle.rmx_media.specs.Units.{is_filled}

-- a start code
abbrev pub start_code : List ℕ
start_code = 0 ∷ 0 ∷ 0 ∷ 1 ∷ []

-- a start code and then the unit, for each of them
unfoldable pub pieces_of : List (List ℕ) → List (List ℕ)
pieces_of units = flat_map (λ unit. start_code ∷ unit ∷ []) units

-- a unit whose start code went out, if there is one, in front of the others
abbrev pub after_start : List ℕ → List (List ℕ) → List (List ℕ)
after_start unit pieces = if is_filled unit then unit ∷ pieces else pieces

-- the pieces that are still to come
abbrev pub left_of : Pieces → List (List ℕ)
left_of p = after_start p.unit.now (pieces_of (placed_left p.placed))

-- the first piece came, which isn't empty, or none is left
abbrev pub GivesPiece : Pieces → Option (Bor (List ℕ)) → Pieces → Type 0
GivesPiece old result new =
    MatchOption result ((left_of old ≡ []) × (left_of new ≡ [])) (λ piece. (left_of old ≡ piece.now ∷ left_of new) × (0 < length piece.now))

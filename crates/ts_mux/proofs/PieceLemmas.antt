-- Pieces and their bytes.
use Rattle.std.proofs.Common.{◌≡◌, ℕ, List, ◌∷◌, ◌++◌, ap}
use Rattle.std.specs.List.{concat}

pub concat_more : (all rest : List (List ℕ)) (piece : List ℕ) → all ≡ piece ∷ rest → concat all ≡ piece ++ concat rest
concat_more all rest piece e = ap concat e

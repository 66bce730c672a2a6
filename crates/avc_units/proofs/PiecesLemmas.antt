-- Pieces, one after another.
use Rattle.std.proofs.Common.{◌≡◌, ℕ, ◌<◌, ◌≤◌, Bool, List, [], ◌∷◌, ◌++◌, length, refl, ap, ◌∙◌, sym}
use Rattle.std.specs.Prelude.{if◌then◌else◌}
use Rattle.std.specs.List.{concat}
use Rattle.rmx_media.specs.Units.{annexb}
use Rattle.avc_units.specs.Pieces.{start_code, pieces_of, after_start}
use Rattle.avc_units.proofs.UnitsLemmas.{is_short, is_long}

no_unit : (unit : List ℕ) (pieces : List (List ℕ)) → length unit ≤ 0 → after_start unit pieces ≡ pieces
no_unit unit pieces h = ap (λ (b : Bool). if b then unit ∷ pieces else pieces) (is_long 0 (length unit) h)

pub start_given : (old unit : List ℕ) (before after : List (List ℕ)) → length old ≤ 0 → 0 < length unit → before ≡ unit ∷ after
    → after_start old (pieces_of before) ≡ start_code ∷ after_start unit (pieces_of after)
unfolding pieces_of
start_given old unit before after n h e =
    no_unit old (pieces_of before) n
    ∙ ap pieces_of e
    ∙ ap (λ (b : Bool). start_code ∷ (if b then unit ∷ pieces_of after else pieces_of after)) (sym (is_short 0 (length unit) h))

pub none_left : (old : List ℕ) (before : List (List ℕ)) → length old ≤ 0 → before ≡ [] → after_start old (pieces_of before) ≡ []
unfolding pieces_of
none_left old before n e = no_unit old (pieces_of before) n ∙ ap pieces_of e

-- the pieces together
pub concat-pieces_of : (units : List (List ℕ)) → concat (pieces_of units) ≡ annexb units
unfolding pieces_of annexb
concat-pieces_of [] = refl
concat-pieces_of (unit ∷ units) = ap (λ (b : List ℕ). 0 ∷ 0 ∷ 0 ∷ 1 ∷ (unit ++ b)) (concat-pieces_of units)

use Rattle.std.proofs.Common.{◌≡◌, ℕ, [], ◌∷◌, true, refl}
use Rattle.rmx_media.specs.Units.{is_valid, units_of, parts_of}
use Rattle.slave.proofs.tests.unit.Goals as goal

-- a unit of two bytes behind its length field
one_unit : (first : ℕ) → is_valid 4 (0 ∷ 0 ∷ 0 ∷ 2 ∷ first ∷ 136 ∷ []) ≡ true
unfolding units_of parts_of
one_unit first = refl

pub returns-clause-valid : goal.returns-clause-valid
returns-clause-valid c = let h = c.in_ok-copy_from_slice.ensures in rw h (one_unit c.if-key.first)

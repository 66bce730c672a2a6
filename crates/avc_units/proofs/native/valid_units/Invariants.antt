use Rattle.std.proofs.Common.{◌≡◌, length}
use Rattle.rmx_media.specs.Units.{is_valid, parts_of}
use Rattle.avc_units.proofs.UnitsLemmas.{good}
use Rattle.avc_units.proofs.native.valid_units.Given as goal

-- what was found and what is left decide
abbrev pub invariant-loop-rest : goal.invariant-loop-rest
invariant-loop-rest l = is_valid l.fn.length_size l.fn.payload ≡ good l.found (parts_of l.length_size l.rest)

abbrev pub decreases-loop-rest : goal.decreases-loop-rest
decreases-loop-rest l = length l.rest

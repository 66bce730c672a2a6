use Rattle.std.proofs.Common.{◌≡◌, ◌+◌, length}
use Rattle.rmx_media.specs.Avc.{sets_of}
use Rattle.rmx_media.specs.Units.{annexb, units_of}
use Rattle.avc_units.specs.Placed.{left_of}
use Rattle.avc_units.specs.UnitList.{with_sets}
use Rattle.avc_units.proofs.pieces.annexb_len.Given as goal

-- what was counted and what is left are the whole
abbrev pub invariant-loop-unit : goal.invariant-loop-unit
invariant-loop-unit l =
    l.len + length (annexb (left_of l.left)) ≡ length (annexb (with_sets (sets_of l.fn.config) (units_of l.fn.config.length_size l.fn.payload)))

abbrev pub decreases-loop-unit : goal.decreases-loop-unit
decreases-loop-unit l = length (left_of l.left)

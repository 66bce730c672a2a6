use Rattle.std.proofs.Common.{◌≡◌, ◌++◌, drop}
use Rattle.avc_units.specs.UnitList.{shown}
use Rattle.rmx_media.specs.Units.{annexb}
use Rattle.avc_units.proofs.print.annexb_bytes.Given as goal

abbrev pub invariant-loop-unit : goal.invariant-loop-unit
invariant-loop-unit l = l.out.items ++ annexb (shown (drop l.unit-index l.units)) ≡ annexb (shown l.units)

use Rattle.std.proofs.Common.{◌≡◌, ◌++◌, drop}
use Rattle.avc_units.specs.UnitList.{shown, AreShort}
use Rattle.rmx_media.specs.Units.{native}
use Rattle.avc_units.proofs.print.native_bytes.Given as goal

abbrev pub invariant-loop-unit : goal.invariant-loop-unit
invariant-loop-unit l = record {
  spelled : l.out.items ++ native l.length_size (shown (drop l.unit-index l.units)) ≡ native l.length_size (shown l.units);
  short : AreShort l.length_size (shown (drop l.unit-index l.units));
}

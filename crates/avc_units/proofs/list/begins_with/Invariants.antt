use Rattle.std.proofs.Common.{◌≡◌, ◌≤◌, length, drop}
use Rattle.avc_units.specs.UnitList.{shown, begins}
use Rattle.avc_units.specs.Filled.{left_of}
use Rattle.rmx_media.specs.Avc.{sets_of}
use Rattle.avc_units.proofs.list.begins_with.Given as goal

abbrev pub invariant-loop-set : goal.invariant-loop-set
invariant-loop-set l = record {
  within : l.place ≤ length l.units;
  same : begins (sets_of l.fn.config) (shown l.units) ≡ begins (left_of l.sets) (shown (drop l.place l.units));
}

abbrev pub decreases-loop-set : goal.decreases-loop-set
decreases-loop-set l = length (left_of l.sets)

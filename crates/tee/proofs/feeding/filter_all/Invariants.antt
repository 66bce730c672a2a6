use Rattle.std.proofs.Common.{take}
use Rattle.std.specs.List.{AllZip}
use Rattle.tee.proofs.Slots.{IsFor}
use Rattle.tee.proofs.feeding.filter_all.Given as goal

abbrev pub invariant-loop-slave : goal.invariant-loop-slave
invariant-loop-slave g l = AllZip (IsFor l.p) (take l.slave-index l.slaves) l.filtered.items

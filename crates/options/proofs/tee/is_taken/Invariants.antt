use Rattle.std.proofs.Common.{◌≡◌, drop, map}
use Rattle.options.specs.Slave.{view}
use Rattle.options.specs.Tee.{is_taken}
use Rattle.options.proofs.tee.is_taken.Given as goal

abbrev pub invariant-loop-plan : goal.invariant-loop-plan
invariant-loop-plan l = is_taken (map view (drop l.plan-index l.plans)) l.name ≡ is_taken (map view l.plans) l.name

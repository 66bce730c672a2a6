use Rattle.std.proofs.Common.{rules}
use Rattle.lane.proofs.Known.{loads_over}
use Rattle.lane.proofs.lane.Lane.overflows.Goals as goal

pub load-requires : goal.load-requires
load-requires c = (search rules, search rules, loads_over _ _ _ _ _ _ _ _ c.taker.invariant.seated)

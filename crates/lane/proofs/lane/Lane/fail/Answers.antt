use Rattle.std.proofs.Common.{rules}
use Rattle.lane.proofs.Known.{stores_failed}
use Rattle.lane.proofs.lane.Lane.fail.Goals as goal

pub store-requires : goal.store-requires
store-requires c = (search rules, search rules, stores_failed _ _ _ _ _ _ _ _ c.taker.invariant.seated)

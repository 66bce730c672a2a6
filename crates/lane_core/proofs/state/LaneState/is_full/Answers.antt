use Rattle.std.proofs.Common.{arith}
use Rattle.lane_core.proofs.Sizes.{sum_small}
use Rattle.lane_core.proofs.state.LaneState.is_full.Goals as goal

pub overflow_add-result : goal.overflow_add-result
overflow_add-result c = let s = c.args.self.now in let light = sum_small s.queue.items s.small in let is = s.summed in let few = s.within in let cap = s.few_places in omega arith

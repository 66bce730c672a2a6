use Rattle.std.proofs.Common.{arith}
use Rattle.lane.proofs.Light.{total_small, small_rest, total_rest}
use Rattle.lane.proofs.sizes.Sizes.forget.Goals as goal

pub invariant_of-self-clause-summed : goal.invariant_of-self-clause-summed
invariant_of-self-clause-summed c = let was = c.loop.self.summed in let one = c.from.ensures in let cut = total_rest _ _ _ c.in-Some.ensures.items in omega arith

pub invariant_of-self-clause-small : goal.invariant_of-self-clause-small
invariant_of-self-clause-small c = small_rest _ _ _ c.in-Some.ensures.items c.loop.self.small

pub returns-clause-light : goal.returns-clause-light
returns-clause-light c = let s = c.loop.self in let light = total_small s.held.items s.small in let is = s.summed in let few = s.few in omega arith

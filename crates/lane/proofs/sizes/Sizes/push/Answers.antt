use Rattle.std.proofs.Common.{arith, sym, ap, ◌∙◌, subst}
use Rattle.lane.specs.Total.{total, AreSmall}
use Rattle.lane.proofs.Light.{total_small, small_more, total_more}
use Rattle.lane.proofs.sizes.Sizes.push.Goals as goal

pub overflow_add-self : goal.overflow_add-self
overflow_add-self c = let s = c.args.self.now in let light = total_small s.held.items s.small in let is = s.summed in let few = s.few in let one = c.from.ensures in omega arith

pub invariant_of-self-clause-summed : goal.invariant_of-self-clause-summed
invariant_of-self-clause-summed c = let was = c.args.self.now.summed in let one = c.from.ensures in let all = ap total c.push_back_reserved.ensures.items ∙ total_more c.args.self.now.held.items c.args.size in omega arith

pub invariant_of-self-clause-small : goal.invariant_of-self-clause-small
invariant_of-self-clause-small c = subst AreSmall (sym c.push_back_reserved.ensures.items) (small_more c.args.self.now.held.items c.args.size c.args.self.now.small c.ranges.size.fits)

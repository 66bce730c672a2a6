use Rattle.std.proofs.Common.{arith, sym, ap, ◌∙◌, subst}
use Rattle.std.specs.Prelude.{sum_by}
use Rattle.std.proofs.lemmas.List.Sums.{sum_by_push}
use Rattle.lane_core.specs.Size.{size_of, AreSmall}
use Rattle.lane_core.proofs.Sizes.{sum_small, small_more}
use Rattle.lane_core.proofs.state.LaneState.offer.Goals as goal

pub overflow_add-self-2 : goal.overflow_add-self-2
overflow_add-self-2 c = let s = c.args.self.now in let light = sum_small s.queue.items s.small in let is = s.summed in let few = s.within in let cap = s.few_places in let one = c.from.ensures in omega arith

pub push-requires : goal.push-requires
push-requires c = let free = c.is_full.ensures.room c.if-is_full.false in let room = c.args.self.now.room in omega arith

pub invariant_of-self-2-clause-small : goal.invariant_of-self-2-clause-small
invariant_of-self-2-clause-small c = subst AreSmall (sym c.push.ensures.items) (small_more c.args.self.now.queue.items record { index = c.args.index; size = c.args.size } c.args.self.now.small c.ranges.size.fits)

pub invariant_of-self-2-clause-summed : goal.invariant_of-self-2-clause-summed
invariant_of-self-2-clause-summed c = let s = c.args.self.now in let one = c.from.ensures in let all = ap (sum_by size_of) c.push.ensures.items ∙ sum_by_push size_of s.queue.items record { index = c.args.index; size = c.args.size } in let was = s.summed in cc

use Rattle.std.proofs.Common.{◌+◌, ℕ, ap, arith, refl}
use Rattle.tee.proofs.Outputs.{few_chosen, one_more}
use Rattle.tee.proofs.Riding.{rides_more}
use Rattle.tee.proofs.sender.Sender.send.Goals as goal

pub hand-requires-clause-few : goal.hand-requires-clause-few
hand-requires-clause-few g c =
    let r = c.requires.ready in
    let few = few_chosen r.3 r.1 in
    (omega (arith, few, r.5.offered.counted, r.7), omega (arith, few, r.5.offered.counted, r.7))

pub hand-requires-clause-low : goal.hand-requires-clause-low
hand-requires-clause-low g c =
    let r = c.requires.ready in
    omega (arith, few_chosen r.3 r.1, r.5.count, r.7)

pub overflow_add-self : goal.overflow_add-self
overflow_add-self g c =
    let r = c.requires.ready in
    one_more c.hand.new.self.count (omega (arith, c.hand.ensures.count, few_chosen r.3 r.1, r.5.count, r.7))

pub returns-clause-rides : goal.returns-clause-rides
returns-clause-rides g c = λ infos given asked seat told q r e.
    rides_more infos given asked seat told q c.args.packet _ c.args.self.now c.hand.new.self _ r e c.hand.ensures refl refl refl refl refl refl refl refl
    (ap (λ (n : ℕ). n + 1) c.hand.ensures.count)

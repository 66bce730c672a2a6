use Rattle.std.proofs.Common.{◌≡◌, length, ap, ◌∙◌, arith}
use Rattle.avc_units.specs.Units.{left_of}
use Rattle.avc_units.proofs.UnitsLemmas.{units_filled, units_empty, units_none}
use Rattle.avc_units.proofs.iter.UnitsIterator.next.Goals as goal

pub returns-then-unit-gt0-clause-steps : goal.returns-then-unit-gt0-clause-steps
returns-then-unit-gt0-clause-steps c =
    c.loop-self.invariant
    ∙ units_filled c.loop-self.self.length_size c.part-unit.new.self.length_size c.loop-self.self.rest.now c.part-unit.new.self.rest.now c.part-unit.result.now
    c.part-unit.ensures.part c.part-unit.new.self.whole (omega arith)

pub returns-then-unit-gt0-clause-goes : goal.returns-then-unit-gt0-clause-goes
returns-then-unit-gt0-clause-goes c =
    let fewer : length (left_of c.args.self.now) ≡ _ = ap length (returns-then-unit-gt0-clause-steps c) in
    record { on = λ h. (tt, h, omega arith); keeps = tt; rests = λ _. tt }

pub loop-self-preserved : goal.loop-self-preserved
loop-self-preserved c =
    c.loop-self.invariant
    ∙ units_empty c.loop-self.self.length_size c.part-unit.new.self.length_size c.loop-self.self.rest.now c.part-unit.new.self.rest.now c.part-unit.result.now
    c.part-unit.ensures.part c.part-unit.new.self.whole (omega arith)

pub returns-clause-steps : goal.returns-clause-steps
returns-clause-steps c =
    let none : left_of c.loop-self.self ≡ _ = units_none c.loop-self.self.length_size c.loop-self.self.rest.now (omega arith) in
    (c.loop-self.invariant ∙ none, none)

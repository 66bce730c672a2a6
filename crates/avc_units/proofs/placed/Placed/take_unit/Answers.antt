use Rattle.std.proofs.Common.{◌∙◌}
use Rattle.avc_units.specs.Filled.{left_of as sets_left}
use Rattle.avc_units.specs.Units.{left_of as units_left}
use Rattle.avc_units.proofs.ListLemmas.{unit_filled, skip_given, skip_other}
use Rattle.avc_units.proofs.placed.Placed.take_unit.Goals as goal

pub returns-then-not-self : goal.returns-then-not-self
returns-then-not-self c = (
  unit_filled c.args.self.now.units.length_size c.args.self.now.units.rest.now c.in-Some.unit.now (units_left c.next.new.self) c.in-Some.ensures.steps,
  skip_given c.args.self.now.due c.args.self.now.held.now c.in-Some.unit.now (sets_left c.args.self.now.sets) (units_left c.args.self.now.units)
      (units_left c.next.new.self) c.if-self-gt0.false c.in-Some.ensures.steps c.if-not-self.true,
)

pub returns-then-type_or_zero-ne5 : goal.returns-then-type_or_zero-ne5
returns-then-type_or_zero-ne5 c = (
  unit_filled c.args.self.now.units.length_size c.args.self.now.units.rest.now c.in-Some.unit.now (units_left c.next.new.self) c.in-Some.ensures.steps,
  skip_other c.args.self.now.due c.args.self.now.held.now c.in-Some.unit.now (sets_left c.args.self.now.sets) (units_left c.args.self.now.units)
      (units_left c.next.new.self) c.in-Some.ensures.steps c.if-not-self.false
      (λ h. c.if-type_or_zero-ne5.true (c.type_or_zero.ensures ∙ h)),
)

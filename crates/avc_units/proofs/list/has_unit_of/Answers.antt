use Rattle.std.proofs.Common.{◌+◌, drop, get_or, sym, ◌∙◌}
use Rattle.avc_units.specs.UnitList.{shown}
use Rattle.avc_units.proofs.ListLemmas.{nothing, has_first, has_later, has_none, shown_drop}
use Rattle.avc_units.proofs.list.has_unit_of.Goals as goal

pub returns-then-type_or_zero-unit_type : goal.returns-then-type_or_zero-unit_type
returns-then-type_or_zero-unit_type c =
    sym (c.loop-unit.invariant
    ∙ has_first c.args.unit_type (get_or c.args.units.now c.loop-unit.unit-index nothing).now (shown (drop (c.loop-unit.unit-index + 1) c.args.units.now))
    (shown (drop c.loop-unit.unit-index c.args.units.now)) (shown_drop c.args.units.now c.loop-unit.unit-index c.loop-unit-test.true)
    (sym c.type_or_zero.ensures ∙ c.if-type_or_zero-unit_type.true))

pub loop-unit-preserved : goal.loop-unit-preserved
loop-unit-preserved c =
    c.loop-unit.invariant
    ∙ has_later c.args.unit_type (get_or c.args.units.now c.loop-unit.unit-index nothing).now (shown (drop (c.loop-unit.unit-index + 1) c.args.units.now))
    (shown (drop c.loop-unit.unit-index c.args.units.now)) (shown_drop c.args.units.now c.loop-unit.unit-index c.loop-unit-test.true)
    (λ h. c.if-type_or_zero-unit_type.false (c.type_or_zero.ensures ∙ h))

pub returns : goal.returns
returns c = sym (c.loop-unit.invariant ∙ has_none c.args.unit_type c.args.units.now c.loop-unit.unit-index c.loop-unit-test.false)

use Rattle.std.proofs.Common.{sym, ◌∙◌}
use Rattle.avc_units.specs.UnitList.{shown}
use Rattle.avc_units.proofs.ListLemmas.{shown_more, shown_end}
use Rattle.avc_units.proofs.list.push_units.Goals as goal

pub loop-unit-preserved : goal.loop-unit-preserved
loop-unit-preserved c =
    shown_more c.args.units.now (shown c.loop-unit.list.items) (shown c.push_slice.new.list.items) c.loop-unit.unit-index c.loop-unit-test.true
    c.in_ok-push_slice.ensures
    ∙ c.loop-unit.invariant

pub returns : goal.returns
returns c = sym (shown_end c.args.units.now (shown c.loop-unit.list.items) c.loop-unit.unit-index c.loop-unit-test.false) ∙ c.loop-unit.invariant

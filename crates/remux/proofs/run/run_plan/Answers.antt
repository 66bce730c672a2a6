use Rattle.std.proofs.Common.{ap, sym, ◌∙◌}
use Rattle.options.specs.Words.{plan_view}
use Rattle.options.specs.declared.words.Source.TheVariants.{Named}
use Rattle.tee.specs.Ends.{EndsAll}
use Rattle.remux.specs.Kept.{AreKept}
use Rattle.remux.proofs.Running.{comes_generated, comes_named}
use Rattle.remux.proofs.run.run_plan.Goals as goal

pub returns-in-Named-clause-comes : goal.returns-in-Named-clause-comes
returns-in-Named-clause-comes g c = comes_named EndsAll AreKept g.S.Shelf.state (plan_view c.args.plan.now) c.as_str.result.now _ _ _ _
    (c.in-Named.is ∙ ap Named (sym c.as_str.ensures)) c.run_named.ensures.comes

pub returns-in-Generated-clause-comes : goal.returns-in-Generated-clause-comes
returns-in-Generated-clause-comes g c = comes_generated EndsAll AreKept g.S.Shelf.state (plan_view c.args.plan.now) c.in-Generated.count _ _ _
    c.in-Generated.is c.run_generated.ensures.comes

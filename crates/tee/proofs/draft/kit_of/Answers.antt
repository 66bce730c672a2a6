use Rattle.options.specs.Slave.{view}
use Rattle.tee.proofs.Built.{built_valid}
use Rattle.tee.proofs.draft.kit_of.Goals as goal

pub new-requires-clause-built : goal.new-requires-clause-built
new-requires-clause-built c = rw (c.in_ok-seg.ensures, c.in-Ok.ensures.ok, c.as_str.ensures) (built_valid (view c.args.plan.now) c.requires.valid)

use Rattle.slave.proofs.Entering.{entered_empty, is_empty_so}
use Rattle.slave.proofs.refusals.enter.Goals as goal

pub returns-then-is_empty-clause-ok : goal.returns-then-is_empty-clause-ok
returns-then-is_empty-clause-ok c =
    entered_empty c.args.runs.items c.args.receipts.now.items (is_empty_so c.as_slice-refused.result.now _ c.as_slice-refused.ensures c.is_empty.result c.if-is_empty.true c.is_empty.ensures)

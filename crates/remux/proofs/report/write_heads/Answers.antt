use Rattle.remux.specs.Report.{discards_line}
use Rattle.remux.proofs.Putting.{puts_as, puts_first, puts_last}
use Rattle.remux.proofs.report.write_heads.Goals as goal

pub returns-in-Ok : goal.returns-in-Ok
returns-in-Ok g c = puts_first _ _ _ _ _ _ _ _ _ c.tags_line.ensures c.in-Ok.is c.write_line.ensures (puts_as _ _ _ _ _ c.discards_line.ensures c.write_line-in-Ok.ensures)

pub returns-in-Err : goal.returns-in-Err
returns-in-Err g c = puts_last _ _ (discards_line c.args.outcome.now.discards) _ _ _ _ c.tags_line.ensures c.in-Err.is c.write_line.ensures

use Rattle.std.proofs.Common.{refl}
use Rattle.remux.specs.Report.{account, status_line}
use Rattle.remux.proofs.Putting.{puts_as, puts_first, puts_last}
use Rattle.remux.proofs.report.write_report.Goals as goal

pub returns-in-Ok : goal.returns-in-Ok
returns-in-Ok g c = puts_first (account c.args.outcome.now c.args.outcome.now.ends.items) (account c.args.outcome.now c.args.outcome.now.ends.items) (status_line c.args.outcome.now.status) _ _ _ _ _ _ refl c.in-Ok.is c.write_account.ensures (puts_as _ _ _ _ _ c.status_line-in-Ok.ensures c.write_line-in-Ok.ensures)

pub returns-in-Err : goal.returns-in-Err
returns-in-Err g c = puts_last (account c.args.outcome.now c.args.outcome.now.ends.items) (account c.args.outcome.now c.args.outcome.now.ends.items) (status_line c.args.outcome.now.status) _ _ _ _ refl c.in-Err.is c.write_account.ensures

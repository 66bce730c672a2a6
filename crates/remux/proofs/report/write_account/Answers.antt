use Rattle.std.proofs.Common.{ap, refl, sym}
use Rattle.remux.specs.Report.{heads, slave_lines}
use Rattle.remux.proofs.Putting.{puts_as, puts_first, puts_last}
use Rattle.remux.proofs.Reporting.{account_some}
use Rattle.remux.proofs.report.write_account.Goals as goal

pub returns-in-Ok : goal.returns-in-Ok
returns-in-Ok g c = puts_as _ _ _ _ _ (sym (account_some c.args.outcome.now c.args.outcome.now.ends.items c.requires.some))
    (puts_first (heads c.args.outcome.now) (heads c.args.outcome.now) (slave_lines 0 c.args.outcome.now.ends.items) _ _ _ _ _ _ refl c.in-Ok.is c.write_heads.ensures (puts_as _ _ _ _ _ (ap (slave_lines 0) c.as_slice.ensures) c.write_slaves.ensures))

pub returns-in-Err : goal.returns-in-Err
returns-in-Err g c = puts_as _ _ _ _ _ (sym (account_some c.args.outcome.now c.args.outcome.now.ends.items c.requires.some))
    (puts_last (heads c.args.outcome.now) (heads c.args.outcome.now) (slave_lines 0 c.args.outcome.now.ends.items) _ _ _ _ refl c.in-Err.is c.write_heads.ensures)

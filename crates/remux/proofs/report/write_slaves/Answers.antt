use Rattle.std.proofs.Common.{sym, Err, arith, ◌+◌}
use Rattle.std.specs.Prelude.{drop}
use Rattle.remux.specs.Report.{slave_line, slave_lines}
use Rattle.remux.proofs.Putting.{puts_as, puts_first, puts_last, puts_none}
use Rattle.remux.proofs.Reporting.{lines_at, lines_end}
use Rattle.remux.proofs.report.write_slaves.Goals as goal

pub returns-in-Err : goal.returns-in-Err
returns-in-Err g c = c.loop-k.invariant.0 (Err c.in-Err.failed) _
    (puts_as _ _ _ _ _ (sym (lines_at c.args.ends.now c.loop-k.k c.index-ends-k.result c.index-ends-k.is c.loop-k-test.true))
    (puts_last _ (slave_line c.loop-k.k c.index-ends-k.result) (slave_lines (c.loop-k.k + 1) (drop (c.loop-k.k + 1) c.args.ends.now)) _ _ _ _ c.slave_line.ensures c.in-Err.is c.write_line.ensures))

pub loop-k-preserved : goal.loop-k-preserved
loop-k-preserved g c = (
  (λ r new p. c.loop-k.invariant.0 r new
      (puts_as _ _ _ _ _ (sym (lines_at c.args.ends.now c.loop-k.k c.index-ends-k.result c.index-ends-k.is c.loop-k-test.true))
      (puts_first _ (slave_line c.loop-k.k c.index-ends-k.result) (slave_lines (c.loop-k.k + 1) (drop (c.loop-k.k + 1) c.args.ends.now)) _ _ _ _ _ _ c.slave_line.ensures c.in-Ok.is c.write_line.ensures p))),
  (λ lt. c.write_line.ensures.counted),
)

pub returns : goal.returns
returns g c = c.loop-k.invariant.0 _ _
    (puts_as _ _ _ _ _ (sym (lines_end c.args.ends.now c.loop-k.k (omega (arith, c.loop-k-test.false)))) (puts_none _ (c.loop-k.invariant.1 (omega (arith, c.loop-k-test.false, c.requires.some)))))

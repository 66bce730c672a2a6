use Rattle.std.proofs.Common.{◌≡◌}
use Rattle.std.specs.Prelude.{fold, take}
use Rattle.remux.specs.Report.{no_totals, with_fate}
use Rattle.remux.proofs.report.totals_of.Given as goal

abbrev pub invariant-loop-run : goal.invariant-loop-run
invariant-loop-run l = l.totals ≡ fold (λ t r. with_fate r.fate r.count t) no_totals (take l.run-index l.runs)

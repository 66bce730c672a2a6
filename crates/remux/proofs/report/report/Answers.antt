use Rattle.std.proofs.Common.{subst, Result, sym}
use Rattle.rmx_edge.specs.declared.inputs.Failed.{Failed}
use Rattle.rmx_edge.specs.Sink.{Puts}
use Rattle.remux.specs.declared.status.Status.{Status}
use Rattle.remux.specs.Report.{report, ReportsBy}
use Rattle.remux.proofs.Reporting.{reports_ok, reports_err}
use Rattle.remux.proofs.report.report.Goals as goal

pub returns-in-Ok-clause-reports : goal.returns-in-Ok-clause-reports
returns-in-Ok-clause-reports g c =
    reports_ok c.args.outcome.now.status (report c.args.outcome.now) _ _ c.requires
    (subst (λ (r : Result (Unit {0}) Failed). Puts {T = Unit {0}} {E = Failed} (report c.args.outcome.now) r (g.O.Sink.state c.args.out.now) (g.O.Sink.state c.write_report.new.out)) c.in-Ok.is c.write_report.ensures)

pub returns-in-Err-clause-reports : goal.returns-in-Err-clause-reports
returns-in-Err-clause-reports g c =
    subst (λ (s : Status). ReportsBy s (report c.args.outcome.now) (g.O.Sink.state c.args.out.now) (g.O.Sink.state c.write_report.new.out)) (sym c.without_report.ensures)
    (reports_err c.args.outcome.now.status (report c.args.outcome.now) c.in-Err.field-0 _ _ c.requires
    (subst (λ (r : Result (Unit {0}) Failed). Puts {T = Unit {0}} {E = Failed} (report c.args.outcome.now) r (g.O.Sink.state c.args.out.now) (g.O.Sink.state c.write_report.new.out)) c.in-Err.is c.write_report.ensures))

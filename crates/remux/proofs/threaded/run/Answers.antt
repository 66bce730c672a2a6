use Rattle.std.specs.Prelude.{map, string_bytes}
use Rattle.options.specs.Words.{plan, plan_view}
use Rattle.tee.specs.RunEnds.{EndsAllRun}
use Rattle.remux.specs.Asked.{asked_of}
use Rattle.remux.specs.KeptRun.{AreKeptRun}
use Rattle.remux.proofs.Completing.{completes, completes_refused, knows_run}
use Rattle.remux.proofs.Inlining.{nothing_within, reported_within}
use Rattle.remux.proofs.Running.{from_calm, runs_ok}
use Rattle.remux.proofs.threaded.run.Goals as goal

pub returns-in-Ok-clause-outcome : goal.returns-in-Ok-clause-outcome
returns-in-Ok-clause-outcome g c = runs_ok EndsAllRun AreKeptRun g.S.Shelf.state (plan (map string_bytes c.args.words.now)) (plan_view c.in-Ok.plan) _ _ _ c.run_planned.result c.reported.result
    c.in-Ok.ensures.plan c.run_planned.ensures.comes c.reported.ensures.same c.reported.ensures.status

pub reported-requires : goal.reported-requires
reported-requires g c = from_calm EndsAllRun AreKeptRun g.S.Shelf.state (plan_view c.in-Ok.plan).source (asked_of (plan_view c.in-Ok.plan)) _ _ _ c.run_planned.result c.run_planned.ensures.comes

pub returns-in-Ok-clause-inline : goal.returns-in-Ok-clause-inline
returns-in-Ok-clause-inline g c = reported_within _ _ _ c.run_planned.result c.reported.result c.reported.ensures.same c.run_planned.ensures.inline

pub returns-in-Err-clause-inline : goal.returns-in-Err-clause-inline
returns-in-Err-clause-inline g c = reported_within _ _ _ c.nothing.result c.reported-in-Err.result c.reported-in-Err.ensures.same (nothing_within _ _ _ _ _ c.nothing.ensures)

pub returns-in-Ok-clause-complete : goal.returns-in-Ok-clause-complete
returns-in-Ok-clause-complete g c = completes EndsAllRun AreKeptRun knows_run g.S.Shelf.state (plan (map string_bytes c.args.words.now)) (plan_view c.in-Ok.plan) _ _ _ _ _ c.run_planned.result c.reported.result
    c.in-Ok.ensures.plan c.in-Ok.ensures.valid.some c.run_planned.ensures.comes c.reported.ensures.same c.reported.ensures.status c.reported.ensures.report

pub returns-in-Err-clause-complete : goal.returns-in-Err-clause-complete
returns-in-Err-clause-complete g c = completes_refused g.S.Shelf.state (plan (map string_bytes c.args.words.now)) c.in-Err.fault _ _ _ _ _ c.nothing.result c.reported-in-Err.result
    c.in-Err.ensures.plan (rw c.word_status.ensures at c.nothing.ensures) c.reported-in-Err.ensures.same c.reported-in-Err.ensures.status

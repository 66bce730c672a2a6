use Rattle.std.specs.Prelude.{map, string_bytes}
use Rattle.options.specs.Words.{plan, plan_view}
use Rattle.remux.specs.Asked.{asked_of}
use Rattle.remux.proofs.Completing.{completes, completes_refused, knows_here}
use Rattle.remux.proofs.Running.{from_calm, runs_ok}
use Rattle.tee.specs.Ends.{EndsAll}
use Rattle.remux.specs.Kept.{AreKept}
use Rattle.remux.proofs.run.run_direct.Goals as goal

pub returns-in-Ok-clause-outcome : goal.returns-in-Ok-clause-outcome
returns-in-Ok-clause-outcome g c = runs_ok EndsAll AreKept g.S.Shelf.state (plan (map string_bytes c.args.words.now)) (plan_view c.in-Ok.plan) _ _ _ c.run_plan.result c.reported.result
    c.in-Ok.ensures.plan c.run_plan.ensures.comes c.reported.ensures.same c.reported.ensures.status

pub reported-requires : goal.reported-requires
reported-requires g c = from_calm EndsAll AreKept g.S.Shelf.state (plan_view c.in-Ok.plan).source (asked_of (plan_view c.in-Ok.plan)) _ _ _ c.run_plan.result c.run_plan.ensures.comes

pub returns-in-Ok-clause-complete : goal.returns-in-Ok-clause-complete
returns-in-Ok-clause-complete g c = completes EndsAll AreKept knows_here g.S.Shelf.state (plan (map string_bytes c.args.words.now)) (plan_view c.in-Ok.plan) _ _ _ _ _ c.run_plan.result c.reported.result
    c.in-Ok.ensures.plan c.in-Ok.ensures.valid.some c.run_plan.ensures.comes c.reported.ensures.same c.reported.ensures.status c.reported.ensures.report

pub returns-in-Err-clause-complete : goal.returns-in-Err-clause-complete
returns-in-Err-clause-complete g c = completes_refused g.S.Shelf.state (plan (map string_bytes c.args.words.now)) c.in-Err.fault _ _ _ _ _ c.nothing.result c.reported-in-Err.result
    c.in-Err.ensures.plan (rw c.word_status.ensures at c.nothing.ensures) c.reported-in-Err.ensures.same c.reported-in-Err.ensures.status

use Rattle.std.proofs.Common.{[], ap, sym, ◌∙◌, ℕ, false}
use Rattle.options.specs.Words.{plan_view}
use Rattle.options.specs.declared.words.Source.TheVariants.{Named}
use Rattle.tee.specs.RunEnds.{EndsAllRun}
use Rattle.remux.specs.Asked.{asked_of, asked_with, pictures_of}
use Rattle.remux.specs.Generated.{generated, telling}
use Rattle.remux.specs.KeptRun.{AreKeptRun}
use Rattle.remux.specs.Making.{state_of}
use Rattle.remux.specs.Threads.{any_threads}
use Rattle.remux.proofs.Directly.{plan_run, threads_seen}
use Rattle.remux.proofs.Inlining.{plan_within}
use Rattle.remux.proofs.Running.{comes_generated, comes_named, made}
use Rattle.remux.proofs.threaded.run_planned.Goals as goal

pub returns-then-not-has_threads-clause-comes : goal.returns-then-not-has_threads-clause-comes
returns-then-not-has_threads-clause-comes g c = plan_run c.no_fault_no_loss.ensures c.ends_meet_accounts.ensures g.S.Shelf.state (plan_view c.args.plan.now).source (asked_of (plan_view c.args.plan.now)) _ _ _ c.run_plan.result
    (threads_seen c.args.plan.now.slaves.items ∙ ap any_threads (sym c.as_slice.ensures) ∙ sym c.has_threads.ensures ∙ c.if-not-has_threads.true) c.run_plan.ensures.comes

pub returns-then-not-has_threads-clause-inline : goal.returns-then-not-has_threads-clause-inline
returns-then-not-has_threads-clause-inline g c = plan_within g.S.Shelf.state (plan_view c.args.plan.now).source (asked_of (plan_view c.args.plan.now)) _ _ _ c.run_plan.result _ _ c.run_plan.ensures.comes

pub returns-in-Named-clause-comes : goal.returns-in-Named-clause-comes
returns-in-Named-clause-comes g c = comes_named EndsAllRun AreKeptRun g.S.Shelf.state (plan_view c.args.plan.now) c.as_str.result.now _ _ _ _
    (c.in-Named.is ∙ ap Named (sym c.as_str.ensures)) c.run_input.ensures.comes

pub returns-in-Generated-clause-comes : goal.returns-in-Generated-clause-comes
returns-in-Generated-clause-comes g c = comes_generated EndsAllRun AreKeptRun g.S.Shelf.state (plan_view c.args.plan.now) c.in-Generated.count _ _ _
    c.in-Generated.is
    (λ now. made EndsAllRun AreKeptRun g.S.Shelf.state (generated (pictures_of c.in-Generated.count)) (asked_with [] (plan_view c.args.plan.now))
    (state_of c.new-made.result) (state_of c.run_input-in-Generated.new.inputs) now c.args.shelves.items c.run_input-in-Generated.result
    (c.new-made.ensures ∙ ap (λ (n : ℕ). telling (generated n) (generated n) false false) c.min.ensures) c.run_input-in-Generated.ensures.sound c.run_input-in-Generated.ensures.comes)

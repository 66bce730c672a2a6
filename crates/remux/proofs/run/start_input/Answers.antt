use Rattle.std.proofs.Common.{inl, refl, ◌∙◌, subst, sym}
use Rattle.options.specs.Words.{plan_view}
use Rattle.remux.specs.Asked.{asked_with}
use Rattle.remux.specs.Outcome.{EndsEarly}
use Rattle.remux.specs.declared.status.Status.{Status}
use Rattle.remux.proofs.Running.{opened, unopened, early_by, untold, finding_within, found_within}
use Rattle.remux.proofs.run.start_input.Goals as goal

pub returns-in-Err-open_input-clause-early : goal.returns-in-Err-open_input-clause-early
returns-in-Err-open_input-clause-early g c = (c.in-Err-open_input.ensures.opened.failed refl, inl (unopened c.args.name.now c.in-Err-open_input.field-0 _ _ c.in-Err-open_input.ensures.opened))

pub find_streams-requires-clause-unknown : goal.find_streams-requires-clause-unknown
find_streams-requires-clause-unknown g c = untold c.in-Ok-new.demux c.in-Ok-new.ensures.open c.in-Ok-new.ensures.dealt

pub returns-in-Ok-find_streams-clause-found : goal.returns-in-Ok-find_streams-clause-found
returns-in-Ok-find_streams-clause-found g c = (
  g.I.Inputs.state c.open_input.new.self,
  opened _ _ _ _ c.in-Ok-open_input.ensures.opened,
  c.in-Ok-find_streams.ensures.count,
  found_within _ _ _ _ _ _ _ _ c.most_bytes.ensures c.in-Ok-find_streams.ensures.finding,
)

pub returns-in-Ok-find_streams-clause-sound : goal.returns-in-Ok-find_streams-clause-sound
returns-in-Ok-find_streams-clause-sound g c = λ h.
    let o = c.in-Ok-open_input.ensures.opened.sound h in
    let f = c.in-Ok-find_streams.ensures.sound o.2 in
    (f.0 ∙ o.1, f.1)

pub returns-in-Err-find_streams-clause-early : goal.returns-in-Err-find_streams-clause-early
returns-in-Err-find_streams-clause-early g c = subst (λ (s : Status). EndsEarly s (asked_with c.args.name.now (plan_view c.args.plan.now)) (g.I.Inputs.state c.args.inputs.now) (g.I.Inputs.state c.find_streams.new.inputs)) (sym c.refused.ensures) (early_by c.in-Err-find_streams.unfound c.args.name.now (plan_view c.args.plan.now) _ (g.I.Inputs.state c.open_input.new.self) _ _ _ _ (opened _ _ _ _ c.in-Ok-open_input.ensures.opened)
    (finding_within _ _ _ _ _ _ _ _ c.most_bytes.ensures c.in-Err-find_streams.ensures.finding))

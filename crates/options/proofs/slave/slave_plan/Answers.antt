use Rattle.std.proofs.Common.{rules, sym, ap, subst, ◌∙◌, Result}
use Rattle.std.specs.Str.{chars, IsUtf8}
use Rattle.std.proofs.lemmas.Str.{encodes-chars}
use Rattle.options.specs.declared.fault.WordKind.{WordKind}
use Rattle.options.specs.Read.{Gives}
use Rattle.options.specs.Draft.{view as draft_view}
use Rattle.options.specs.Slave.{Slave, view, finished, plan_slave}
use Rattle.options.proofs.Binds.{bind_is}
use Rattle.options.proofs.slave.slave_plan.Goals as goal

pub returns : goal.returns
unfolding plan_slave
returns c =
    let d = draft_view c.in_ok-draft.draft in
    let name = c.in_ok-draft.name.now in
    let u : IsUtf8 name = search rules in
    subst (λ (r : Result Slave WordKind). Gives view c.finish.result r) (sym (bind_is _ (d, chars name) _ c.in_ok-draft.ensures ∙ ap (finished d) (encodes-chars name u))) c.finish.ensures

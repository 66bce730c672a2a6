use Rattle.std.proofs.Common.{◌≢◌, ◌+◌, List, length, take, sym, ◌∙◌, subst, arith}
use Rattle.std.specs.List.{AllZip}
use Rattle.std.specs.Option.{option_map}
use Rattle.options.specs.Slave.{view}
use Rattle.options.specs.Valid.{IsValid}
use Rattle.options.specs.declared.slave.SlavePlan.{SlavePlan}
use Rattle.tee.specs.Choice.{chosen_streams}
use Rattle.tee.specs.Draft.{IsDraft}
use Rattle.tee.specs.declared.draft.Draft.{Draft}
use Rattle.tee.proofs.Opening.{all_map, next_taken, zip_map}
use Rattle.tee.proofs.Slots.{zip_all, zip_next}
use Rattle.tee.proofs.making.drafts_of.Goals as goal

pub new-requires-clause-valid : goal.new-requires-clause-valid
new-requires-clause-valid c =
    let x = c.index-slaves-number.result in
    subst (λ (plan : SlavePlan). IsValid (view plan)) (sym c.index-slaves-number.is) (all_map IsValid view c.args.slaves.now c.loop-number.number x c.requires.valid (omega arith))

pub loop-number-preserved : goal.loop-number-preserved
loop-number-preserved c =
    let at = c.loop-number in
    let x = c.index-slaves-number.result in
    let infos = c.args.infos.now in
    let script = option_map (λ body. body.now) c.args.script in
    record {
      made = subst (λ (ds : List Draft). AllZip (λ plan draft. IsDraft infos script (view plan) draft) (take (at.number + 1) c.args.slaves.now) ds) (sym c.in-Ok.ensures.items)
          (zip_next (λ plan draft. IsDraft infos script (view plan) draft) c.args.slaves.now at.drafts.items at.number x c.in_ok-draft.draft (omega arith) c.index-slaves-number.is at.invariant.made c.in_ok-draft.ensures.made);
      left = sym (next_taken view infos c.args.slaves.now at.number x (omega arith)
          (subst (λ (plan : SlavePlan). length (chosen_streams (view plan) infos) ≢ 0) c.index-slaves-number.is c.in_ok-draft.ensures.taken)) ∙ at.invariant.left;
    }

pub returns-clause-made : goal.returns-clause-made
returns-clause-made c =
    let at = c.loop-number in
    let infos = c.args.infos.now in
    let script = option_map (λ body. body.now) c.args.script in
    zip_map (IsDraft infos script) view c.args.slaves.now at.drafts.items
    (zip_all (λ plan draft. IsDraft infos script (view plan) draft) c.args.slaves.now at.drafts.items at.number (omega arith) at.invariant.made)

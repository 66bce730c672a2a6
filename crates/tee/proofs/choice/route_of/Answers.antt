use Rattle.std.proofs.Common.{◌≡◌, ◌≤◌, sym, ◌∙◌, subst, length, false, List}
use Rattle.std.specs.List.{list_any}
use Rattle.bsf_chain.specs.declared.filter.Filter.{Filter}
use Rattle.options.specs.declared.select.Spec.{Spec}
use Rattle.options.specs.Filters.{filters_for, selects}
use Rattle.tee.proofs.Choices.{kind_taken, none_for, short_for}
use Rattle.tee.proofs.choice.route_of.Goals as goal

pub returns-then-not-is_filtered : goal.returns-then-not-is_filtered
returns-then-not-is_filtered c = λ streams e. (
  c.args.kind,
  kind_taken _ c.args.kind (sym c.is_taken.ensures ∙ c.if-not-is_taken.false) e,
  none_for c.args.plan.now.chains.items c.args.number c.args.kind
      (subst (λ (chains : List (Spec × List Filter)). list_any (λ chain. selects chain.0 c.args.number c.args.kind) chains ≡ false) c.as_slice-chains.ensures
      (sym c.is_filtered.ensures ∙ c.if-not-is_filtered.true)),
)

pub unreachable-requires : goal.unreachable-requires
unreachable-requires c = c.in-None.ensures
    (subst (λ (chains : List (Spec × List Filter)). length (filters_for chains c.args.number c.args.kind) ≤ 16) (sym c.as_slice-chains.ensures)
    (short_for c.args.plan.now.chains.items c.args.number c.args.kind c.requires.short c.requires.number))

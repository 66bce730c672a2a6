use Rattle.std.proofs.Common.{arith, sym, ◌∙◌, subst, refl}
use Rattle.options.specs.Words.{Placed, Planned, GivesAt, plan_view, said_view}
use Rattle.options.proofs.WordLemmas.{option_preserved, target_step}
use Rattle.options.proofs.words.plan_words.Goals as goal

pub loop-word-preserved : goal.loop-word-preserved
loop-word-preserved c =
    let e = c.in-Some.ensures.cases in
    let f = c.in-Some-split_first.ensures.cases in
    let i = c.loop-word.invariant in (
      omega (arith, e.1, f.1, i.0),
      option_preserved c.loop-word.at _ _ _ _ _ _ _ _ _ _ _ e.0 f.0 c.deref.ensures c.deref-in-Some-word_option_of.ensures c.in-Some-word_option_of.ensures c.in_ok-said-in-Some-word_option_of.ensures i.1,
    )

pub returns-in-None : goal.returns-in-None
returns-in-None c =
    subst (λ (r : Placed Planned). GivesAt plan_view c.target_at.result r)
    (sym (target_step c.loop-word.at _ (said_view c.loop-word.said) c.loop-word.rest.now _ _ _ _ _ _ c.in-Some.ensures.cases.0 c.deref.ensures c.deref-in-None.ensures c.deref-in-None-2.ensures c.in-None.ensures c.begins_with_dash.ensures c.if-begins_with_dash.false refl) ∙ c.loop-word.invariant.1)
    c.target_at.ensures

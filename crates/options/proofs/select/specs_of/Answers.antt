use Rattle.std.proofs.Common.{rules, sym, ◌∙◌}
use Rattle.options.proofs.Commas.{more_parts, last_part, bad}
use Rattle.options.proofs.select.specs_of.Goals as goal

pub returns-in_default : goal.returns-in_default
returns-in_default c =
    sym c.loop-spec.invariant.1 ∙ bad c.loop-spec.found.items c.loop-spec.rest.now c.split_at_comma.result.0.now c.split_at_comma.result.1 c.split_at_comma.ensures.parts c.in_default.ensures

pub returns-in_default-behind : goal.returns-in_default-behind
returns-in_default-behind c =
    let parts = rw c.in_default-behind.is at c.split_at_comma.ensures.parts in
    sym c.loop-spec.invariant.1 ∙ last_part c.loop-spec.found.items _ _ c.loop-spec.rest.now c.split_at_comma.result.0.now parts c.in-Some.ensures c.in_ok-push.ensures.items

pub loop-spec-preserved : goal.loop-spec-preserved
loop-spec-preserved c =
    let parts = rw c.in-Some-behind.is at c.split_at_comma.ensures.parts in
    (search rules, more_parts c.loop-spec.found.items _ _ c.loop-spec.rest.now c.split_at_comma.result.0.now c.in-Some-behind.behind.now parts c.in-Some.ensures c.in_ok-push.ensures.items ∙ c.loop-spec.invariant.1)

pub loop-spec-smaller : goal.loop-spec-smaller
loop-spec-smaller c = let shorter = rw c.in-Some-behind.is at c.split_at_comma.ensures.shorter in shorter

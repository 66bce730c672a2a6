use Rattle.std.proofs.Common.{sym, ◌∙◌, ◌≡◌, true, false}
use Rattle.slave.proofs.Lists.{same_ends, pushed_push, expand_join, ordered_push, ordered_join}
use Rattle.slave.proofs.runs.add_fate.Goals as goal

pub returns-then-joins-clause-fates : goal.returns-then-joins-clause-fates
returns-then-joins-clause-fates c = λ order.
    let j = c.joins.ensures.yes c.if-joins.true in
    let k = c.last.ensures.some _ c.in-Some.is in
    let same = same_ends k.0 j.0 _ j.1 (sym k.1 ∙ j.2) in
    expand_join _ _ j.0 j.1 _ _ j.2 j.3 j.4 order (rw same.1 at (c.replace_last.ensures.items j.0 j.1 j.2))

pub returns-then-joins-clause-order : goal.returns-then-joins-clause-order
returns-then-joins-clause-order c = λ order.
    let j = c.joins.ensures.yes c.if-joins.true in
    let k = c.last.ensures.some _ c.in-Some.is in
    let same = same_ends k.0 j.0 _ j.1 (sym k.1 ∙ j.2) in
    ordered_join _ _ j.0 j.1 _ _ j.2 j.3 order (rw same.1 at (c.replace_last.ensures.items j.0 j.1 j.2))

pub returns-else-joins-clause-fates : goal.returns-else-joins-clause-fates
returns-else-joins-clause-fates c = λ order.
    let k = c.last.ensures.some _ c.in-Some.is in
    rw c.push.ensures.items (pushed_push c.args.runs.now.items k.0 _ c.args.index c.args.fate k.1 order (λ j. (let t : true ≡ false = sym (c.joins.ensures.no j) ∙ c.if-joins.false in cc t)))

pub returns-else-joins-clause-order : goal.returns-else-joins-clause-order
returns-else-joins-clause-order c = λ order.
    ordered_push _ _ _ _ c.push.ensures.items (λ j. (let t : true ≡ false = sym (c.joins.ensures.no j) ∙ c.if-joins.false in cc t)) order

use Rattle.std.proofs.Common.{rules, lit<, Some, None, ◌∙◌}
use Rattle.std.proofs.lemmas.Str.Pattern.{split_parts}
use Rattle.playlist.proofs.Quotes.{next, shorter, last}
use Rattle.playlist.proofs.line.push_doubled.Goals as goal

pub loop-front-preserved : goal.loop-front-preserved
loop-front-preserved c =
    let parts = split_parts 34 c.loop-front.rest.now (Some (c.in-Some.front, c.in-Some.behind)) c.in-Some.ensures.cases (lit< tt) in (
      search rules,
      next _ _ _ _ _ _ parts.0 parts.1 c.push_str.ensures.bytes c.push_str-in-Some.ensures.bytes ∙ c.loop-front.invariant.1,
      shorter _ _ _ _ _ _ _ parts.0 c.push_str.ensures.bytes c.push_str-in-Some.ensures.bytes c.loop-front.invariant.2,
    )

pub returns-clause-bytes : goal.returns-clause-bytes
returns-clause-bytes c =
    last _ _ _ _ (split_parts 34 c.loop-front.rest.now None c.in_default.ensures.cases (lit< tt)) c.push_str-2.ensures.bytes c.loop-front.invariant.1

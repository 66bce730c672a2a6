use Rattle.std.proofs.Common.{lit<, Some, None}
use Rattle.std.proofs.lemmas.Str.Pattern.{split_parts, split_once_first}
use Rattle.options.proofs.Commas.{cut, whole}
use Rattle.options.proofs.select.split_at_comma.Goals as goal

pub returns-in-Some-clause-parts : goal.returns-in-Some-clause-parts
returns-in-Some-clause-parts c =
    let s = split_once_first 44 c.args.text.now (Some (c.in-Some.front, c.in-Some.behind)) c.in-Some.ensures.cases (lit< tt) in
    cut c.args.text.now c.in-Some.front.now c.in-Some.behind.now s.0 s.1 s.2

pub returns-in-None-clause-parts : goal.returns-in-None-clause-parts
returns-in-None-clause-parts c =
    whole c.args.text.now (split_parts 44 c.args.text.now None c.in-None.ensures.cases (lit< tt))

use Rattle.std.proofs.Common.{◌∙◌, ap, arith, drop}
use Rattle.std.proofs.lemmas.Int.{ints}
use Rattle.std.proofs.lemmas.List.{drop-take}
use Rattle.flv_tags.proofs.AheadLemmas.{same_tag}
use Rattle.flv_tags.proofs.front.take_tag.Goals as goal

pub returns-clause-ok : goal.returns-clause-ok
returns-clause-ok c = (
  same_tag c.args.head _ c.advance.new.self _ (omega (arith, ints)) (c.advance.ensures ∙ ap (drop 15) c.in_ok-body.ensures.front ∙ drop-take 15 c.args.head.size c.args.text.now.items),
  c.in_ok-body.ensures.rest.0,
)

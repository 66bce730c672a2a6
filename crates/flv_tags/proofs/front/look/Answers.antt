use Rattle.flv_tags.proofs.AheadLemmas.{ahead_of}
use Rattle.flv_tags.proofs.front.look.Goals as goal

pub returns : goal.returns
returns c = ahead_of c.look_at_tag.result c.args.text.now c.if-text-lt4.false c.look_at_tag.ensures

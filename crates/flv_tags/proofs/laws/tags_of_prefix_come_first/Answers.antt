use Rattle.flv_tags.proofs.Grow.{tags_grow}
use Rattle.flv_tags.proofs.laws.tags_of_prefix_come_first.Goals as goal

pub returns : goal.returns
returns c = tags_grow

use Rattle.flv_tags.proofs.Walk.{reading_of_tags-step}
use Rattle.flv_tags.proofs.laws.tags_are_read_in_order.Goals as goal

pub returns : goal.returns
returns c = reading_of_tags-step

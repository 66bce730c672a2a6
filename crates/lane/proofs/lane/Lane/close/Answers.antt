use Rattle.std.proofs.Common.{rules, refl, ap, ◌∙◌}
use Rattle.lane.proofs.Known.{stores_closed}
use Rattle.lane.proofs.lane.Lane.close.Goals as goal

pub store-requires : goal.store-requires
store-requires c = (search rules, search rules, stores_closed _ _ _ _ _ _ _ _ c.giver.invariant.seated refl refl (ap (λ e. e.closed) c.giver.view_is ∙ c.requires.open))

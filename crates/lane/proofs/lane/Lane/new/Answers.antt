use Rattle.std.proofs.Common.{rules, ap}
use Rattle.lane.proofs.Moves.{starts, splits_at}
use Rattle.lane.proofs.lane.Lane.new.Goals as goal

pub vacant-requires : goal.vacant-requires
vacant-requires c = starts _ _ _ _ (search rules)

pub split_seat-other-requires : goal.split_seat-other-requires
split_seat-other-requires c = (search rules, search rules, splits_at _ _ _ _ _ _ (ap (λ m. m.0) c.in-Ok.ensures.4))

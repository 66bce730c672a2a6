use Rattle.std.proofs.Common.{arith, sym, ap, ◌∙◌, ◌+◌}
use Rattle.std.specs.Prelude.{sum_by}
use Rattle.std.proofs.lemmas.List.Sums.{sum_by-cons}
use Rattle.lane_core.specs.Size.{size_of}
use Rattle.lane_core.proofs.Sizes.{small_rest}
use Rattle.lane_core.proofs.Histories.{next_waits}
use Rattle.lane_core.specs.Shown.{bounds_of}
use Rattle.lane_core.proofs.Does.{did_take}
use Rattle.lane_core.proofs.state.LaneState.take.Goals as goal

pub invariant_of-self-clause-small : goal.invariant_of-self-clause-small
invariant_of-self-clause-small c = small_rest _ _ _ c.take_first-held.ensures.items c.args.self.now.small

pub invariant_of-self-clause-summed : goal.invariant_of-self-clause-summed
invariant_of-self-clause-summed c = let s = c.args.self.now in let one = c.from.ensures in let all = ap (sum_by size_of) c.take_first-held.ensures.items ∙ sum_by-cons size_of c.take_first-held.result c.take_first-held.new.self.items in let was = s.summed in omega arith

pub returns-clause-reply : goal.returns-clause-reply
returns-clause-reply c = λ m shows. let x = next_waits m.given m.taken c.take_first-held.result c.take_first-held.new.self.items (sym c.take_first-held.ensures.items ∙ shows.queue) in
    did_take (bounds_of c.args.self.now) m c.take_first-held.result _ x.0 record { queue = x.1; given = shows.given; got = ap (λ z. z + 1) shows.got; over = shows.over; closed = shows.closed; failed = shows.failed }

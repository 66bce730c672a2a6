use Rattle.std.proofs.Common.{rules, refl}
use Rattle.segmenter.specs.Entries.{greatest_pts}
use Rattle.segmenter.proofs.TimelineLemmas.{none_in_range}
use Rattle.segmenter.proofs.timeline.Timeline.new.Goals as goal

pub invariant_of-result : goal.invariant_of-result
invariant_of-result c = record { all_in = none_in_range c.new.result.items c.new.ensures; zero_near = λ x e. cc; top_near = search rules; start_span = search rules }

pub returns : goal.returns
unfolding greatest_pts
returns c = λ s. record { entries = c.new.ensures; start = refl; zero = refl; top = refl }

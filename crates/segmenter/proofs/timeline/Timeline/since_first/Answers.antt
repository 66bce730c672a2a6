use Rattle.std.proofs.Common.{◌∙◌}
use Rattle.segmenter.proofs.NearLemmas.{less_fits, less_is, less_spans, since_some}
use Rattle.segmenter.proofs.timeline.Timeline.since_first.Goals as goal

pub overflow_sub-result : goal.overflow_sub-result
overflow_sub-result c = less_fits c.args.p.now.pts c.in-Some.zero c.requires (c.args.self.now.zero_near c.in-Some.zero c.in-Some.is)

pub returns-in-Some-clause-value : goal.returns-in-Some-clause-value
returns-in-Some-clause-value c =
    less_is c.args.p.now.pts c.in-Some.zero c.requires (c.args.self.now.zero_near c.in-Some.zero c.in-Some.is) ∙ since_some c.args.self.now.zero c.in-Some.zero c.args.p.now.pts c.in-Some.is

pub returns-in-Some-clause-span : goal.returns-in-Some-clause-span
returns-in-Some-clause-span c = less_spans c.args.p.now.pts c.in-Some.zero c.requires (c.args.self.now.zero_near c.in-Some.zero c.in-Some.is)

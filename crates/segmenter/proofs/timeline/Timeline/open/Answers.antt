use Rattle.std.proofs.Common.{◌∙◌}
use Rattle.segmenter.proofs.timeline.Timeline.open.Goals as goal

pub returns-in-Ok-clause-shows : goal.returns-in-Ok-clause-shows
returns-in-Ok-clause-shows c = λ s. let h = c.new-timeline.ensures s in record {
  entries = c.in-Ok.ensures.entries ∙ h.entries;
  start = c.in-Ok.ensures.kept.start ∙ h.start;
  zero = c.in-Ok.ensures.kept.zero ∙ h.zero;
  top = c.in-Ok.ensures.kept.top ∙ h.top;
}

use Rattle.std.proofs.Common.{◌∙◌}
use Rattle.slave.proofs.mux.Mux.new.Goals as goal

pub returns-in-Segment-clause-of : goal.returns-in-Segment-clause-of
returns-in-Segment-clause-of c = λ out name format seg streams. c.segments.ensures.of out name (format ∙ c.in-Segment.is) seg streams

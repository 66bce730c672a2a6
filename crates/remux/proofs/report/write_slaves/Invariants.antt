use Rattle.std.proofs.Common.{◌<◌, ◌≤◌}
use Rattle.std.specs.Prelude.{drop}
use Rattle.rmx_edge.specs.Count.{most}
use Rattle.rmx_edge.specs.Sink.{SinkState, Puts}
use Rattle.remux.specs.Report.{slave_lines}
use Rattle.remux.proofs.Putting.{Answer}
use Rattle.remux.proofs.report.write_slaves.Given as goal

abbrev pub invariant-loop-k : goal.invariant-loop-k
invariant-loop-k g l =
    ((r : Answer) (new : SinkState) → Puts (slave_lines l.k (drop l.k l.ends)) r (g.O.Sink.state l.out) new → Puts (slave_lines 0 l.ends) r (g.O.Sink.state l.initial.out) new)
    × (0 < l.k → (g.O.Sink.state l.out).faults ≤ most)

use Rattle.std.proofs.Common.{◌≤◌}
use Rattle.remux.specs.Finding.{Seeks}
use Rattle.remux.specs.Took.{StaysSound}
use Rattle.remux.proofs.probe.find_streams.Given as goal

abbrev pub invariant-loop : goal.invariant-loop
invariant-loop g l = record {
  faults : (g.I.Inputs.state l.initial.inputs).faults ≤ (g.I.Inputs.state l.inputs).faults;
  sound : StaysSound (g.I.Inputs.state l.initial.inputs) (g.I.Inputs.state l.inputs);
  seeks : Seeks l.limit l.progress.left l.progress.reached (g.I.Inputs.state l.initial.inputs) (g.I.Inputs.state l.inputs) (g.D.Demux.ended l.demux) (g.D.Demux.known l.demux) (g.D.Demux.has l.demux);
}

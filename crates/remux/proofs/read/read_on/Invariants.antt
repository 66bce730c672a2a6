use Rattle.std.specs.Prelude.{◌+◌, ◌<◌, ◌^◌}
use Rattle.std.proofs.Common.{◌≡◌, ℕ, List, length, ◌≤◌, true, false}
use Rattle.flv_demux.specs.declared.deal.Kinds.{Kinds}
use Rattle.remux.specs.Lineup.{Lineup}
use Rattle.remux.specs.Flow.{Flowing}
use Rattle.remux.specs.Reading.{Late}
use Rattle.remux.specs.Took.{StaysSound}
use Rattle.remux.specs.Under.{Under}
use Rattle.remux.proofs.read.read_on.Given as goal

abbrev pub invariant-loop : goal.invariant-loop
invariant-loop g l = record {
  readable : (g.I.Inputs.state l.inputs).readable ≡ true;
  unended : g.D.Demux.ended l.demux ≡ false;
  faults : (g.I.Inputs.state l.initial.inputs).faults ≤ (g.I.Inputs.state l.inputs).faults;
  sound : StaysSound (g.I.Inputs.state l.initial.inputs) (g.I.Inputs.state l.inputs);
  same : (l.line.streams ≡ l.initial.line.streams) × (l.line.delta ≡ l.initial.line.delta);
  some : (s : Kinds) × (b : List ℕ) × (start : Lineup) × Flowing s b (g.D.Demux.known l.demux) (g.D.Demux.has l.demux) l.line (g.T.Outputs.keeps l.outputs start) (g.T.Outputs.dead_at l.outputs) (g.T.Outputs.takes l.outputs) × (length b + l.left < 2 ^ 61);
  all : (s : Kinds) (b : List ℕ) (start : Lineup) → (f : Flowing s b (g.D.Demux.known l.initial.demux) (g.D.Demux.has l.initial.demux) l.initial.line (g.T.Outputs.keeps l.initial.outputs start) (g.T.Outputs.dead_at l.initial.outputs) (g.T.Outputs.takes l.initial.outputs)) → Late b (length f.tags)
      → Under s b l.limit l.left (g.I.Inputs.state l.initial.inputs) (g.I.Inputs.state l.inputs) (g.D.Demux.known l.demux) (g.D.Demux.has l.demux) l.line (g.T.Outputs.keeps l.outputs start) (g.T.Outputs.dead_at l.outputs) (g.T.Outputs.takes l.outputs);
}

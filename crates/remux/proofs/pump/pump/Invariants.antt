use Rattle.std.specs.Prelude.{◌<◌, ◌^◌}
use Rattle.std.proofs.Common.{◌≡◌, ℕ, List, length, ◌≤◌}
use Rattle.flv_demux.specs.declared.deal.Kinds.{Kinds}
use Rattle.remux.specs.Lineup.{Lineup}
use Rattle.remux.specs.Flow.{Flowing}
use Rattle.remux.proofs.pump.pump.Given as goal

abbrev pub invariant-packets : goal.invariant-packets
invariant-packets g l = record {
  some : (s : Kinds) × (b : List ℕ) × (start : Lineup) × Flowing s b (g.D.Demux.known l.demux) (g.D.Demux.has l.demux) l.line (g.T.Outputs.keeps l.outputs start) (g.T.Outputs.dead_at l.outputs) (g.T.Outputs.takes l.outputs) × (length b < 2 ^ 61);
  all : (s : Kinds) (b : List ℕ) (start : Lineup) → (f0 : Flowing s b (g.D.Demux.known l.initial.demux) (g.D.Demux.has l.initial.demux) l.initial.line (g.T.Outputs.keeps l.initial.outputs start) (g.T.Outputs.dead_at l.initial.outputs) (g.T.Outputs.takes l.initial.outputs))
      → (f : Flowing s b (g.D.Demux.known l.demux) (g.D.Demux.has l.demux) l.line (g.T.Outputs.keeps l.outputs start) (g.T.Outputs.dead_at l.outputs) (g.T.Outputs.takes l.outputs)) × (length f0.tags ≤ length f.tags);
  same : (l.line.streams ≡ l.initial.line.streams) × (l.line.delta ≡ l.initial.line.delta);
  ended : g.D.Demux.ended l.demux ≡ g.D.Demux.ended l.initial.demux;
}

abbrev pub decreases-packets : goal.decreases-packets
decreases-packets g l = g.D.Demux.left l.demux

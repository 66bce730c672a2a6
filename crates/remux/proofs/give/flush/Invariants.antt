use Rattle.std.proofs.Common.{◌≡◌, List, length, true, ◌+◌, ◌<◌}
use Rattle.std.specs.Prelude.{◌^◌}
use Rattle.rmx_media.specs.declared.packet.Packet.{Packet}
use Rattle.remux.specs.Lineup.{Lineup}
use Rattle.remux.specs.Fit.{Each}
use Rattle.remux.proofs.Flushing.{Flushing}
use Rattle.remux.proofs.give.flush.Given as goal

abbrev pub invariant-loop-p : goal.invariant-loop-p
invariant-loop-p g l = record {
  finished : l.line.finished ≡ true;
  same : (l.line.streams ≡ l.initial.line.streams) × (l.line.delta ≡ l.initial.line.delta);
  ready : (start : Lineup) × (given : List Packet) × g.T.Outputs.keeps l.outputs start given × (length given + length l.line.pending < 2 ^ 61);
  taken : Each (g.T.Outputs.takes l.outputs) l.line.pending;
  flushing : (start : Lineup) → Flushing l.initial.line.pending l.line.pending (g.T.Outputs.keeps l.initial.outputs start) (g.T.Outputs.keeps l.outputs start) (g.T.Outputs.dead_at l.initial.outputs) (g.T.Outputs.dead_at l.outputs);
}

abbrev pub decreases-loop-p : goal.decreases-loop-p
decreases-loop-p g l = length l.line.pending

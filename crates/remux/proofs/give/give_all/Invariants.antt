use Rattle.std.proofs.Common.{List, length, ◌+◌, ◌<◌}
use Rattle.std.specs.Prelude.{◌^◌}
use Rattle.rmx_media.specs.declared.packet.Packet.{Packet}
use Rattle.remux.specs.Lineup.{Lineup}
use Rattle.remux.specs.Fit.{Each}
use Rattle.remux.proofs.Giving.{Given}
use Rattle.remux.proofs.give.give_all.Given as goal

abbrev pub invariant-loop-p : goal.invariant-loop-p
invariant-loop-p g l = record {
  given : (start : Lineup) → Given l.initial.line l.line (g.T.Outputs.keeps l.initial.outputs start) (g.T.Outputs.keeps l.outputs start) (g.T.Outputs.dead_at l.initial.outputs) (g.T.Outputs.dead_at l.outputs);
  takes : (q : Packet) → g.T.Outputs.takes l.initial.outputs q → g.T.Outputs.takes l.outputs q;
  ready : (start : Lineup) × (given : List Packet) × g.T.Outputs.keeps l.outputs start given × (length given + length l.line.pending < 2 ^ 61);
  taken : Each (g.T.Outputs.takes l.outputs) l.line.pending;
}

abbrev pub decreases-loop-p : goal.decreases-loop-p
decreases-loop-p g l = length l.line.pending

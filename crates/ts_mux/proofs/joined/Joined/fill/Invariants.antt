use Rattle.std.proofs.Common.{length, ◌-◌, ◌≡◌, ◌≤◌, take, drop, ◌++◌}
use Rattle.ts_mux.proofs.joined.Joined.fill.Given as goal

abbrev pub invariant-loop-at : goal.invariant-loop-at
invariant-loop-at g l = record {
  within : l.at ≤ length l.out;
  filled : take l.at l.out ≡ take l.at (l.fn.self.current.now ++ g.P.Source.left l.fn.self.pieces);
  rest : l.self.current.now ++ g.P.Source.left l.self.pieces ≡ drop l.at (l.fn.self.current.now ++ g.P.Source.left l.fn.self.pieces);
}

abbrev pub decreases-loop-at : goal.decreases-loop-at
decreases-loop-at g l = length l.initial.out - l.at

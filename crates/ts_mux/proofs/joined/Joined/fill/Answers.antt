use Rattle.std.proofs.Common.{ℕ, ◌+◌, ◌≤◌, List, ◌++◌, length, arith}
use Rattle.ts_mux.proofs.JoinedLemmas.{fill_more, rest_more}
use Rattle.ts_mux.proofs.joined.Joined.fill.Goals as goal

pub loop-at-preserved : goal.loop-at-preserved
loop-at-preserved g c =
    let all : List ℕ = c.args.self.now.current.now ++ g.P.Source.left c.args.self.now.pieces in
    let left : List ℕ = c.loop-at.self.current.now ++ g.P.Source.left c.loop-at.self.pieces in
    let within : c.loop-at.at + c.copy_next-at.result ≤ length c.loop-at.out = c.copy_next-at.ensures.within in
    let size : c.loop-at.at + c.copy_next-at.result ≤ length all = omega (arith, c.requires, c.loop-at.auto.out) in
    record {
      within = omega (arith, c.copy_next-at.auto.out);
      filled = fill_more all left c.loop-at.out c.copy_next-at.new.out c.loop-at.at c.copy_next-at.result c.loop-at.invariant.rest within size
          c.loop-at.invariant.filled c.copy_next-at.ensures.copied;
      rest = rest_more all left _ c.loop-at.at c.copy_next-at.result c.loop-at.invariant.rest c.copy_next-at.ensures.rest;
    }

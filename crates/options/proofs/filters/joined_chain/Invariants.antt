use Rattle.std.proofs.Common.{◌≡◌, ◌≤◌, ◌++◌, drop, length}
use Rattle.options.specs.Filters.{filters_for}
use Rattle.options.proofs.filters.joined_chain.Given as goal

abbrev pub invariant-loop-chain : goal.invariant-loop-chain
invariant-loop-chain l = record {
  short : length l.joined ≤ 16;
  whole : l.joined ++ filters_for (drop l.chain-index l.chains) l.number l.kind ≡ filters_for l.chains l.number l.kind;
}

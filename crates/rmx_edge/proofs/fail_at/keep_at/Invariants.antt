use Rattle.std.proofs.Common.{◌≡◌, drop}
use Rattle.rmx_edge.specs.FailAt.{keep_of}
use Rattle.rmx_edge.proofs.fail_at.keep_at.Given as goal

abbrev pub invariant-loop-fail : goal.invariant-loop-fail
invariant-loop-fail l = keep_of (drop l.fail-index l.fails) l.call ≡ keep_of l.fails l.call

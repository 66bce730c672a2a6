use Rattle.std.proofs.Common.{◌≡◌, ◌++◌}
use Rattle.std.specs.Prelude.{replicate}
use Rattle.playlist.proofs.template.push_filled.Given as goal

abbrev pub invariant-loop : goal.invariant-loop
invariant-loop l = l.out.bytes ≡ l.fn.out.bytes ++ replicate l.counter 48

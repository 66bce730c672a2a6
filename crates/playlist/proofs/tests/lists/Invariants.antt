use Rattle.std.proofs.Common.{All}
use Rattle.playlist.specs.List.{IsInRange}
use Rattle.playlist.proofs.tests.lists.Given as goal

abbrev pub invariant-loop-kind : goal.invariant-loop-kind
invariant-loop-kind g l = All IsInRange l.entries

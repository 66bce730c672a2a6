use Rattle.std.proofs.Common.{length}
use Rattle.tee.proofs.run_ending.+finish_each.Given as goal

abbrev pub decreases-finish_each : goal.decreases-finish_each
decreases-finish_each g l = length l.outlets.items

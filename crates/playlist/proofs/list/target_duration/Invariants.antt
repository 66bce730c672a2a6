use Rattle.std.proofs.Common.{◌≡◌, take}
use Rattle.playlist.specs.List.{target_duration}
use Rattle.playlist.proofs.list.target_duration.Given as goal

abbrev pub invariant-loop-entry : goal.invariant-loop-entry
invariant-loop-entry l = l.target ≡ target_duration (take l.entry-index l.entries)

use Rattle.std.proofs.Common.{◌≡◌, ◌++◌, drop}
use Rattle.std.specs.List.{filter}
use Rattle.options.specs.Slave.{view}
use Rattle.tee.specs.Choice.{chosen_streams, is_chosen, numbered_from}
use Rattle.tee.proofs.choice.streams_of.Given as goal

abbrev pub invariant-loop-number : goal.invariant-loop-number
invariant-loop-number l = l.streams.items ++ filter (is_chosen (view l.plan)) (numbered_from l.number (drop l.number l.infos)) ≡ chosen_streams (view l.plan) l.infos

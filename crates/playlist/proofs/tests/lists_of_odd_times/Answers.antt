use Rattle.std.proofs.Common.{[], ◌∷◌}
use Rattle.playlist.proofs.Lists.{none_in_range, one_more_in_range}
use Rattle.playlist.proofs.tests.lists_of_odd_times.Goals as goal

pub written-requires-clause-times : goal.written-requires-clause-times
written-requires-clause-times g c = one_more_in_range c.entry.result [] c.entry.ensures none_in_range

pub written-requires-2-clause-times : goal.written-requires-2-clause-times
written-requires-2-clause-times g c =
    one_more_in_range c.entry-2.result (c.entry-3.result ∷ []) c.entry-2.ensures (one_more_in_range c.entry-3.result [] c.entry-3.ensures none_in_range)

pub written-requires-3-clause-times : goal.written-requires-3-clause-times
written-requires-3-clause-times g c =
    one_more_in_range c.entry-2.result (c.entry-3.result ∷ []) c.entry-2.ensures (one_more_in_range c.entry-3.result [] c.entry-3.ensures none_in_range)

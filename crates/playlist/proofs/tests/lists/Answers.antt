use Rattle.std.proofs.Common.{[], ◌∷◌}
use Rattle.playlist.proofs.Lists.{none_in_range, one_more_in_range}
use Rattle.playlist.proofs.tests.lists.Goals as goal

pub loop-kind-init : goal.loop-kind-init
loop-kind-init g c =
    one_more_in_range c.entry.result (c.entry-2.result ∷ c.entry-3.result ∷ c.entry-4.result ∷ []) c.entry.ensures
    (one_more_in_range c.entry-2.result (c.entry-3.result ∷ c.entry-4.result ∷ []) c.entry-2.ensures
    (one_more_in_range c.entry-3.result (c.entry-4.result ∷ []) c.entry-3.ensures
    (one_more_in_range c.entry-4.result [] c.entry-4.ensures none_in_range)))

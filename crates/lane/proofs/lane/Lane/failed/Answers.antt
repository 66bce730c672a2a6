use Rattle.std.proofs.Common.{rules, ap, ◌∙◌}
use Rattle.std.proofs.lemmas.Bool.{eq-eqb}
use Rattle.lane.proofs.Known.{loads_failed, told_again}
use Rattle.lane.proofs.lane.Lane.failed.Goals as goal

pub load-found-requires : goal.load-found-requires
load-found-requires c = (search rules, search rules, loads_failed _ _ _ _ _ _ _ _ c.giver.invariant.seated)

pub returns-clause-again : goal.returns-clause-again
returns-clause-again c = λ v e. eq-eqb c.load-found.result 1 (told_again c.self.inside.table.shared.table_id.slots _ _ _ _ _ c.giver.invariant.seated c.load-found.ensures.2 v (ap (λ z. z.told) c.giver.view_is ∙ e))

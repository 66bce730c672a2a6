use Rattle.std.proofs.Common.{◌∙◌, sym, ap}
use Rattle.flv_demux.specs.Deal.{outcome_by}
use Rattle.flv_demux.proofs.desk.outcome_of.Goals as goal

pub returns-in-Configures-clause-value : goal.returns-in-Configures-clause-value
returns-in-Configures-clause-value c =
    c.config_outcome_of.ensures.value c.args.tag.now.stamp
    ∙ ap (outcome_by c.args.kinds c.args.desk.now c.args.tag.now.stamp) (sym c.in-Configures.is ∙ c.in_ok-reason.ensures.value)

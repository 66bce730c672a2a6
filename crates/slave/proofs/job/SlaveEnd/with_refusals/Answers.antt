use Rattle.std.proofs.Common.{refl}
use Rattle.slave.proofs.LaneMet.{adds_entered, adds_none, entered_met, short_met}
use Rattle.slave.proofs.job.SlaveEnd.with_refusals.Goals as goal

pub returns-in-Ok-clause-adds : goal.returns-in-Ok-clause-adds
returns-in-Ok-clause-adds g c = adds_entered _ _ _ refl refl refl refl refl refl refl c.in-Ok.ensures.ok

pub returns-in-Ok-clause-accounts : goal.returns-in-Ok-clause-accounts
returns-in-Ok-clause-accounts g c = λ out o L T numbers k d.
    entered_met k d _ (adds_entered _ _ _ refl refl refl refl refl refl refl c.in-Ok.ensures.ok) c.in-Ok.ensures.ok

pub returns-clause-accounts : goal.returns-clause-accounts
returns-clause-accounts g c = λ out o L T numbers k d.
    short_met k d _ (adds_none _ _ _ refl refl refl refl refl refl refl c.in-Err.ensures.err.0 c.in-Err.ensures.err.1) c.in-Err.ensures.err.0

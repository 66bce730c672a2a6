use Rattle.slave.proofs.job.SlaveJob.new.Goals as goal

pub returns-in-Ok-clause-fresh : goal.returns-in-Ok-clause-fresh
returns-in-Ok-clause-fresh g c = c.with_kit.ensures.fresh _ _ _ _ _ c.in-Ok.ensures.prepared

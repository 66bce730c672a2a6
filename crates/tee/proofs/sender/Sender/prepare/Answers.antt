use Rattle.tee.proofs.sender.Sender.prepare.Goals as goal

pub returns-in-Ok-clause-rides : goal.returns-in-Ok-clause-rides
returns-in-Ok-clause-rides c = λ infos given asked seat told r. c.reserve.ensures.rides infos given asked seat told (c.keep.ensures.rides infos given asked seat told r)

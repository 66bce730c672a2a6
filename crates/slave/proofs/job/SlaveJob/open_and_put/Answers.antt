use Rattle.std.proofs.Common.{inl, refl}
use Rattle.slave.specs.Job.{view_of}
use Rattle.slave.proofs.job.SlaveJob.open_and_put.Goals as goal

pub put-requires-clause-fits : goal.put-requires-clause-fits
put-requires-clause-fits g c =
    let r = c.requires.fits in
    let op = c.in-Done.ensures r.0 r.1 in
    (r.0, op.kit, r.2)

pub returns-in-Done : goal.returns-in-Done
returns-in-Done g c = λ out kit takes.
    let op = c.in-Done.ensures out kit in
    inl (view_of g.S.Shelf.state c.open.new.self, op, c.put.ensures out _ _ op.kit (op.writer refl) takes)

use Rattle.std.proofs.Common.{arith}
use Rattle.slave.specs.Given.{sent_from}
use Rattle.slave.specs.Job.{view_of}
use Rattle.slave.proofs.Direct.{keeps_all, grows_direct, sent_end}
use Rattle.slave.proofs.job.SlaveJob.write_direct.Goals as goal

pub write_at-requires-clause-ready : goal.write_at-requires-clause-ready
write_at-requires-clause-ready g c =
    let r = c.requires.ready in
    (r.0, r.1, sent_from 0 r.2, keeps_all r.3, omega (arith, sent_end 0 r.2, r.4), r.5)

pub returns : goal.returns
returns g c = λ out o L k e takes.
    grows_direct L c.args.p.now c.args.index k.history (view_of g.S.Shelf.state c.write_at.new.self) e (c.write_at.ensures out o (sent_from 0 L) (keeps_all k) (omega (arith, sent_end 0 L, e)) takes)

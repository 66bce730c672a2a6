use Rattle.slave.specs.Job.{view_of}
use Rattle.slave.proofs.Begin.{opened}
use Rattle.slave.proofs.job.SlaveJob.open.Goals as goal

pub returns : goal.returns
returns g c = λ h kit.
    opened c.begin-answer.result (view_of g.S.Shelf.state c.args.self.now) (view_of g.S.Shelf.state c.begin-answer.new.self) _ _ (c.begin-answer.ensures h kit)
    (rw (← c.session-number.ensures.number, ← c.is_done.ensures) c.push.ensures.items) c.push.ensures.spare

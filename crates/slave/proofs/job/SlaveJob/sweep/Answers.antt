use Rattle.std.proofs.Common.{refl}
use Rattle.slave.specs.Job.{view_of}
use Rattle.slave.proofs.Turns.{sweep_place, primed_sweeps, with_fifo}
use Rattle.slave.proofs.job.SlaveJob.sweep.Goals as goal

pub settle-requires-clause-place : goal.settle-requires-clause-place
settle-requires-clause-place g c =
    let r = c.requires.ready in
    rw (c.on_flush-fate.ensures.fate r.1 r.3 r.4.shows) (sweep_place (view_of g.S.Shelf.state c.args.self.now) r.4)

pub returns : goal.returns
returns g c = λ out o T h d.
    primed_sweeps (view_of g.S.Shelf.state c.args.self.now) (with_fifo (view_of g.S.Shelf.state c.args.self.now) c.on_flush-fate.new.self) _ c.on_flush-fate.result d (c.on_flush-fate.ensures.fate o h d.shows) (c.on_flush-fate.ensures.turn o h d.shows) c.on_flush-fate.ensures.next
    refl refl refl refl refl refl refl refl c.settle.ensures

use Rattle.std.proofs.Common.{inl, inr, None, refl, ◌∷◌}
use Rattle.fifo_core.specs.State.{Shows}
use Rattle.fifo_core.specs.History.{Want}
use Rattle.slave.specs.Given.{Swept}
use Rattle.slave.specs.Job.{view_of}
use Rattle.slave.proofs.Turns.{roomy, wanting, sweeps_on}
use Rattle.slave.proofs.Room.{swept_gap}
use Rattle.slave.proofs.job.SlaveJob.flush_at.Goals as goal

pub sweep-requires-clause-ready : goal.sweep-requires-clause-ready
sweep-requires-clause-ready g c =
    let r = c.requires.ready in
    let k = r.3.stands in
    let e = c.flushed-expected.ensures r.1 r.3.history k.shows in
    let t = roomy (Swept c.args.index c.args.number) c.flushed-expected.result c.make_room.result (view_of g.S.Shelf.state c.args.self.now) (view_of g.S.Shelf.state c.make_room.new.self) k r.4 c.make_room.ensures c.if-make_room.true in
    (r.0, r.1, r.2, r.3.history, rw e at t)

pub sweep-requires-else-make_room-clause-ready : goal.sweep-requires-else-make_room-clause-ready
sweep-requires-else-make_room-clause-ready g c =
    let r = c.requires.ready in
    let k = r.3.stands in
    let shows : Shows r.1 r.3.history None c.make_room.new.self.fifo = rw c.make_room.ensures.fifo k.shows in (
      r.0,
      r.1,
      r.2,
      Want ∷ r.3.history,
      wanting (Swept c.args.index c.args.number) c.flushed-expected.result _ c.make_room.result (view_of g.S.Shelf.state c.args.self.now) (view_of g.S.Shelf.state c.make_room.new.self) c.on_want.new.self k r.4 c.make_room.ensures
          (c.on_want.ensures.turn r.1 r.3.history None shows) c.on_want.ensures.next (λ n q. absurd (swept_gap r.2 c.args.index c.args.number q)),
    )

pub returns-then-make_room : goal.returns-then-make_room
returns-then-make_room g c = λ out o T d later.
    let k = d.stands in
    let e = c.flushed-expected.ensures o d.history k.shows in
    let t = roomy (Swept c.args.index c.args.number) c.flushed-expected.result c.make_room.result (view_of g.S.Shelf.state c.args.self.now) (view_of g.S.Shelf.state c.make_room.new.self) k later c.make_room.ensures c.if-make_room.true in
    sweeps_on d d.history (inl refl) (c.sweep.ensures out o T d.history (rw e at t))

pub returns-else-make_room : goal.returns-else-make_room
returns-else-make_room g c = λ out o T d later.
    let k = d.stands in
    let shows : Shows o d.history None c.make_room.new.self.fifo = rw c.make_room.ensures.fifo k.shows in
    let t = wanting (Swept c.args.index c.args.number) c.flushed-expected.result _ c.make_room.result (view_of g.S.Shelf.state c.args.self.now) (view_of g.S.Shelf.state c.make_room.new.self) c.on_want.new.self k later c.make_room.ensures
    (c.on_want.ensures.turn o d.history None shows) c.on_want.ensures.next (λ n q. absurd (swept_gap T c.args.index c.args.number q)) in
    sweeps_on d (Want ∷ d.history) (inr refl) (c.sweep-else-make_room.ensures out o T (Want ∷ d.history) t)

use Rattle.std.proofs.Common.{inl, sym, ◌∙◌, arith}
use Rattle.slave.specs.Job.{view_of}
use Rattle.slave.specs.Origin.{facts_of}
use Rattle.slave.proofs.Turns.{settled, again_told, retries, retry_idle, opened_holds, ends_concludes, second_concludes}
use Rattle.slave.proofs.job.SlaveJob.conclude.Goals as goal

pub settle-requires-clause-place : goal.settle-requires-clause-place
settle-requires-clause-place g c =
    let r = c.requires.ready in
    let k = c.tell.ensures r.1 r.3 c.args.index (facts_of r.0 c.args.p.now) r.4.shows in
    inl (omega (arith, k.run_places, r.4.last_place))

pub open_and_put-second-requires-clause-idle : goal.open_and_put-second-requires-clause-idle
open_and_put-second-requires-clause-idle g c =
    let r = c.requires.ready in
    let k = c.tell.ensures r.1 r.3 c.args.index (facts_of r.0 c.args.p.now) r.4.shows in
    retry_idle (view_of g.S.Shelf.state c.tell.new.self) (retries (view_of g.S.Shelf.state c.args.self.now) (view_of g.S.Shelf.state c.tell.new.self) c.tell.result r.4 k c.in-Again.is).1

pub open_and_put-second-requires-clause-note_place : goal.open_and_put-second-requires-clause-note_place
open_and_put-second-requires-clause-note_place g c =
    let r = c.requires.ready in
    let k = c.tell.ensures r.1 r.3 c.args.index (facts_of r.0 c.args.p.now) r.4.shows in
    (retries (view_of g.S.Shelf.state c.args.self.now) (view_of g.S.Shelf.state c.tell.new.self) c.tell.result r.4 k c.in-Again.is).1.session_places

pub open_and_put-second-requires-clause-place : goal.open_and_put-second-requires-clause-place
open_and_put-second-requires-clause-place g c =
    let r = c.requires.ready in
    let k = c.tell.ensures r.1 r.3 c.args.index (facts_of r.0 c.args.p.now) r.4.shows in
    (retries (view_of g.S.Shelf.state c.args.self.now) (view_of g.S.Shelf.state c.tell.new.self) c.tell.result r.4 k c.in-Again.is).1.fault_places

pub finish-requires-clause-ready : goal.finish-requires-clause-ready
finish-requires-clause-ready g c =
    let r = c.requires.ready in
    let k = c.tell.ensures r.1 r.3 c.args.index (facts_of r.0 c.args.p.now) r.4.shows in
    let t = (retries (view_of g.S.Shelf.state c.args.self.now) (view_of g.S.Shelf.state c.tell.new.self) c.tell.result r.4 k c.in-Again.is).1 in
    (r.0, r.1, r.2, _, opened_holds c.open_and_put-second.result (view_of g.S.Shelf.state c.tell.new.self) (view_of g.S.Shelf.state c.open_and_put-second.new.self) t (c.open_and_put-second.ensures r.0 t.kit r.5), t.closed_now)

pub returns-in-Settle : goal.returns-in-Settle
returns-in-Settle g c = λ out o T h d takes.
    let k = c.tell.ensures o h c.args.index (facts_of out c.args.p.now) d.shows in
    ends_concludes (settled (view_of g.S.Shelf.state c.args.self.now) (view_of g.S.Shelf.state c.tell.new.self) _ c.tell.result c.in-Settle.fate d k c.in-Settle.is c.settle.ensures)

pub returns-in-Again : goal.returns-in-Again
returns-in-Again g c = λ out o T h d takes.
    let k = c.tell.ensures o h c.args.index (facts_of out c.args.p.now) d.shows in
    let t = retries (view_of g.S.Shelf.state c.args.self.now) (view_of g.S.Shelf.state c.tell.new.self) c.tell.result d k c.in-Again.is in
    let x = opened_holds c.open_and_put-second.result (view_of g.S.Shelf.state c.tell.new.self) (view_of g.S.Shelf.state c.open_and_put-second.new.self) t.1 (c.open_and_put-second.ensures out t.1.kit takes) in
    second_concludes t.0 k.told k.may (sym k.result ∙ c.in-Again.is) (again_told (view_of g.S.Shelf.state c.args.self.now) (view_of g.S.Shelf.state c.tell.new.self) c.tell.result d k c.in-Again.is) (c.finish.ensures out o T _ x)

pub open_and_put-second-requires-clause-fits : goal.open_and_put-second-requires-clause-fits
open_and_put-second-requires-clause-fits g c =
    let r = c.requires.ready in
    let k = c.tell.ensures r.1 r.3 c.args.index (facts_of r.0 c.args.p.now) r.4.shows in
    (r.0, (retries (view_of g.S.Shelf.state c.args.self.now) (view_of g.S.Shelf.state c.tell.new.self) c.tell.result r.4 k c.in-Again.is).1.kit, r.5)

use Rattle.std.proofs.Common.{inl, arith}
use Rattle.slave.specs.Job.{view_of}
use Rattle.slave.specs.Origin.{facts_of}
use Rattle.slave.proofs.Turns.{settled, no_again}
use Rattle.slave.proofs.job.SlaveJob.finish.Goals as goal

pub settle-requires-clause-place : goal.settle-requires-clause-place
settle-requires-clause-place g c =
    let r = c.requires.ready in
    let k = c.tell.ensures r.1 r.3 c.args.index (facts_of r.0 c.args.p.now) r.4.shows in
    inl (omega (arith, k.run_places, r.4.last_place))

pub unreachable-requires : goal.unreachable-requires
unreachable-requires g c =
    let r = c.requires.ready in
    let k = c.tell.ensures r.1 r.3 c.args.index (facts_of r.0 c.args.p.now) r.4.shows in
    no_again (view_of g.S.Shelf.state c.args.self.now) (view_of g.S.Shelf.state c.tell.new.self) c.tell.result r.4 k r.5 c.in-Again.is

pub returns : goal.returns
returns g c = λ out o T h d.
    let k = c.tell.ensures o h c.args.index (facts_of out c.args.p.now) d.shows in
    settled (view_of g.S.Shelf.state c.args.self.now) (view_of g.S.Shelf.state c.tell.new.self) _ c.tell.result c.in-Settle.fate d k c.in-Settle.is c.settle.ensures

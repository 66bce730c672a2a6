use Rattle.std.proofs.Common.{None, refl, sym, ap, ◌∙◌}
use Rattle.fifo_core.specs.State.{Shows, hand_of}
use Rattle.slave.specs.Job.{view_of}
use Rattle.slave.specs.End.{end_view}
use Rattle.slave.specs.Watched.{inner}
use Rattle.slave.proofs.Finish.{EndTells, live_now, ended_closed, ended_live}
use Rattle.slave.proofs.GivenUp.{dead_shut, dead_unclosed}
use Rattle.slave.proofs.job.SlaveJob.finish_all.Goals as goal

pub end-answer-requires-clause-writing : goal.end-answer-requires-clause-writing
end-answer-requires-clause-writing g c =
    let k = c.requires.3 in
    let n = live_now k c.is_live.result c.if-is_live.true (c.is_live.ensures c.requires.1 k.history None k.stands.shows) in
    k.stands.table.writing n.0 ∙ rw n.1 refl

pub end-answer-requires-clause-place : goal.end-answer-requires-clause-place
end-answer-requires-clause-place g c =
    let k = c.requires.3 in
    let n = live_now k c.is_live.result c.if-is_live.true (c.is_live.ensures c.requires.1 k.history None k.stands.shows) in
    k.stands.places.faults n.0

pub end-answer-requires-clause-kit : goal.end-answer-requires-clause-kit
end-answer-requires-clause-kit g c = (c.requires.0, c.requires.3.stands.kit)

pub returns-then-is_live-clause-ended : goal.returns-then-is_live-clause-ended
returns-then-is_live-clause-ended g c = λ out o T k.
    let b = c.is_live.ensures o k.history None k.stands.shows in
    let n = live_now k c.is_live.result c.if-is_live.true b in
    let last = k.stands.table.last.last in
    let closes = c.end-answer.ensures out last.first last.written k.stands.kit (k.stands.table.last.is_open n.0 n.1).1 in
    let shows : Shows o k.history None c.end-answer.new.self.fifo = rw closes.fifo k.stands.shows in
    let i = c.into_end.ensures in
    let told : EndTells (view_of g.S.Shelf.state c.end-answer.new.self) (end_view g.S.Shelf.state c.into_end.result) = record {
      before = (inner c.end-answer.new.self.shelf).before;
      added = (inner c.end-answer.new.self.shelf).last;
      shelf = rw i.shelf refl;
      bytes = i.bytes;
      fates = i.fates;
      sessions = i.sessions;
      faults = i.faults;
      inline = i.inline;
      lane = i.lane;
    } in
    ended_live (view_of g.S.Shelf.state c.args.self) (view_of g.S.Shelf.state c.end-answer.new.self) (end_view g.S.Shelf.state c.into_end.result) k n.0 n.1 told
    c.end-answer.result closes (i.state ∙ c.on_end-state.ensures.state o k.history shows) (sym b ∙ c.if-is_live.true)

pub returns-else-is_live-clause-ended : goal.returns-else-is_live-clause-ended
returns-else-is_live-clause-ended g c = λ out o T k.
    let b = c.is_live.ensures o k.history None k.stands.shows in
    let i = c.into_end-else-is_live.ensures in
    let told : EndTells (view_of g.S.Shelf.state c.args.self) (end_view g.S.Shelf.state c.into_end-else-is_live.result) = record {
      before = (inner c.args.self.shelf).before;
      added = (inner c.args.self.shelf).last;
      shelf = rw i.shelf refl;
      bytes = i.bytes;
      fates = i.fates;
      sessions = i.sessions;
      faults = i.faults;
      inline = i.inline;
      lane = i.lane;
    } in
    ended_closed (view_of g.S.Shelf.state c.args.self) (end_view g.S.Shelf.state c.into_end-else-is_live.result) k c.is_live.result c.if-is_live.false b
    told (i.state ∙ c.on_end-state-else-is_live.ensures.state o k.history k.stands.shows)

pub on_end-state-requires : goal.on_end-state-requires
on_end-state-requires g c =
    let k = c.requires.3 in
    let n = live_now k c.is_live.result c.if-is_live.true (c.is_live.ensures c.requires.1 k.history None k.stands.shows) in
    let closes = c.end-answer.ensures c.requires.0 k.stands.table.last.last.first k.stands.table.last.last.written k.stands.kit (k.stands.table.last.is_open n.0 n.1).1 in
    record { free = ap hand_of closes.fifo ∙ k.stands.shows.in_hand }

pub returns-then-is_live-clause-given_up : goal.returns-then-is_live-clause-given_up
returns-then-is_live-clause-given_up g c = λ out o T k d.
    absurd (dead_shut o k.history c.is_live.result c.if-is_live.true (c.is_live.ensures o k.history None k.stands.shows) d)

pub returns-else-is_live-clause-given_up : goal.returns-else-is_live-clause-given_up
returns-else-is_live-clause-given_up g c = λ out o T k d.
    dead_unclosed o k.history None _ (sym c.if-is_live.false ∙ c.is_live.ensures o k.history None k.stands.shows)
    (c.into_end-else-is_live.ensures.state ∙ c.on_end-state-else-is_live.ensures.state o k.history k.stands.shows) d

use Rattle.std.proofs.Common.{inl, inr, refl}
use Rattle.fifo_core.specs.declared.types.Action.TheVariants as action
use Rattle.slave.specs.Job.{view_of}
use Rattle.slave.proofs.Turns.{opened_holds, put_holds, put_after, put_writing, written_before, first_in, primed_writes, primed_retries, primed_settles, settle_place, concludes_acts, with_fifo, retry_idle}
use Rattle.slave.proofs.job.SlaveJob.act.Goals as goal

pub settle-requires-clause-place : goal.settle-requires-clause-place
settle-requires-clause-place g c =
    let r = c.requires.ready in
    let f = c.facts-facts.ensures r.0 r.4.kit in
    let a = rw f at (c.in-Settle.ensures.action r.1 r.3 r.4.shows) in
    (settle_place (view_of g.S.Shelf.state c.args.self.now) c.in-Settle.fate r.4 a)

pub put-answer-requires-clause-writing : goal.put-answer-requires-clause-writing
put-answer-requires-clause-writing g c =
    let r = c.requires.ready in
    let f = c.facts-facts.ensures r.0 r.4.kit in
    let a = rw f at (c.in-Write.ensures.action r.1 r.3 r.4.shows) in
    let t = rw f at (c.in-Write.ensures.turn r.1 r.3 r.4.shows) in
    let n = c.in-Write.ensures.next in
    let w = primed_writes (view_of g.S.Shelf.state c.args.self.now) (with_fifo (view_of g.S.Shelf.state c.args.self.now) c.on_packet.new.self) r.4 a t n refl refl refl refl refl refl refl in
    put_writing (with_fifo (view_of g.S.Shelf.state c.args.self.now) c.on_packet.new.self) w

pub put-answer-requires-clause-place : goal.put-answer-requires-clause-place
put-answer-requires-clause-place g c =
    let r = c.requires.ready in
    let f = c.facts-facts.ensures r.0 r.4.kit in
    let a = rw f at (c.in-Write.ensures.action r.1 r.3 r.4.shows) in
    let t = rw f at (c.in-Write.ensures.turn r.1 r.3 r.4.shows) in
    let n = c.in-Write.ensures.next in
    let w = primed_writes (view_of g.S.Shelf.state c.args.self.now) (with_fifo (view_of g.S.Shelf.state c.args.self.now) c.on_packet.new.self) r.4 a t n refl refl refl refl refl refl refl in
    w.fault_places

pub put-answer-requires-clause-fits : goal.put-answer-requires-clause-fits
put-answer-requires-clause-fits g c =
    let r = c.requires.ready in
    (r.0, r.4.kit, r.5)

pub open_and_put-answer-requires-clause-idle : goal.open_and_put-answer-requires-clause-idle
open_and_put-answer-requires-clause-idle g c =
    let r = c.requires.ready in
    let f = c.facts-facts.ensures r.0 r.4.kit in
    let a = rw f at (c.in-OpenAndWrite.ensures.action r.1 r.3 r.4.shows) in
    let t = rw f at (c.in-OpenAndWrite.ensures.turn r.1 r.3 r.4.shows) in
    let n = c.in-OpenAndWrite.ensures.next in
    let w = primed_retries (view_of g.S.Shelf.state c.args.self.now) (with_fifo (view_of g.S.Shelf.state c.args.self.now) c.on_packet.new.self) r.4 a t n refl refl refl refl refl refl refl refl in
    retry_idle (with_fifo (view_of g.S.Shelf.state c.args.self.now) c.on_packet.new.self) w

pub open_and_put-answer-requires-clause-note_place : goal.open_and_put-answer-requires-clause-note_place
open_and_put-answer-requires-clause-note_place g c =
    let r = c.requires.ready in
    let f = c.facts-facts.ensures r.0 r.4.kit in
    let a = rw f at (c.in-OpenAndWrite.ensures.action r.1 r.3 r.4.shows) in
    let t = rw f at (c.in-OpenAndWrite.ensures.turn r.1 r.3 r.4.shows) in
    let n = c.in-OpenAndWrite.ensures.next in
    let w = primed_retries (view_of g.S.Shelf.state c.args.self.now) (with_fifo (view_of g.S.Shelf.state c.args.self.now) c.on_packet.new.self) r.4 a t n refl refl refl refl refl refl refl refl in
    w.session_places

pub open_and_put-answer-requires-clause-place : goal.open_and_put-answer-requires-clause-place
open_and_put-answer-requires-clause-place g c =
    let r = c.requires.ready in
    let f = c.facts-facts.ensures r.0 r.4.kit in
    let a = rw f at (c.in-OpenAndWrite.ensures.action r.1 r.3 r.4.shows) in
    let t = rw f at (c.in-OpenAndWrite.ensures.turn r.1 r.3 r.4.shows) in
    let n = c.in-OpenAndWrite.ensures.next in
    let w = primed_retries (view_of g.S.Shelf.state c.args.self.now) (with_fifo (view_of g.S.Shelf.state c.args.self.now) c.on_packet.new.self) r.4 a t n refl refl refl refl refl refl refl refl in
    w.fault_places

pub open_and_put-answer-requires-clause-fits : goal.open_and_put-answer-requires-clause-fits
open_and_put-answer-requires-clause-fits g c =
    let r = c.requires.ready in
    (r.0, r.4.kit, r.5)

pub conclude-requires-clause-ready : goal.conclude-requires-clause-ready
conclude-requires-clause-ready g c =
    let r = c.requires.ready in
    let f = c.facts-facts.ensures r.0 r.4.kit in
    let a = rw f at (c.in-Write.ensures.action r.1 r.3 r.4.shows) in
    let t = rw f at (c.in-Write.ensures.turn r.1 r.3 r.4.shows) in
    let n = c.in-Write.ensures.next in
    let w = primed_writes (view_of g.S.Shelf.state c.args.self.now) (with_fifo (view_of g.S.Shelf.state c.args.self.now) c.on_packet.new.self) r.4 a t n refl refl refl refl refl refl refl in
    (r.0, r.1, r.2, r.3, put_holds c.put-answer.result (with_fifo (view_of g.S.Shelf.state c.args.self.now) c.on_packet.new.self) _ w (c.put-answer.ensures r.0 (first_in w) (written_before w) w.kit (put_after w) r.5), r.5)

pub conclude-requires-in-OpenAndWrite-clause-ready : goal.conclude-requires-in-OpenAndWrite-clause-ready
conclude-requires-in-OpenAndWrite-clause-ready g c =
    let r = c.requires.ready in
    let f = c.facts-facts.ensures r.0 r.4.kit in
    let a = rw f at (c.in-OpenAndWrite.ensures.action r.1 r.3 r.4.shows) in
    let t = rw f at (c.in-OpenAndWrite.ensures.turn r.1 r.3 r.4.shows) in
    let n = c.in-OpenAndWrite.ensures.next in
    let w = primed_retries (view_of g.S.Shelf.state c.args.self.now) (with_fifo (view_of g.S.Shelf.state c.args.self.now) c.on_packet.new.self) r.4 a t n refl refl refl refl refl refl refl refl in
    (r.0, r.1, r.2, r.3, opened_holds c.open_and_put-answer.result (with_fifo (view_of g.S.Shelf.state c.args.self.now) c.on_packet.new.self) (view_of g.S.Shelf.state c.open_and_put-answer.new.self) w (c.open_and_put-answer.ensures r.0 w.kit r.5), r.5)

pub returns-in-Settle : goal.returns-in-Settle
returns-in-Settle g c = λ out o T h d takes.
    let f = c.facts-facts.ensures out d.kit in
    let a = rw f at (c.in-Settle.ensures.action o h d.shows) in
    let t = c.in-Settle.ensures.turn o h d.shows in
    let n = c.in-Settle.ensures.next in
    primed_settles (view_of g.S.Shelf.state c.args.self.now) (with_fifo (view_of g.S.Shelf.state c.args.self.now) c.on_packet.new.self) _ c.in-Settle.fate d a t n refl refl refl refl refl refl refl refl c.settle.ensures

pub returns-in-Write : goal.returns-in-Write
returns-in-Write g c = λ out o T h d takes.
    let f = c.facts-facts.ensures out d.kit in
    let a = rw f at (c.in-Write.ensures.action o h d.shows) in
    let t = rw f at (c.in-Write.ensures.turn o h d.shows) in
    let n = c.in-Write.ensures.next in
    let w = primed_writes (view_of g.S.Shelf.state c.args.self.now) (with_fifo (view_of g.S.Shelf.state c.args.self.now) c.on_packet.new.self) d a t n refl refl refl refl refl refl refl in
    concludes_acts action.Write (inl refl) a (c.conclude.ensures out o T h (put_holds c.put-answer.result (with_fifo (view_of g.S.Shelf.state c.args.self.now) c.on_packet.new.self) _ w (c.put-answer.ensures out (first_in w) (written_before w) w.kit (put_after w) takes)) takes)

pub returns-in-OpenAndWrite : goal.returns-in-OpenAndWrite
returns-in-OpenAndWrite g c = λ out o T h d takes.
    let f = c.facts-facts.ensures out d.kit in
    let a = rw f at (c.in-OpenAndWrite.ensures.action o h d.shows) in
    let t = rw f at (c.in-OpenAndWrite.ensures.turn o h d.shows) in
    let n = c.in-OpenAndWrite.ensures.next in
    let w = primed_retries (view_of g.S.Shelf.state c.args.self.now) (with_fifo (view_of g.S.Shelf.state c.args.self.now) c.on_packet.new.self) d a t n refl refl refl refl refl refl refl refl in
    concludes_acts action.OpenAndWrite (inr refl) a (c.conclude-in-OpenAndWrite.ensures out o T h
    (opened_holds c.open_and_put-answer.result (with_fifo (view_of g.S.Shelf.state c.args.self.now) c.on_packet.new.self) (view_of g.S.Shelf.state c.open_and_put-answer.new.self) w (c.open_and_put-answer.ensures out w.kit takes)) takes)

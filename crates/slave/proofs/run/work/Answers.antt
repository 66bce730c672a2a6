use Rattle.std.proofs.Common.{◌∙◌, ◌++◌, ◌∷◌, [], length, false, ap, ap₂, sym, refl, subst}
use Rattle.lane.specs.Ring.{one_if}
use Rattle.lane_core.specs.Machine as machine
use Rattle.slave.specs.Job.{view_of}
use Rattle.slave.specs.End.{end_view}
use Rattle.slave.specs.Stretches.{AreOf, Flushed}
use Rattle.slave.specs.Worked.{fails, got_late}
use Rattle.slave.proofs.Stretching.{are_of}
use Rattle.slave.proofs.Working.{fails_other, fails_take, none_late, one_late, late_ended, begins, moved, may_come, later, wrote, idled, left_out, finished}
use Rattle.slave.proofs.run.work.Goals as goal

pub loop-init : goal.loop-init
loop-init g c = let u = c.requires.unused in
    let v = view_of g.S.Shelf.state c.start.new.self in record {
      ring = refl;
      about = refl;
      failed_is = u.2;
      once = ap fails u.3;
      going = λ out o fresh for_it. moved out o [] c.args.taker.got [] c.args.taker.numbers _ 0 false false [] (got_late c.args.taker.past) v v
          (begins c.queue_size-queue_size.result (c.start.ensures out o fresh) (λ T k. c.queue_size-queue_size.ensures out o T k)) u.0 u.1 (λ e. absurd (cc e)) (ap got_late u.3);
    }

pub report-failed-requires-clause-only_dead : goal.report-failed-requires-clause-only_dead
report-failed-requires-clause-only_dead g c = λ e. let r = c.requires.fresh in
    let k = c.loop.invariant.going r.0 r.1 r.2 r.3 in c.is_given_up.ensures r.0 r.1 k.given k.keeps ∙ k.only_dead e

-- an output that was given up gets one more
pub write-requires-clause-ready : goal.write-requires-clause-ready
write-requires-clause-ready g c = let r = c.requires.fresh in
    let k = c.loop.invariant.going r.0 r.1 r.2 r.3 in
    let same = c.report-failed.ensures.same in
    let e = c.in-Got.ensures in
    let h = may_come r.0 k.given c.loop.taker.got c.args.taker.about c.report-failed.new.taker c.in-Got.msg (are_of k.stretches) same.2 (same.1 ∙ c.loop.invariant.about) r.3 e.2.0 e.2.1 in
    (r.0, r.1, k.given, k.keeps, h.0, h.1)

pub loop-preserved-in-Got : goal.loop-preserved-in-Got
loop-preserved-in-Got g c = let i = c.loop.invariant in
    let told = c.report-failed.ensures.told in
    let same = c.report-failed.ensures.same in
    let e = c.in-Got.ensures in
    let m = c.in-Got.msg in
    let v = view_of g.S.Shelf.state c.loop.job in
    let w = view_of g.S.Shelf.state c.write.new.job in record {
      ring = ap (λ t. t.ring) e.1 ∙ (same.0 ∙ i.ring);
      about = ap (λ t. t.about) e.1 ∙ (same.1 ∙ i.about);
      failed_is = ap (λ t. t.failed) e.1 ∙ (told.1 ∙ sym told.0);
      once = ap (λ t. fails t.past) e.1 ∙ (fails_take e.0 (machine.got m) c.report-failed.new.taker.past ∙ (told.2 ∙ ap one_if (sym told.0)));
      going = λ out o fresh for_it. let k = i.going out o fresh for_it in
          let h = may_come out k.given c.loop.taker.got c.args.taker.about c.report-failed.new.taker m (are_of k.stretches) same.2 (same.1 ∙ i.about) for_it e.2.0 e.2.1 in
          later out o c.loop.taker.got c.take_wait.new.taker.got c.loop.taker.numbers c.take_wait.new.taker.numbers _ c.loop.last c.loop.failed c.report-failed.result
          (got_late c.loop.taker.past) (got_late c.take_wait.new.taker.past) v w k m
          (ap (λ t. t.got) e.1 ∙ ap (λ xs. xs ++ m ∷ []) same.2) (ap (λ t. t.numbers) e.1 ∙ same.3)
          (sym (c.is_given_up.ensures out o k.given k.keeps) ∙ (sym told.0 ∙ c.if-failed.true)) (c.write.ensures out o k.given k.keeps h.0 h.1)
          (ap (λ t. got_late t.past) e.1 ∙ (one_late e.0 m c.report-failed.new.taker.past (told.2 ∙ ap one_if (sym told.0 ∙ c.if-failed.true)) ∙ ap (λ xs. xs ++ m ∷ []) c.report-failed.ensures.late));
    }

pub ended-requires : goal.ended-requires
ended-requires g c = let r = c.requires.fresh in
    let k = c.loop.invariant.going r.0 r.1 r.2 r.3 in (r.0, r.1, k.given, k.keeps)

pub returns-in-Ended : goal.returns-in-Ended
returns-in-Ended g c = let i = c.loop.invariant in
    let told = c.report-failed.ensures.told in
    let same = c.report-failed.ensures.same in
    let e = c.in-Ended.ensures in
    let is = c.ended.ensures.taker ∙ e.1 in
    let v = view_of g.S.Shelf.state c.loop.job in record {
      worked = λ out o fresh for_it. let k = i.going out o fresh for_it in
          finished out o c.loop.taker.got c.loop.taker.got c.loop.taker.numbers c.loop.taker.numbers _ c.loop.last c.loop.failed c.report-failed.result
          (got_late c.loop.taker.past) (got_late c.loop.taker.past) v v k (end_view g.S.Shelf.state c.ended.result.end) c.ended.result.taker (c.ended.ensures.job out o k.given k.keeps)
          (ap (λ t. t.got) is ∙ same.2) (ap (λ t. t.numbers) is ∙ same.3) (told.0 ∙ c.is_given_up.ensures out o k.given k.keeps)
          (ap (λ t. t.failed) is ∙ (told.1 ∙ sym told.0)) (ap (λ t. fails t.past) is ∙ (fails_take e.0 machine.ended c.report-failed.new.taker.past ∙ (told.2 ∙ ap one_if (sym told.0))))
          (ap (λ t. got_late t.past) is ∙ (late_ended e.0 c.report-failed.new.taker.past ∙ c.report-failed.ensures.late));
      ring = ap (λ t. t.ring) is ∙ (same.0 ∙ i.ring);
      about = ap (λ t. t.about) is ∙ (same.1 ∙ i.about);
      ended = ap (λ t. t.ended) is;
      last = (_, ap (λ t. t.past) is);
    }

-- what waits is flushed
pub flush-requires-clause-ready : goal.flush-requires-clause-ready
flush-requires-clause-ready g c = let r = c.requires.fresh in
    let k = c.loop.invariant.going r.0 r.1 r.2 r.3 in
    let got = ap (λ t. t.got) c.overflows-number.ensures ∙ c.report-failed.ensures.same.2 in
    (r.0, r.1, k.given, k.keeps, subst (λ xs. AreOf k.given xs) (sym got) (are_of k.stretches))

pub loop-preserved-then-number-last : goal.loop-preserved-then-number-last
loop-preserved-then-number-last g c = let i = c.loop.invariant in
    let told = c.report-failed.ensures.told in
    let before = c.report-failed.ensures.same in
    let over = c.overflows-number.ensures in
    let same = c.flush.ensures.same in
    let number = c.overflows-number.result in
    let got = ap (λ t. t.got) over ∙ before.2 in
    let v = view_of g.S.Shelf.state c.loop.job in
    let w = view_of g.S.Shelf.state c.flush.new.job in
    let once = same.4 ∙ (ap (λ t. fails t.past) over ∙ (fails_other machine.see (machine.overs number) c.report-failed.new.taker.past refl ∙ (told.2 ∙ ap one_if (sym told.0)))) in record {
      ring = same.0 ∙ (ap (λ t. t.ring) over ∙ (before.0 ∙ i.ring));
      about = same.1 ∙ (ap (λ t. t.about) over ∙ (before.1 ∙ i.about));
      failed_is = same.3 ∙ (ap (λ t. t.failed) over ∙ (told.1 ∙ sym told.0));
      once = once;
      going = λ out o fresh for_it. let k = i.going out o fresh for_it in
          let f = c.flush.ensures.flushed out o k.given k.keeps (subst (λ xs. AreOf k.given xs) (sym got) (are_of k.stretches)) in
          left_out out o c.loop.taker.got c.flush.new.taker.got c.loop.taker.numbers c.flush.new.taker.numbers _ c.loop.last c.loop.failed c.report-failed.result
          (got_late c.loop.taker.past) (got_late c.flush.new.taker.past) v w k number (same.2 ∙ (ap (λ t. t.numbers) over ∙ ap₂ (λ ns xs. ns ++ (number, length xs) ∷ []) before.3 before.2))
          (sym (c.is_given_up.ensures out o k.given k.keeps) ∙ (sym told.0 ∙ c.if-failed.false)) c.if-failed.false
          (none_late c.flush.new.taker.past (once ∙ ap one_if c.if-failed.false)) c.if-number-last.true
          (subst (λ xs. Flushed out o k.given k.keeps.history number c.queue_size-queue_size.result xs c.flush.new.taker.got w) got f);
    }

-- a message is written
pub write-requires-in-Got-take_wait-clause-ready : goal.write-requires-in-Got-take_wait-clause-ready
write-requires-in-Got-take_wait-clause-ready g c = let r = c.requires.fresh in
    let k = c.loop.invariant.going r.0 r.1 r.2 r.3 in
    let before = c.report-failed.ensures.same in
    let over = c.overflows-number.ensures in
    let e = c.in-Got-take_wait.ensures in
    let h = may_come r.0 k.given c.loop.taker.got c.args.taker.about c.overflows-number.new.taker c.in-Got-take_wait.msg (are_of k.stretches)
    (ap (λ t. t.got) over ∙ before.2) (ap (λ t. t.about) over ∙ (before.1 ∙ c.loop.invariant.about)) r.3 e.2.0 e.2.1 in
    (r.0, r.1, k.given, k.keeps, h.0, h.1)

pub loop-preserved : goal.loop-preserved
loop-preserved g c = let i = c.loop.invariant in
    let told = c.report-failed.ensures.told in
    let before = c.report-failed.ensures.same in
    let over = c.overflows-number.ensures in
    let e = c.in-Got-take_wait.ensures in
    let m = c.in-Got-take_wait.msg in
    let number = c.overflows-number.result in
    let got = ap (λ t. t.got) over ∙ before.2 in
    let t = c.take_wait-else-number-last.new.taker in
    let v = view_of g.S.Shelf.state c.loop.job in
    let w = view_of g.S.Shelf.state c.write-in-Got-take_wait.new.job in
    let once = ap (λ t. fails t.past) e.1 ∙ (fails_take e.0 (machine.got m) c.overflows-number.new.taker.past ∙ (ap (λ t. fails t.past) over
    ∙ (fails_other machine.see (machine.overs number) c.report-failed.new.taker.past refl ∙ (told.2 ∙ ap one_if (sym told.0))))) in record {
      ring = ap (λ t. t.ring) e.1 ∙ (ap (λ t. t.ring) over ∙ (before.0 ∙ i.ring));
      about = ap (λ t. t.about) e.1 ∙ (ap (λ t. t.about) over ∙ (before.1 ∙ i.about));
      failed_is = ap (λ t. t.failed) e.1 ∙ (ap (λ t. t.failed) over ∙ (told.1 ∙ sym told.0));
      once = once;
      going = λ out o fresh for_it. let k = i.going out o fresh for_it in
          let h = may_come out k.given c.loop.taker.got c.args.taker.about c.overflows-number.new.taker m (are_of k.stretches)
          got (ap (λ t. t.about) over ∙ (before.1 ∙ i.about)) for_it e.2.0 e.2.1 in
          wrote out o c.loop.taker.got t.got c.loop.taker.numbers t.numbers _ c.loop.last c.loop.failed c.report-failed.result
          (got_late c.loop.taker.past) (got_late t.past) v w k number (ap (λ t. t.numbers) e.1 ∙ (ap (λ t. t.numbers) over ∙ ap₂ (λ ns xs. ns ++ (number, length xs) ∷ []) before.3 before.2))
          (sym (c.is_given_up.ensures out o k.given k.keeps) ∙ (sym told.0 ∙ c.if-failed.false)) c.if-failed.false
          (none_late t.past (once ∙ ap one_if c.if-failed.false)) m c.if-number-last.false
          (ap (λ t. t.got) e.1 ∙ ap (λ xs. xs ++ m ∷ []) got) (c.write-in-Got-take_wait.ensures out o k.given k.keeps h.0 h.1);
    }

pub ended-requires-in-Ended-take_wait : goal.ended-requires-in-Ended-take_wait
ended-requires-in-Ended-take_wait g c = let r = c.requires.fresh in
    let k = c.loop.invariant.going r.0 r.1 r.2 r.3 in (r.0, r.1, k.given, k.keeps)

pub returns-in-Ended-take_wait : goal.returns-in-Ended-take_wait
returns-in-Ended-take_wait g c = let i = c.loop.invariant in
    let told = c.report-failed.ensures.told in
    let before = c.report-failed.ensures.same in
    let over = c.overflows-number.ensures in
    let e = c.in-Ended-take_wait.ensures in
    let number = c.overflows-number.result in
    let got = ap (λ t. t.got) over ∙ before.2 in
    let numbers = ap (λ t. t.numbers) over ∙ ap₂ (λ ns xs. ns ++ (number, length xs) ∷ []) before.3 before.2 in
    let is = c.ended-in-Ended-take_wait.ensures.taker ∙ e.1 in
    let r = c.ended-in-Ended-take_wait.result in
    let v = view_of g.S.Shelf.state c.loop.job in
    let once = ap (λ t. fails t.past) is ∙ (fails_take e.0 machine.ended c.overflows-number.new.taker.past ∙ (ap (λ t. fails t.past) over
    ∙ (fails_other machine.see (machine.overs number) c.report-failed.new.taker.past refl ∙ (told.2 ∙ ap one_if (sym told.0))))) in record {
      worked = λ out o fresh for_it. let k = i.going out o fresh for_it in
          let f = idled out o c.loop.taker.got c.overflows-number.new.taker.got c.loop.taker.numbers c.overflows-number.new.taker.numbers _ c.loop.last c.loop.failed c.report-failed.result
          (got_late c.loop.taker.past) (got_late r.taker.past) v v k number numbers (sym (c.is_given_up.ensures out o k.given k.keeps) ∙ (sym told.0 ∙ c.if-failed.false)) c.if-failed.false
          (none_late r.taker.past (once ∙ ap one_if c.if-failed.false)) c.if-number-last.false got in
          finished out o c.overflows-number.new.taker.got r.taker.got c.overflows-number.new.taker.numbers r.taker.numbers _ c.loop.last c.report-failed.result c.report-failed.result
          (got_late r.taker.past) (got_late r.taker.past) v v f
          (end_view g.S.Shelf.state r.end) r.taker (c.ended-in-Ended-take_wait.ensures.job out o f.given f.keeps)
          (ap (λ t. t.got) is) (ap (λ t. t.numbers) is) (told.0 ∙ c.is_given_up.ensures out o f.given f.keeps)
          (ap (λ t. t.failed) is ∙ (ap (λ t. t.failed) over ∙ (told.1 ∙ sym told.0)))
          once refl;
      ring = ap (λ t. t.ring) is ∙ (ap (λ t. t.ring) over ∙ (before.0 ∙ i.ring));
      about = ap (λ t. t.about) is ∙ (ap (λ t. t.about) over ∙ (before.1 ∙ i.about));
      ended = ap (λ t. t.ended) is;
      last = (_, ap (λ t. t.past) is);
    }

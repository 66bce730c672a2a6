use Rattle.std.proofs.Common.{refl, ap, ◌∙◌, arith}
use Rattle.lane_core.specs.Machine as machine
use Rattle.slave.specs.Job.{view_of}
use Rattle.slave.specs.Worked.{fails}
use Rattle.slave.proofs.Stretching.{comes_next}
use Rattle.slave.proofs.Working.{fails_other, flushed_none, are_flushed, flushed_one, flushed_all}
use Rattle.slave.proofs.run.flush.Goals as goal

pub loop-init : goal.loop-init
loop-init g c = record {
  flushed = λ out o T k a. flushed_none k c.args.number c.args.taker.now.got;
  ring = refl;
  about = refl;
  numbers = refl;
  failed = refl;
  past = refl;
}

pub sweep-requires-clause-ready : goal.sweep-requires-clause-ready
sweep-requires-clause-ready g c = let r = c.requires.ready in
    let f = c.loop.invariant.flushed r.0 r.1 r.2 r.3 r.4 in
    (r.0, r.1, f.given, f.grows.keeps, comes_next f.given c.loop.taker.got c.in-Got.msg.index (are_flushed _ _ _ _ _ _ _ _ _ f r.4) c.in-Got.ensures.2.0)

pub loop-preserved : goal.loop-preserved
loop-preserved g c = let e = c.in-Got.ensures in
    let i = c.loop.invariant in record {
      flushed = λ out o T k a. let f = i.flushed out o T k a in
          flushed_one _ _ _ _ _ _ _ _ _ f c.take.new.taker.got (view_of g.S.Shelf.state c.sweep.new.job) c.in-Got.msg (ap (λ t. t.got) e.0)
          (c.sweep.ensures out o f.given f.grows.keeps (comes_next f.given c.loop.taker.got c.in-Got.msg.index (are_flushed _ _ _ _ _ _ _ _ _ f a) e.2.0));
      ring = ap (λ t. t.ring) e.0 ∙ i.ring;
      about = ap (λ t. t.about) e.0 ∙ i.about;
      numbers = ap (λ t. t.numbers) e.0 ∙ i.numbers;
      failed = ap (λ t. t.failed) e.0 ∙ i.failed;
      past = ap (λ t. fails t.past) e.0 ∙ (fails_other machine.take (machine.got c.in-Got.msg) c.loop.taker.past refl ∙ i.past);
    }

pub returns-in-Empty-clause-flushed : goal.returns-in-Empty-clause-flushed
returns-in-Empty-clause-flushed g c = λ out o T k a.
    flushed_all _ _ _ _ _ _ _ _ _ (c.loop.invariant.flushed out o T k a) c.args.queue_size c.take.new.taker.got (omega (arith, c.loop-test.true)) (ap (λ t. t.got) c.in-Empty.ensures)

pub returns-in-Ended-clause-flushed : goal.returns-in-Ended-clause-flushed
returns-in-Ended-clause-flushed g c = λ out o T k a.
    flushed_all _ _ _ _ _ _ _ _ _ (c.loop.invariant.flushed out o T k a) c.args.queue_size c.take.new.taker.got (omega (arith, c.loop-test.true)) (ap (λ t. t.got) c.in-Ended.ensures)

pub returns-clause-flushed : goal.returns-clause-flushed
returns-clause-flushed g c = λ out o T k a.
    flushed_all _ _ _ _ _ _ _ _ _ (c.loop.invariant.flushed out o T k a) c.args.queue_size c.loop.taker.got (omega (arith, c.loop.auto.counter-end)) refl

use Rattle.std.proofs.Common.{ap, ◌∙◌, refl}
use Rattle.interleaver.specs.Queues.{Pending}
use Rattle.remux.proofs.Counting.{fewer_still, ready_next}
use Rattle.remux.proofs.Accepting.{each_more, head_taken, rest_taken}
use Rattle.remux.proofs.Flushing.{flush_start, flush_more, flush_stop, flush_some}
use Rattle.remux.proofs.give.flush.Goals as goal

pub loop-p-init : goal.loop-p-init
loop-p-init g c = record { finished = c.requires.finished; same = (refl, refl); ready = c.requires.ready; taken = c.requires.taken; flushing = λ start. flush_start _ _ _ }

pub feed_one-requires : goal.feed_one-requires
feed_one-requires g c = let w = c.loop-p.invariant.ready in
    record { ready = (w.0, w.1, w.2, fewer_still w.1 _ _ _ c.in-Some.ensures.pops.1 w.3); taken = head_taken _ _ _ _ c.in-Some.ensures.pops.1 c.loop-p.invariant.taken }

pub loop-p-preserved : goal.loop-p-preserved
loop-p-preserved g c = record {
  finished = ap (λ (v : Pending). v.finished) c.in-Some.ensures.pops.2 ∙ c.loop-p.invariant.finished;
  same = (ap (λ (v : Pending). v.streams) c.in-Some.ensures.pops.2 ∙ c.loop-p.invariant.same.0, ap (λ (v : Pending). v.delta) c.in-Some.ensures.pops.2 ∙ c.loop-p.invariant.same.1);
  ready =
      let w = c.loop-p.invariant.ready in
      ready_next _ _ _ _ (g.T.Outputs.keeps c.loop-p.outputs) (g.T.Outputs.keeps c.feed_one.new.outputs) _ _ w.0 w.1 w.2 c.in-Some.ensures.pops.1 w.3 ((rw c.in-Ok-More.field-0-is at c.in-Ok-More.ensures.fed) w.0);
  taken = each_more _ _ _ c.in-Ok-More.ensures.takes (rest_taken _ _ _ _ c.in-Some.ensures.pops.1 c.loop-p.invariant.taken);
  flushing = λ start. flush_more _ _ _ _ _ _ _ _ _ _ (c.loop-p.invariant.flushing start) c.in-Some.ensures.pops.1 ((rw c.in-Ok-More.field-0-is at c.in-Ok-More.ensures.fed) start);
}

pub returns-in-Ok-Stop-clause-flushed : goal.returns-in-Ok-Stop-clause-flushed
returns-in-Ok-Stop-clause-flushed g c = λ start. flush_stop _ _ _ _ _ _ _ _ _ _ (c.loop-p.invariant.flushing start) c.in-Some.ensures.pops.1 ((rw c.in-Ok-Stop.field-0-is at c.in-Ok-Stop.ensures.fed) start)

pub returns-in-Err-clause-some : goal.returns-in-Err-clause-some
returns-in-Err-clause-some g c = λ start. flush_some _ _ _ _ _ _ _ _ (c.loop-p.invariant.flushing start) (c.in-Err.ensures.kept start) c.in-Err.ensures.dead

pub returns-in-Ok-Stop-clause-same : goal.returns-in-Ok-Stop-clause-same
returns-in-Ok-Stop-clause-same g c = (ap (λ (v : Pending). v.streams) c.in-Some.ensures.pops.2 ∙ c.loop-p.invariant.same.0, ap (λ (v : Pending). v.delta) c.in-Some.ensures.pops.2 ∙ c.loop-p.invariant.same.1)

pub returns-in-Err-clause-same : goal.returns-in-Err-clause-same
returns-in-Err-clause-same g c = (ap (λ (v : Pending). v.streams) c.in-Some.ensures.pops.2 ∙ c.loop-p.invariant.same.0, ap (λ (v : Pending). v.delta) c.in-Some.ensures.pops.2 ∙ c.loop-p.invariant.same.1)

use Rattle.std.proofs.Common.{false, ap, ◌∙◌, []}
use Rattle.interleaver.specs.Queues.{Pending}
use Rattle.remux.proofs.Giving.{stopped_all, gave_all, given_one, given_start, gave_some}
use Rattle.remux.proofs.Counting.{fewer_still, ready_next}
use Rattle.remux.proofs.Accepting.{each_more, head_taken, rest_taken}
use Rattle.remux.proofs.give.give_all.Goals as goal

pub loop-p-init : goal.loop-p-init
loop-p-init g c = record { given = λ start. given_start _ _ _; takes = λ q h. h; ready = c.requires.ready; taken = c.requires.taken }

pub feed_one-requires : goal.feed_one-requires
feed_one-requires g c = let w = c.loop-p.invariant.ready in
    record { ready = (w.0, w.1, w.2, fewer_still w.1 _ _ _ c.in-Some.ensures.pops.1 w.3); taken = head_taken _ _ _ _ c.in-Some.ensures.pops.1 c.loop-p.invariant.taken }

pub returns-in-Ok-Stop-clause-gave : goal.returns-in-Ok-Stop-clause-gave
returns-in-Ok-Stop-clause-gave g c = λ start. stopped_all _ _ _ _ _ _ _ _ _ _ c.requires.unfinished (c.loop-p.invariant.given start) c.in-Some.ensures.pops ((rw c.in-Ok-Stop.field-0-is at c.in-Ok-Stop.ensures.fed) start)

pub returns-in-Ok-Stop-clause-same : goal.returns-in-Ok-Stop-clause-same
returns-in-Ok-Stop-clause-same g c =
    (ap (λ (v : Pending). v.streams) c.in-Some.ensures.pops.2 ∙ ap (λ (v : Pending). v.streams) (c.loop-p.invariant.given (record { seats = []; threads = [] })).1, ap (λ (v : Pending). v.delta) c.in-Some.ensures.pops.2 ∙ ap (λ (v : Pending). v.delta) (c.loop-p.invariant.given (record { seats = []; threads = [] })).1)

pub returns-in-Ok-Stop-clause-takes : goal.returns-in-Ok-Stop-clause-takes
returns-in-Ok-Stop-clause-takes g c = λ q h. c.in-Ok-Stop.ensures.takes q (c.loop-p.invariant.takes q h)

pub returns-in-Ok-Stop-clause-taken : goal.returns-in-Ok-Stop-clause-taken
returns-in-Ok-Stop-clause-taken g c = each_more _ _ _ c.in-Ok-Stop.ensures.takes (rest_taken _ _ _ _ c.in-Some.ensures.pops.1 c.loop-p.invariant.taken)

pub returns-in-Err-clause-same : goal.returns-in-Err-clause-same
returns-in-Err-clause-same g c =
    (ap (λ (v : Pending). v.streams) c.in-Some.ensures.pops.2 ∙ ap (λ (v : Pending). v.streams) (c.loop-p.invariant.given (record { seats = []; threads = [] })).1, ap (λ (v : Pending). v.delta) c.in-Some.ensures.pops.2 ∙ ap (λ (v : Pending). v.delta) (c.loop-p.invariant.given (record { seats = []; threads = [] })).1)

pub returns-in-Err-clause-some : goal.returns-in-Err-clause-some
returns-in-Err-clause-some g c = λ start. gave_some _ _ _ _ _ _ _ _ (c.loop-p.invariant.given start) (c.in-Err.ensures.kept start) c.in-Err.ensures.dead

pub returns-in-Err-clause-takes : goal.returns-in-Err-clause-takes
returns-in-Err-clause-takes g c = λ q h. c.in-Err.ensures.takes q (c.loop-p.invariant.takes q h)

pub returns-in-Err-clause-taken : goal.returns-in-Err-clause-taken
returns-in-Err-clause-taken g c = each_more _ _ _ c.in-Err.ensures.takes (rest_taken _ _ _ _ c.in-Some.ensures.pops.1 c.loop-p.invariant.taken)

pub loop-p-preserved : goal.loop-p-preserved
loop-p-preserved g c = record {
  given = λ start. given_one false _ _ _ _ _ _ _ _ _ _ c.requires.unfinished (c.loop-p.invariant.given start) c.in-Some.ensures.pops ((rw c.in-Ok-More.field-0-is at c.in-Ok-More.ensures.fed) start);
  takes = λ q h. c.in-Ok-More.ensures.takes q (c.loop-p.invariant.takes q h);
  ready =
      let w = c.loop-p.invariant.ready in
      ready_next _ _ _ _ (g.T.Outputs.keeps c.loop-p.outputs) (g.T.Outputs.keeps c.feed_one.new.outputs) _ _ w.0 w.1 w.2 c.in-Some.ensures.pops.1 w.3 ((rw c.in-Ok-More.field-0-is at c.in-Ok-More.ensures.fed) w.0);
  taken = each_more _ _ _ c.in-Ok-More.ensures.takes (rest_taken _ _ _ _ c.in-Some.ensures.pops.1 c.loop-p.invariant.taken);
}

pub returns-clause-same : goal.returns-clause-same
returns-clause-same g c =
    (ap (λ (v : Pending). v.streams) c.in_default.ensures.pops.1 ∙ ap (λ (v : Pending). v.streams) (c.loop-p.invariant.given (record { seats = []; threads = [] })).1, ap (λ (v : Pending). v.delta) c.in_default.ensures.pops.1 ∙ ap (λ (v : Pending). v.delta) (c.loop-p.invariant.given (record { seats = []; threads = [] })).1)

pub returns-clause-gave : goal.returns-clause-gave
returns-clause-gave g c = λ start. gave_all _ _ _ _ _ _ _ (c.loop-p.invariant.given start) c.in_default.ensures.pops

use Rattle.std.proofs.Common.{sym, subst, ap, ◌∙◌, List, length, ◌+◌, ◌<◌}
use Rattle.std.specs.Prelude.{◌^◌}
use Rattle.rmx_media.specs.declared.packet.Packet.{Packet}
use Rattle.interleaver.specs.Queues.{Pending}
use Rattle.tee.specs.Fed.{is_stop}
use Rattle.remux.specs.Fit.{Each}
use Rattle.remux.specs.Gave.{Flushed, FlushedSome}
use Rattle.remux.proofs.Carrying.{carried, carried_last, pending_of, broken_flush, flush_ready}
use Rattle.remux.proofs.carry.carry_on.Goals as goal

pub read_rest-ending-requires-clause-flows : goal.read_rest-ending-requires-clause-flows
read_rest-ending-requires-clause-flows g c = let w = c.requires.flows in (w.0, w.1, w.2, w.3, w.4, w.6)

pub returns-then-is_last-clause-carries : goal.returns-then-is_last-clause-carries
returns-then-is_last-clause-carries g c = λ s b start f l how.
    carried_last c.read_rest-ending.result s b _ _ _ _ _ c.read_rest-ending.new.line _ _ _ (sym c.is_last.ensures ∙ c.if-is_last.true) (c.read_rest-ending.ensures.ends s b start f l how)

pub flush-requires-clause-ready : goal.flush-requires-clause-ready
flush-requires-clause-ready g c =
    let w = c.requires.flows in
    let r = flush_ready c.read_rest-ending.result w.0 w.1 c.args.left _ _ _ _ c.read_rest-ending.new.line _ _ _ (sym c.is_last.ensures ∙ c.if-is_last.false) (c.read_rest-ending.ensures.ends w.0 w.1 w.2 w.3 w.5 w.4) w.6 in
    (w.2, r.0, r.1, subst (λ (q : List Packet). length r.0 + length q < 2 ^ 61) (sym (ap (λ (v : Pending). v.pending) c.finish.ensures.finished)) r.2)

pub flush-requires-clause-taken : goal.flush-requires-clause-taken
flush-requires-clause-taken g c =
    let w = c.requires.flows in
    subst (Each (g.T.Outputs.takes c.read_rest-ending.new.outputs)) (sym (ap (λ (v : Pending). v.pending) c.finish.ensures.finished))
    (pending_of c.read_rest-ending.result w.0 w.1 _ _ _ _ _ c.read_rest-ending.new.line _ _ _ (sym c.is_last.ensures ∙ c.if-is_last.false) (c.read_rest-ending.ensures.ends w.0 w.1 w.2 w.3 w.5 w.4))

pub returns-in-Ok-clause-same : goal.returns-in-Ok-clause-same
returns-in-Ok-clause-same g c =
    (c.flush.ensures.same.0 ∙ ap (λ (v : Pending). v.streams) c.finish.ensures.finished ∙ c.read_rest-ending.ensures.same.0, c.flush.ensures.same.1 ∙ ap (λ (v : Pending). v.delta) c.finish.ensures.finished ∙ c.read_rest-ending.ensures.same.1)

pub returns-in-Err-clause-same : goal.returns-in-Err-clause-same
returns-in-Err-clause-same g c =
    (c.flush.ensures.same.0 ∙ ap (λ (v : Pending). v.streams) c.finish.ensures.finished ∙ c.read_rest-ending.ensures.same.0, c.flush.ensures.same.1 ∙ ap (λ (v : Pending). v.delta) c.finish.ensures.finished ∙ c.read_rest-ending.ensures.same.1)

pub returns-in-Ok-clause-carries : goal.returns-in-Ok-clause-carries
returns-in-Ok-clause-carries g c = λ s b start f l how.
    carried c.read_rest-ending.result (is_stop c.in-Ok.field-0) s b _ _ _ _ _ c.read_rest-ending.new.line c.flush.new.line _ _ _ _ _ (sym c.is_last.ensures ∙ c.if-is_last.false)
    (c.flush.ensures.same.0 ∙ ap (λ (v : Pending). v.streams) c.finish.ensures.finished) (c.flush.ensures.same.1 ∙ ap (λ (v : Pending). v.delta) c.finish.ensures.finished)
    (c.read_rest-ending.ensures.ends s b start f l how)
    (subst (λ (q : List Packet). Flushed (is_stop c.in-Ok.field-0) q c.flush.new.line.pending (g.T.Outputs.keeps c.read_rest-ending.new.outputs start) (g.T.Outputs.keeps c.flush.new.outputs start) (g.T.Outputs.dead_at c.read_rest-ending.new.outputs) (g.T.Outputs.dead_at c.flush.new.outputs))
    (ap (λ (v : Pending). v.pending) c.finish.ensures.finished) (c.in-Ok.ensures.flushed start))

pub returns-in-Err-clause-carries : goal.returns-in-Err-clause-carries
returns-in-Err-clause-carries g c = λ s b start f l how.
    broken_flush c.read_rest-ending.result s b _ _ _ _ _ c.read_rest-ending.new.line c.flush.new.line _ _ _ _ _ (sym c.is_last.ensures ∙ c.if-is_last.false)
    (c.flush.ensures.same.0 ∙ ap (λ (v : Pending). v.streams) c.finish.ensures.finished) (c.flush.ensures.same.1 ∙ ap (λ (v : Pending). v.delta) c.finish.ensures.finished)
    (c.read_rest-ending.ensures.ends s b start f l how)
    (subst (λ (q : List Packet). FlushedSome q (g.T.Outputs.keeps c.read_rest-ending.new.outputs start) (g.T.Outputs.keeps c.flush.new.outputs start) (g.T.Outputs.dead_at c.read_rest-ending.new.outputs) (g.T.Outputs.dead_at c.flush.new.outputs))
    (ap (λ (v : Pending). v.pending) c.finish.ensures.finished) (c.in-Err.ensures.some start))

use Rattle.std.proofs.Common.{sym, subst, length}
use Rattle.remux.specs.declared.probe.Reached.{Reached}
use Rattle.remux.specs.declared.read.ReadEnd.{ReadEnd}
use Rattle.remux.specs.Finding.{ByReached}
use Rattle.remux.specs.Reading.{Ends}
use Rattle.remux.proofs.Carrying.{late_any, drained_end, drained_limit, stopped_less}
use Rattle.remux.proofs.carry.read_rest.Goals as goal

pub returns-in-More-clause-ends : goal.returns-in-More-clause-ends
returns-in-More-clause-ends g c = λ s b start f l how. c.read_on.ensures.ends s b start f (late_any b _ l)

pub returns-in-End-clause-ends : goal.returns-in-End-clause-ends
returns-in-End-clause-ends g c = λ s b start f l how.
    drained_end c.drain.result s b (g.D.Demux.ended c.args.demux.now) c.args.left (length f.tags) (g.I.Inputs.state c.args.inputs.now) _ _ c.drain.new.line _ _ _
    (subst (λ (r : Reached). ByReached r b (g.D.Demux.ended c.args.demux.now) c.args.left (g.I.Inputs.state c.args.inputs.now)) c.in-End.is how) l (c.drain.ensures.drains s b start f) (stopped_less s b _ _ _ _ _ _)

pub returns-in-Limit-clause-ends : goal.returns-in-Limit-clause-ends
returns-in-Limit-clause-ends g c = λ s b start f l how.
    subst (λ (e : ReadEnd). Ends e s b c.args.left (g.I.Inputs.state c.args.inputs.now) (g.I.Inputs.state c.args.inputs.now) (g.D.Demux.known c.drain-in-Limit.new.demux) (g.D.Demux.has c.drain-in-Limit.new.demux) c.drain-in-Limit.new.line (g.T.Outputs.keeps c.drain-in-Limit.new.outputs start) (g.T.Outputs.dead_at c.drain-in-Limit.new.outputs) (g.T.Outputs.takes c.drain-in-Limit.new.outputs)) (sym c.at_limit.ensures)
    (drained_limit c.drain-in-Limit.result s b (g.D.Demux.ended c.args.demux.now) c.args.left (length f.tags) (g.I.Inputs.state c.args.inputs.now) _ _ c.drain-in-Limit.new.line _ _ _
    (subst (λ (r : Reached). ByReached r b (g.D.Demux.ended c.args.demux.now) c.args.left (g.I.Inputs.state c.args.inputs.now)) c.in-Limit.is how) l (c.drain-in-Limit.ensures.drains s b start f) (stopped_less s b _ _ _ _ _ _))

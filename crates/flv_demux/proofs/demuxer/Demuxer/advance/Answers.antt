use Rattle.std.proofs.Common.{◌∙◌, Bool, Ok, Err, refl, subst, arith}
use Rattle.flv_demux.specs.declared.demuxer.DemuxStep.TheVariants as next
use Rattle.flv_demux.specs.Steps.{Advances}
use Rattle.flv_demux.proofs.Telling.{passes_on, packet_next, more_next, end_next, err_next}
use Rattle.flv_demux.proofs.demuxer.Demuxer.advance.Goals as goal

pub steps-preserved : goal.steps-preserved
steps-preserved c = record {
  fewer = let f = (rw c.in-Ok-Again.field-0-is at c.in-Ok-Again.ensures.fewer) refl in omega (arith, c.steps.invariant.fewer);
  keeps = λ k e. c.step.ensures.keeps k (c.steps.invariant.keeps k e);
  ended = c.step.ensures.ended ∙ c.steps.invariant.ended;
  shown = c.step.ensures.shown ∙ c.steps.invariant.shown;
  passes = λ fed done m.
      let p = c.steps.invariant.passes fed done m in
      passes_on fed done c.steps.self.core c.step.new.self.core c.step.ensures.keeps p ((rw c.in-Ok-Again.field-0-is at c.in-Ok-Again.ensures.steps) fed _ p.dealt);
}

pub returns-in-Ok-Packet-clause-next : goal.returns-in-Ok-Packet-clause-next
returns-in-Ok-Packet-clause-next c = λ fed done m.
    let p = c.steps.invariant.passes fed done m in
    packet_next fed done c.steps.self.core c.step.new.self.core c.step.ensures.keeps p c.in-Ok-Packet.packet ((rw c.in-Ok-Packet.field-0-is at c.in-Ok-Packet.ensures.steps) fed _ p.dealt)

pub returns-in-Ok-NeedMore-clause-next : goal.returns-in-Ok-NeedMore-clause-next
returns-in-Ok-NeedMore-clause-next c = λ fed done m.
    let p = c.steps.invariant.passes fed done m in
    subst (λ (e : Bool). Advances (Ok next.NeedMore) fed done e c.step.new.self.core) c.steps.invariant.ended
    (more_next fed done c.steps.self.core c.step.new.self.core c.step.ensures.keeps p c.steps.self.core.reader.ended ((rw c.in-Ok-NeedMore.field-0-is at c.in-Ok-NeedMore.ensures.steps) fed _ p.dealt))

pub returns-in-Ok-End-clause-next : goal.returns-in-Ok-End-clause-next
returns-in-Ok-End-clause-next c = λ fed done m.
    let p = c.steps.invariant.passes fed done m in
    subst (λ (e : Bool). Advances (Ok next.End) fed done e c.step.new.self.core) c.steps.invariant.ended
    (end_next fed done c.steps.self.core c.step.new.self.core c.step.ensures.keeps p c.steps.self.core.reader.ended ((rw c.in-Ok-End.field-0-is at c.in-Ok-End.ensures.steps) fed _ p.dealt))

pub returns-in-Err-clause-next : goal.returns-in-Err-clause-next
returns-in-Err-clause-next c = λ fed done m.
    let p = c.steps.invariant.passes fed done m in
    subst (λ (e : Bool). Advances (Err c.in-Err.fault) fed done e c.step.new.self.core) c.steps.invariant.ended
    (err_next fed done c.steps.self.core c.step.new.self.core c.step.ensures.keeps p c.in-Err.fault c.steps.self.core.reader.ended (c.in-Err.ensures.steps fed _ p.dealt))

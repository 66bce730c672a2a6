use Rattle.std.proofs.Common.{sym}
use Rattle.interleaver.specs.Queues.{lined}
use Rattle.interleaver.proofs.Lines.{pops}
use Rattle.interleaver.proofs.Steps.{carried_pop}
use Rattle.interleaver.proofs.Interleaver.pop.Goals as goal

pub invariant_of-self : goal.invariant_of-self
invariant_of-self c = record {
  some_stream = c.self.invariant.some_stream;
  most = c.self.invariant.most;
  first = c.take_head.ensures.first _ c.self.invariant.first;
  second = c.take_head.ensures.second _ c.self.invariant.second;
}

pub returns-clause-gives : goal.returns-clause-gives
returns-clause-gives c = λ pushed out k.
    rw (← c.self.view_is) (carried_pop c.take_head.result _ _ pushed out
    (pops record { streams = c.self.inside.streams; delta = c.self.inside.delta_us; pending = lined c.self.inside.first.items c.self.inside.second.items; first_last = c.self.inside.first_last; second_last = c.self.inside.second_last; finished = c.self.inside.finished }
    c.take_head.result (lined c.take_head.new.first.items c.take_head.new.second.items) (sym c.if-not-leaves.ensures) c.take_head.ensures.head)
    (rw (← c.self.view_is) at k))

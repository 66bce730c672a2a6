use Rattle.slave.proofs.CallsLemmas.{ended_idle}
use Rattle.slave.proofs.Muxed.{seg_end}
use Rattle.slave.proofs.mux.Mux.end.Goals as goal

pub returns-in-Flv-clause-idle : goal.returns-in-Flv-clause-idle
returns-in-Flv-clause-idle g c = λ h first before is stands. ended_idle _ c.end-in-Flv.result _ _ (c.end-in-Flv.ensures.run before (rw c.in-Flv.is at stands))

pub returns-in-Segment-clause-run : goal.returns-in-Segment-clause-run
returns-in-Segment-clause-run g c = λ out first before is stands.
    let i = rw c.in-Segment.is at is in
    let shows = rw c.in-Segment.is at stands in
    seg_end out i.1 c.in-Segment.field-0 first before c.end-in-Segment.result _ _ i.0 i.2 i.3 (c.end-in-Segment.ensures.run _ before i.4 (shows i.1 i.2))

use Rattle.slave.proofs.Muxed.{seg_put, same_options}
use Rattle.slave.proofs.mux.Mux.write.Goals as goal

pub returns-in-Segment-clause-of : goal.returns-in-Segment-clause-of
returns-in-Segment-clause-of g c = λ out is.
    let i = rw c.in-Segment.is at is in
    (i.0, i.1, i.2, i.3, c.put-in-Segment.ensures.of (record { options = i.1; streams = out.streams }) i.4)

pub returns-in-Segment-clause-after : goal.returns-in-Segment-clause-after
returns-in-Segment-clause-after g c = λ out first before is stands ok options e.
    let i = rw c.in-Segment.is at is in
    let shows = rw c.in-Segment.is at stands in
    rw (← same_options out.seg i.1 options i.2 e) (c.put-in-Segment.ensures.shows _ before i.4 (shows i.1 i.2) ok)

pub returns-in-Segment-clause-run : goal.returns-in-Segment-clause-run
returns-in-Segment-clause-run g c = λ out first before is stands.
    let i = rw c.in-Segment.is at is in
    let shows = rw c.in-Segment.is at stands in
    rw c.in-Segment.is (seg_put out i.1 c.in-Segment.field-0 first before c.args.p.now _ _ c.put-in-Segment.result _ _ i.0 i.2 i.3
    (c.put-in-Segment.ensures.run _ before i.4 (shows i.1 i.2)))

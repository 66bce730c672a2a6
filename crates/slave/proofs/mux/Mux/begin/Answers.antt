use Rattle.slave.proofs.Muxed.{plain, seg_begin, same_options}
use Rattle.slave.proofs.mux.Mux.begin.Goals as goal

pub returns-in-Mpegts-clause-run : goal.returns-in-Mpegts-clause-run
returns-in-Mpegts-clause-run g c = λ out is.
    let i = rw c.in-Mpegts.is at is in
    rw (c.in-Mpegts.is, i.0, ← i.1) (plain out.seg _ c.begin-in-Mpegts.result _ _ i.2 c.begin-in-Mpegts.ensures.run)

pub returns-in-Segment-clause-of : goal.returns-in-Segment-clause-of
returns-in-Segment-clause-of g c = λ out is.
    let i = rw c.in-Segment.is at is in
    (i.0, i.1, i.2, i.3, c.begin-in-Segment.ensures.of (record { options = i.1; streams = out.streams }) i.4)

pub returns-in-Segment-clause-after : goal.returns-in-Segment-clause-after
returns-in-Segment-clause-after g c = λ out is ok options e.
    let i = rw c.in-Segment.is at is in
    rw (c.in-Segment.is, ← same_options out.seg i.1 options i.2 e) (c.begin-in-Segment.ensures.shows (record { options = i.1; streams = out.streams }) i.4 ok)

pub returns-in-Segment-clause-run : goal.returns-in-Segment-clause-run
returns-in-Segment-clause-run g c = λ out is.
    let i = rw c.in-Segment.is at is in
    rw c.in-Segment.is (seg_begin out i.1 c.in-Segment.template _ _ c.begin-in-Segment.result _ _ c.args.name.now i.0 i.2 i.3
    (c.begin-in-Segment.ensures.run (record { options = i.1; streams = out.streams }) i.4))

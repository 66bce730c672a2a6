use Rattle.rmx_edge.proofs.Run.{runs_then, runs_stopped}
use Rattle.segmenter.specs.Calls.{end_calls, list_by}
use Rattle.segmenter.specs.Session.{last_stretch}
use Rattle.segmenter.specs.Times.{lowered}
use Rattle.segmenter.proofs.mux.SegMux.end.Goals as goal

pub returns-in-Ok-clause-of : goal.returns-in-Ok-clause-of
returns-in-Ok-clause-of g c = λ plan h. c.write_list.ensures.of plan (record { options = h.options; file = c.in-Ok.ensures.of plan.options.inner plan.streams h.file; video = h.video; reference = h.reference })

pub returns-in-Err-clause-of : goal.returns-in-Err-clause-of
returns-in-Err-clause-of g c = λ plan h. record { options = h.options; file = c.in-Err.ensures.of plan.options.inner plan.streams h.file; video = h.video; reference = h.reference }

pub returns-in-Ok-clause-run : goal.returns-in-Ok-clause-run
unfolding end_calls
returns-in-Ok-clause-run g c = λ s all h shows.
    let l = shows.stands.lists in
    runs_then (c.in-Ok.ensures.run s.plan.options.inner s.plan.streams (lowered s.plan.options.reset (last_stretch s.plan all)) h.file shows.stands.file)
    (c.write_list.ensures.run s all (record { options = h.options; file = c.in-Ok.ensures.of s.plan.options.inner s.plan.streams h.file; video = h.video; reference = h.reference })
    (record { number = l.number; template = l.template; timeline = l.timeline; first = l.first }))

pub returns-in-Err-clause-run : goal.returns-in-Err-clause-run
unfolding end_calls
returns-in-Err-clause-run g c = λ s all h shows.
    runs_stopped (list_by s s.plan.options.list all) (c.in-Err.ensures.run s.plan.options.inner s.plan.streams (lowered s.plan.options.reset (last_stretch s.plan all)) h.file shows.stands.file)

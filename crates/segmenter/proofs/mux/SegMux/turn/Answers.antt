use Rattle.std.proofs.Common.{refl}
use Rattle.segmenter.specs.FileMux.{begin_of, end_of}
use Rattle.segmenter.proofs.FileLemmas.{begins, behind_create, behind_creates, end_creates}
use Rattle.segmenter.proofs.NumberLemmas.{none_then_one, numbered_stopped, takes_none}
use Rattle.segmenter.proofs.mux.SegMux.turn.Goals as goal

pub returns-in-Ok-clause-of : goal.returns-in-Ok-clause-of
returns-in-Ok-clause-of g c = λ plan h. c.begin_file.ensures.of plan (record { options = h.options; file = c.in-Ok.ensures.of plan.options.inner plan.streams h.file; video = h.video; reference = h.reference })

pub returns-in-Err-clause-of : goal.returns-in-Err-clause-of
returns-in-Err-clause-of g c = λ plan h. record { options = h.options; file = c.in-Err.ensures.of plan.options.inner plan.streams h.file; video = h.video; reference = h.reference }

pub returns-in-Ok-clause-run : goal.returns-in-Ok-clause-run
returns-in-Ok-clause-run g c = λ plan before h after.
    let f = plan.options.inner in
    let streams = plan.streams in
    none_then_one (end_of f streams before) (begin_of f streams c.args.name.now) c.args.name.now (behind_create f streams) _ c.begin_file.result _ _ _ _ _
    (end_creates f streams before) (begins f streams c.args.self.now.file c.args.name.now h.file) (behind_creates f streams) c.begin_file.ensures.next
    (c.in-Ok.ensures.run f streams before h.file after)
    (c.begin_file.ensures.run plan (record { options = h.options; file = c.in-Ok.ensures.of f streams h.file; video = h.video; reference = h.reference }))

pub returns-in-Err-clause-run : goal.returns-in-Err-clause-run
returns-in-Err-clause-run g c = λ plan before h after.
    let f = plan.options.inner in
    let streams = plan.streams in
    numbered_stopped (end_of f streams before) (begin_of f streams c.args.name.now) c.in-Err.fault _ _ _ _
    (takes_none (end_of f streams before) _ _ _ _ _ (end_creates f streams before) refl (c.in-Err.ensures.run f streams before h.file after))

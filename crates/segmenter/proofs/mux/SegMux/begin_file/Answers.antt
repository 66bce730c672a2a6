use Rattle.segmenter.proofs.mux.SegMux.begin_file.Goals as goal

pub returns-clause-of : goal.returns-clause-of
returns-clause-of g c = λ plan h. record { options = h.options; file = c.begin.ensures.of plan.options.inner plan.streams h.file; video = h.video; reference = h.reference }

use Rattle.std.proofs.Common.{◌+◌, refl, [], ◌∷◌, ◌++◌, length}
use Rattle.rmx_edge.specs.Count.{raised}
use Rattle.segmenter.specs.Calls.{begin_file, put_in_file, end_file}
use Rattle.segmenter.proofs.FileLemmas.{put_creates}
use Rattle.segmenter.proofs.NumberLemmas.{cut_then, cut_stopped}
use Rattle.segmenter.proofs.mux.SegMux.put_cutting.Goals as goal

pub returns-in-Ok-clause-stands : goal.returns-in-Ok-clause-stands
returns-in-Ok-clause-stands g c = λ s stretch cutters before h st some ok.
    c.write.ensures.stands s [] (cutters ++ c.args.p.now ∷ []) before (c.in-Ok.ensures.of s.plan h) (c.in-Ok.ensures.stands s stretch cutters before h st some refl) ok

pub returns-in-Ok-clause-run : goal.returns-in-Ok-clause-run
returns-in-Ok-clause-run g c = λ s stretch cutters before h st some.
    let after = c.in-Ok.ensures.stands s stretch cutters before h st some refl in
    cut_then (end_file s stretch) (begin_file s (raised s.first (length cutters + 1))) (put_in_file s [] c.args.p.now) _ _ c.write.result _ _ _ _ _ _
    (put_creates s.plan.options.inner s.plan.streams _ _) c.write.ensures.next (c.in-Ok.ensures.run s stretch cutters before h st)
    (c.write.ensures.run s [] (cutters ++ c.args.p.now ∷ []) before (c.in-Ok.ensures.of s.plan h) after)

pub returns-in-Err-clause-run : goal.returns-in-Err-clause-run
returns-in-Err-clause-run g c = λ s stretch cutters before h st some.
    cut_stopped (end_file s stretch) (begin_file s (raised s.first (length cutters + 1))) (put_in_file s [] c.args.p.now) _ _ _ _ _ _ (c.in-Err.ensures.run s stretch cutters before h st)

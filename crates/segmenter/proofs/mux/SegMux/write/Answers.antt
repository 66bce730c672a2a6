use Rattle.std.proofs.Common.{◌≡◌, ◌∙◌, sym, subst, List, [], ◌∷◌, ◌++◌, ℤ, Option, None, to_z, of_z, w64}
use Rattle.rmx_edge.specs.Run.{Runs}
use Rattle.rmx_media.specs.declared.packet.Packet.{Packet}
use Rattle.segmenter.specs.FileMux.{put_of, FileAfter}
use Rattle.segmenter.specs.declared.file_mux.FileMux.{FileMux}
use Rattle.segmenter.specs.Times.{lowered_by, base_of, lowered}
use Rattle.segmenter.proofs.TimesLemmas.{fits_itself, fits_lowered, bits_dts, base_is, lowered_push}
use Rattle.segmenter.proofs.mux.SegMux.write.Goals as goal

pub put_lowered-requires-clause-fits : goal.put_lowered-requires-clause-fits
put_lowered-requires-clause-fits g c =
    let plan = c.requires.fits.0 in
    let is = c.pass.ensures.of plan c.requires.fits.1 in
    let fits = c.requires.fits.2 in
    let base : ℤ = c.in-Some.base in (
      plan.options.inner,
      plan.streams,
      is.file,
      fits_itself plan.options.inner plan.streams c.args.p.now fits,
      fits_lowered plan.options.inner plan.streams c.args.p.now (to_z w64 (of_z w64 base)) fits (bits_dts base (c.pass.new.self.base_near base c.in-Some.is)),
    )

pub returns-in-Some-clause-of : goal.returns-in-Some-clause-of
returns-in-Some-clause-of g c = λ plan h. let k = c.pass.ensures.of plan h in record {
  options = k.options;
  file = c.put_lowered.ensures.of plan.options.inner plan.streams k.file;
  video = k.video;
  reference = k.reference;
}

pub returns-in-None-clause-of : goal.returns-in-None-clause-of
returns-in-None-clause-of g c = λ plan h. let k = c.pass.ensures.of plan h in record {
  options = k.options;
  file = c.put.ensures.of plan.options.inner plan.streams k.file;
  video = k.video;
  reference = k.reference;
}

pub returns-in-Some-clause-stands : goal.returns-in-Some-clause-stands
returns-in-Some-clause-stands g c = λ s stretch cutters before h st ok.
    let p : Packet = c.args.p.now in
    let reset = s.plan.options.reset in
    let base : c.pass.new.self.base ≡ base_of reset (stretch ++ p ∷ []) = c.pass.ensures.base s stretch h st.base in
    let passed = base_is c.in-Some.base c.pass.new.self.base (c.pass.new.self.base_near c.in-Some.base c.in-Some.is) c.in-Some.is ∙ base in
    let stands = subst (λ (m : FileMux). FileAfter (lowered reset stretch) m) (sym c.pass.ensures.kept) st.file in
    let l = c.pass.ensures.lists s cutters before st.lists in record {
      file =
          subst (λ (ps : List Packet). FileAfter ps c.put_lowered.new.self) (sym (lowered_push reset stretch p))
          (subst (λ (b : Option ℤ). FileAfter (lowered reset stretch ++ lowered_by b p ∷ []) c.put_lowered.new.self) passed (c.put_lowered.ensures.after (lowered reset stretch) stands ok));
      base = base;
      next = c.pass.ensures.next ∙ st.next;
      lists = record { number = l.number; template = l.template; timeline = l.timeline; first = l.first };
    }

pub returns-in-None-clause-stands : goal.returns-in-None-clause-stands
returns-in-None-clause-stands g c = λ s stretch cutters before h st ok.
    let p : Packet = c.args.p.now in
    let reset = s.plan.options.reset in
    let base : c.pass.new.self.base ≡ base_of reset (stretch ++ p ∷ []) = c.pass.ensures.base s stretch h st.base in
    let passed : None ≡ base_of reset (stretch ++ p ∷ []) = sym c.in-None.is ∙ base in
    let stands = subst (λ (m : FileMux). FileAfter (lowered reset stretch) m) (sym c.pass.ensures.kept) st.file in
    let l = c.pass.ensures.lists s cutters before st.lists in record {
      file =
          subst (λ (ps : List Packet). FileAfter ps c.put.new.self) (sym (lowered_push reset stretch p))
          (subst (λ (b : Option ℤ). FileAfter (lowered reset stretch ++ lowered_by b p ∷ []) c.put.new.self) passed (c.put.ensures.after (lowered reset stretch) stands ok));
      base = base;
      next = c.pass.ensures.next ∙ st.next;
      lists = record { number = l.number; template = l.template; timeline = l.timeline; first = l.first };
    }

pub returns-in-Some-clause-run : goal.returns-in-Some-clause-run
returns-in-Some-clause-run g c = λ s stretch cutters before h st.
    let p : Packet = c.args.p.now in
    let reset = s.plan.options.reset in
    let base : c.pass.new.self.base ≡ base_of reset (stretch ++ p ∷ []) = c.pass.ensures.base s stretch h st.base in
    let passed = base_is c.in-Some.base c.pass.new.self.base (c.pass.new.self.base_near c.in-Some.base c.in-Some.is) c.in-Some.is ∙ base in
    let stands = subst (λ (m : FileMux). FileAfter (lowered reset stretch) m) (sym c.pass.ensures.kept) st.file in
    let k = c.pass.ensures.of s.plan h in
    subst (λ (b : Option ℤ). Runs (put_of s.plan.options.inner s.plan.streams (lowered reset stretch) (lowered_by b p)) c.put_lowered.result (g.S.Shelf.state c.args.shelf.now) (g.S.Shelf.state c.put_lowered.new.shelf)) passed
    (c.put_lowered.ensures.run s.plan.options.inner s.plan.streams (lowered reset stretch) k.file stands)

pub returns-in-None-clause-run : goal.returns-in-None-clause-run
returns-in-None-clause-run g c = λ s stretch cutters before h st.
    let p : Packet = c.args.p.now in
    let reset = s.plan.options.reset in
    let base : c.pass.new.self.base ≡ base_of reset (stretch ++ p ∷ []) = c.pass.ensures.base s stretch h st.base in
    let passed : None ≡ base_of reset (stretch ++ p ∷ []) = sym c.in-None.is ∙ base in
    let stands = subst (λ (m : FileMux). FileAfter (lowered reset stretch) m) (sym c.pass.ensures.kept) st.file in
    let k = c.pass.ensures.of s.plan h in
    subst (λ (b : Option ℤ). Runs (put_of s.plan.options.inner s.plan.streams (lowered reset stretch) (lowered_by b p)) c.put.result (g.S.Shelf.state c.args.shelf.now) (g.S.Shelf.state c.put.new.shelf)) passed
    (c.put.ensures.run s.plan.options.inner s.plan.streams (lowered reset stretch) k.file stands)

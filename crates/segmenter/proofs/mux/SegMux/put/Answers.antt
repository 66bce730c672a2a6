use Rattle.std.proofs.Common.{◌≡◌, ◌∙◌, ap, sym, subst, inl, List, ℕ, Bool, [], ◌∷◌, ◌++◌, ◌&&◌, true, false}
use Rattle.std.specs.Prelude.{map, reverse, is_some}
use Rattle.playlist.specs.declared.seg_options.SegOptions.{SegOptions}
use Rattle.rmx_edge.specs.Shelf.{ShelfCall}
use Rattle.rmx_media.specs.declared.packet.Format.{Format}
use Rattle.rmx_media.specs.declared.packet.Packet.{Packet}
use Rattle.rmx_media.specs.Fits.{Fits}
use Rattle.segmenter.specs.Cuts.{Mark}
use Rattle.segmenter.specs.Cutter.{Shows as CutterShows}
use Rattle.segmenter.specs.declared.cutter.Cutter.{Cutter}
use Rattle.segmenter.specs.Numbers.{RunsOrWants}
use Rattle.segmenter.specs.SegMux.{Stands, next_of}
use Rattle.segmenter.specs.Session.{rule_of, mark_of, cuts_in, cutting, last_stretch}
use Rattle.segmenter.proofs.FileLemmas.{put_creates}
use Rattle.segmenter.proofs.NumberLemmas.{takes_none}
use Rattle.segmenter.proofs.PutLemmas.{cut_calls, stay_calls, put_cut, put_stay, some_before, asked_cut, stretch_cut, stretch_stay, cutting_cut, cutting_stay, calls_end}
use Rattle.segmenter.proofs.SessionLemmas.{marks_push, cuts_are}
use Rattle.segmenter.proofs.mux.SegMux.put.Goals as goal

pub returns-then-cuts-clause-shows : goal.returns-then-cuts-clause-shows
returns-then-cuts-clause-shows g c = λ s before h shows ok.
    let p : Packet = c.args.p.now in
    let new = c.put_cutting.new.self in
    let marks : List Mark = map (mark_of s.plan) (reverse before) in
    let asks = c.cuts.ensures.asks s.plan h in
    let cut : cuts_in s.plan before p ≡ true = sym (cuts_are s.plan before p) ∙ sym (asks.cuts_so marks shows.cutter) ∙ c.if-cuts.true in
    let stands = c.put_cutting.ensures.stands s (last_stretch s.plan before) (cutting s.plan before) before (c.cuts.ensures.of s.plan h)
    (c.cuts.ensures.stands s (last_stretch s.plan before) (cutting s.plan before) before shows.stands) (some_before s.plan before p cut) ok in record {
      cutter =
          subst (λ (ms : List Mark). CutterShows new.cutter (rule_of s.plan) ms) (sym (marks_push s.plan before p))
          (subst (λ (cutter : Cutter). CutterShows cutter (rule_of s.plan) (mark_of s.plan p ∷ marks)) (sym c.put_cutting.ensures.cutter) (asks.shows marks shows.cutter));
      stands =
          subst (λ (l : List Packet). Stands new s l (cutting s.plan (before ++ p ∷ [])) (before ++ p ∷ [])) (sym (stretch_cut s.plan before p cut))
          (subst (λ (l : List Packet). Stands new s (p ∷ []) l (before ++ p ∷ [])) (sym (cutting_cut s.plan before p cut)) stands);
    }

pub returns-clause-shows : goal.returns-clause-shows
returns-clause-shows g c = λ s before h shows ok.
    let p : Packet = c.args.p.now in
    let new = c.write.new.self in
    let marks : List Mark = map (mark_of s.plan) (reverse before) in
    let asks = c.cuts.ensures.asks s.plan h in
    let stay : cuts_in s.plan before p ≡ false = sym (cuts_are s.plan before p) ∙ sym (asks.cuts_so marks shows.cutter) ∙ c.if-cuts.false in
    let stands = c.write.ensures.stands s (last_stretch s.plan before) (cutting s.plan before) before (c.cuts.ensures.of s.plan h)
    (c.cuts.ensures.stands s (last_stretch s.plan before) (cutting s.plan before) before shows.stands) ok in record {
      cutter =
          subst (λ (ms : List Mark). CutterShows new.cutter (rule_of s.plan) ms) (sym (marks_push s.plan before p))
          (subst (λ (cutter : Cutter). CutterShows cutter (rule_of s.plan) (mark_of s.plan p ∷ marks)) (sym c.write.ensures.cutter) (asks.shows marks shows.cutter));
      stands =
          subst (λ (l : List Packet). Stands new s l (cutting s.plan (before ++ p ∷ [])) (before ++ p ∷ [])) (sym (stretch_stay s.plan before p stay))
          (subst (λ (l : List Packet). Stands new s (last_stretch s.plan before ++ p ∷ []) l (before ++ p ∷ [])) (sym (cutting_stay s.plan before p stay)) stands);
    }

pub returns-then-cuts-clause-run : goal.returns-then-cuts-clause-run
returns-then-cuts-clause-run g c = λ s before h shows.
    let p : Packet = c.args.p.now in
    let marks : List Mark = map (mark_of s.plan) (reverse before) in
    let asks = c.cuts.ensures.asks s.plan h in
    let cut : cuts_in s.plan before p ≡ true = sym (cuts_are s.plan before p) ∙ sym (asks.cuts_so marks shows.cutter) ∙ c.if-cuts.true in
    let a = g.S.Shelf.state c.args.shelf.now in
    let b = g.S.Shelf.state c.put_cutting.new.shelf in
    let run = c.put_cutting.ensures.run s (last_stretch s.plan before) (cutting s.plan before) before (c.cuts.ensures.of s.plan h)
    (c.cuts.ensures.stands s (last_stretch s.plan before) (cutting s.plan before) before shows.stands) (some_before s.plan before p cut) in
    let asked : Bool = is_some s.plan.options.list in
    subst (λ (calls : List ShelfCall). RunsOrWants calls (asked && cuts_in s.plan before p) c.put_cutting.result (next_of c.args.self.now) (next_of c.put_cutting.new.self) a b) (sym (put_cut s before p cut))
    (subst (λ (k : Bool). RunsOrWants (cut_calls s before p) k c.put_cutting.result (next_of c.args.self.now) (next_of c.put_cutting.new.self) a b) (asked_cut asked (cuts_in s.plan before p) cut)
    (subst (λ (n : ℕ). RunsOrWants (cut_calls s before p) asked c.put_cutting.result n (next_of c.put_cutting.new.self) a b) c.cuts.ensures.next run))

pub returns-clause-run : goal.returns-clause-run
returns-clause-run g c = λ s before h shows.
    let p : Packet = c.args.p.now in
    let marks : List Mark = map (mark_of s.plan) (reverse before) in
    let asks = c.cuts.ensures.asks s.plan h in
    let stay : cuts_in s.plan before p ≡ false = sym (cuts_are s.plan before p) ∙ sym (asks.cuts_so marks shows.cutter) ∙ c.if-cuts.false in
    let run = c.write.ensures.run s (last_stretch s.plan before) (cutting s.plan before) before (c.cuts.ensures.of s.plan h)
    (c.cuts.ensures.stands s (last_stretch s.plan before) (cutting s.plan before) before shows.stands) in
    subst (λ (calls : List ShelfCall). RunsOrWants calls (is_some s.plan.options.list && cuts_in s.plan before p) c.write.result (next_of c.args.self.now) (next_of c.write.new.self) (g.S.Shelf.state c.args.shelf.now) (g.S.Shelf.state c.write.new.shelf)) (sym (put_stay s before p stay))
    (inl (takes_none (stay_calls s before p) c.write.result _ _ _ _ (put_creates s.plan.options.inner s.plan.streams _ _) (c.write.ensures.next ∙ c.cuts.ensures.next) run))

pub returns-then-cuts-clause-ends : goal.returns-then-cuts-clause-ends
returns-then-cuts-clause-ends g c = λ s before h.
    let plan = c.requires.fits.0 in
    let same = ap (λ (o : SegOptions). o.inner) (sym c.requires.fits.1.options ∙ h.options) in
    calls_end s plan.streams before c.args.p.now (subst (λ (f : Format). Fits f plan.streams c.args.p.now) same c.requires.fits.2)

pub returns-clause-ends : goal.returns-clause-ends
returns-clause-ends g c = λ s before h.
    let plan = c.requires.fits.0 in
    let same = ap (λ (o : SegOptions). o.inner) (sym c.requires.fits.1.options ∙ h.options) in
    calls_end s plan.streams before c.args.p.now (subst (λ (f : Format). Fits f plan.streams c.args.p.now) same c.requires.fits.2)

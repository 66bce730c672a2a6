use Rattle.std.proofs.Common.{rules, ◌≡◌, ◌∙◌, ◌+◌, ap, sym, subst, ℕ, [], ◌∷◌, ◌++◌, length, true, length-append}
use Rattle.std.specs.Prelude.{is_ok}
use Rattle.rmx_edge.specs.Count.{raised}
use Rattle.rmx_edge.proofs.Run.{raised-raised}
use Rattle.rmx_media.specs.declared.packet.Packet.{Packet}
use Rattle.segmenter.specs.Timeline.{Shows as TimelineShows}
use Rattle.segmenter.specs.declared.timeline.Timeline.{Timeline}
use Rattle.segmenter.proofs.TimesLemmas.{none_yet}
use Rattle.segmenter.proofs.mux.SegMux.cut.Goals as goal

pub returns-clause-stands : goal.returns-clause-stands
returns-clause-stands g c = λ s stretch cutters before h st some ok.
    let p : Packet = c.args.p.now in
    let noted : is_ok c.note_cut.result ≡ true = search rules in
    let count : length cutters + 1 ≡ length (cutters ++ p ∷ []) = sym (length-append cutters (p ∷ [])) in
    let kept = c.note_cut.ensures.kept in
    let here : c.note_cut.new.self.next ≡ raised s.first (length (cutters ++ p ∷ [])) = kept.next ∙ st.next ∙ ap (raised s.first) count in record {
      file = c.turn.ensures.after ok;
      base = c.turn.ensures.base ∙ none_yet s.plan.options.reset;
      next = c.turn.ensures.next ok ∙ ap (λ (n : ℕ). raised n 1) here ∙ raised-raised s.first (length (cutters ++ p ∷ [])) 1;
      lists = record {
        number = c.turn.ensures.number ok ∙ here;
        template = c.turn.ensures.kept.template ∙ kept.template ∙ st.lists.template;
        timeline = λ listed.
            subst (λ (t : Timeline). TimelineShows t s (cutters ++ p ∷ []) before) (sym c.turn.ensures.kept.timeline) (c.note_cut.ensures.timeline s cutters before h st.lists noted listed);
        first = λ none. absurd (some none);
      };
    }

use Rattle.std.proofs.Common.{rules, ◌≡◌, ◌∙◌, ap, sym, subst, refl, inl, List, ℕ, [], true}
use Rattle.std.specs.Prelude.{is_ok}
use Rattle.rmx_edge.specs.Run.{Runs}
use Rattle.playlist.specs.declared.seg_options.SegOptions.{SegOptions}
use Rattle.rmx_edge.specs.Count.{raised}
use Rattle.rmx_media.specs.declared.packet.Packet.{Packet}
use Rattle.segmenter.specs.declared.cutter.Cutter.{Cutter}
use Rattle.segmenter.specs.declared.timeline.Timeline.{Timeline}
use Rattle.segmenter.specs.Cutter.{Shows as CutterShows}
use Rattle.segmenter.specs.FileMux.{begin_of}
use Rattle.segmenter.specs.SegMux.{next_of, Stands}
use Rattle.segmenter.specs.Session.{Session, rule_of, cutting}
use Rattle.segmenter.specs.Timeline.{Shows as TimelineShows}
use Rattle.segmenter.proofs.SessionLemmas.{last_stretch_none, cutting_none}
use Rattle.segmenter.proofs.TimelineLemmas.{raised_none}
use Rattle.segmenter.proofs.TimesLemmas.{none_yet}
use Rattle.playlist.specs.Template.{name_of}
use Rattle.segmenter.proofs.FileLemmas.{begins, behind_create, behind_creates}
use Rattle.segmenter.proofs.NumberLemmas.{takes_one}
use Rattle.segmenter.proofs.mux.SegMux.begin.Goals as goal

pub returns-clause-shows : goal.returns-clause-shows
returns-clause-shows g c = λ plan h ok.
    let s : Session = record { plan = plan; template = c.args.template.now; first = next_of c.args.self.now } in
    let opened : is_ok c.open.result ≡ true = search rules in
    let o = c.open.ensures.open opened in
    let of = c.open.ensures.of plan h in
    let kept = c.begin_file.ensures.kept in
    let stands : Stands c.begin_file.new.self s [] [] [] = record {
      file = c.begin_file.ensures.after ok;
      base = kept.base ∙ o.base ∙ none_yet plan.options.reset;
      next = c.begin_file.ensures.next ∙ ap (λ (n : ℕ). raised n 1) c.open.ensures.next;
      lists = record {
        number = c.begin_file.ensures.number ∙ c.open.ensures.next ∙ sym (raised_none s.first);
        template = kept.template ∙ o.template_is;
        timeline = λ listed. subst (λ (t : Timeline). TimelineShows t s [] []) (sym kept.timeline) (o.timeline s);
        first = λ none. refl;
      };
    } in record {
      cutter =
          subst (λ (cutter : Cutter). CutterShows cutter (rule_of plan) []) (sym kept.cutter)
          (subst (λ (options : SegOptions). CutterShows c.open.new.self.cutter (record { time_us = options.time_us; any_packet = options.any_packet }) []) of.options o.cutter);
      stands =
          subst (λ (l : List Packet). Stands c.begin_file.new.self s l (cutting plan []) []) (sym (last_stretch_none plan))
          (subst (λ (l : List Packet). Stands c.begin_file.new.self s [] l []) (sym (cutting_none plan)) stands);
    }

pub returns-clause-run : goal.returns-clause-run
returns-clause-run g c = λ plan h.
    let f = plan.options.inner in
    let streams = plan.streams in
    let is = c.open.ensures.of plan h in
    let name : c.as_str.result.now ≡ name_of c.args.template.now c.args.self.now.next = c.as_str.ensures.value ∙ c.name.ensures ∙ ap (name_of c.args.template.now) c.open.ensures.next in
    let run = subst (λ (n : List ℕ). Runs (begin_of f streams n) c.begin_file.result (g.S.Shelf.state c.args.shelf.now) (g.S.Shelf.state c.begin_file.new.shelf)) name (c.begin_file.ensures.run plan is) in
    let next = c.begin_file.ensures.next ∙ ap (λ (n : ℕ). raised n 1) c.open.ensures.next in
    inl (takes_one (begin_of f streams (name_of c.args.template.now c.args.self.now.next)) (name_of c.args.template.now c.args.self.now.next) (behind_create f streams) c.begin_file.result _ _ _ _
    (begins f streams c.open.new.self.file (name_of c.args.template.now c.args.self.now.next) is.file) (behind_creates f streams) next run)

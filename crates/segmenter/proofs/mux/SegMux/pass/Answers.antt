use Rattle.segmenter.proofs.TimelineLemmas.{passed, never_empty}
use Rattle.segmenter.proofs.mux.SegMux.pass.Goals as goal

pub returns-clause-lists : goal.returns-clause-lists
returns-clause-lists c = λ s cutters before h. record {
  number = h.number;
  template = h.template;
  timeline = λ listed. passed c.args.self.now.timeline c.pass.new.self s cutters before c.args.p.now h.first (h.timeline listed) c.pass.ensures.entries c.pass.ensures.start c.pass.ensures.zero c.pass.ensures.top;
  first = λ e. absurd (never_empty before c.args.p.now e);
}

use Rattle.segmenter.proofs.TimelineLemmas.{split_at, room_made}
use Rattle.segmenter.proofs.mux.SegMux.note_cut.Goals as goal

pub returns-in-Ok-clause-timeline : goal.returns-in-Ok-clause-timeline
returns-in-Ok-clause-timeline c = λ s cutters before h lists ok listed.
    let there = room_made c.args.self.now.timeline c.reserve.new.self s cutters before c.in-Ok.ensures.kept c.in-Ok.ensures.entries (lists.timeline listed) in
    split_at c.reserve.new.self c.split.new.self s cutters before c.args.p.now c.args.self.now.number there lists.number c.split.ensures.entries c.split.ensures.start c.split.ensures.zero c.split.ensures.top

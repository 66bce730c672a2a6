use Rattle.std.proofs.Common.{◌≡◌, ◌∙◌, sym, refl, true, false, ◌++◌}
use Rattle.flv_demux.specs.Steps.{is_refusal}
use Rattle.flv_demux.proofs.Telling.{nexts, nexts_told, refused_any}
use Rattle.flv_demux.proofs.demuxer.Demuxer.next_packet.Goals as goal

pub returns-then-is_refusal-clause-next : goal.returns-then-is_refusal-clause-next
returns-then-is_refusal-clause-next c = λ fed done h.
    let t : is_refusal c.advance-answer.result ≡ true = sym c.is_refusal.ensures ∙ c.if-is_refusal.true in
    refused_any fed done c.args.self.now c.advance-answer.new.self.core h c.advance-answer.ensures.keeps c.advance-answer.result c.args.self.now.core.reader.ended c.advance-answer.new.self refl c.advance-answer.ensures.shown t (c.advance-answer.ensures.next fed (done ++ h.quiet) h.inner)

pub returns-clause-next : goal.returns-clause-next
returns-clause-next c = λ fed done h.
    let f : is_refusal c.advance-answer.result ≡ false = sym c.is_refusal.ensures ∙ c.if-is_refusal.false in
    nexts_told c.advance-answer.result fed done c.args.self.now.core.reader.ended c.args.self.now c.tell.new.self c.advance-answer.new.self.core c.tell.ensures.core c.tell.ensures.shown
    (nexts fed done c.args.self.now c.advance-answer.new.self.core h c.advance-answer.ensures.keeps c.advance-answer.result c.args.self.now.core.reader.ended c.advance-answer.ensures.ended f (c.advance-answer.ensures.next fed (done ++ h.quiet) h.inner))

use Rattle.std.proofs.Common.{[], refl}
use Rattle.remux.proofs.Demuxing.{firsts_by, nexts_by}
use Rattle.remux.proofs.demux.DemuxerDemux.next_packet.Goals as goal

pub returns-clause-first : goal.returns-clause-first
returns-clause-first c = λ b k h. firsts_by c.next_packet.result b _ c.args.self.now c.next_packet.new.self c.next_packet.ensures.ended (c.next_packet.ensures.next b [] h)

pub returns-clause-step : goal.returns-clause-step
returns-clause-step c = λ s b done k some h.
    nexts_by c.next_packet.result s b done _ c.args.self.now c.next_packet.new.self refl c.next_packet.ensures.ended k some h (c.next_packet.ensures.next b done h)

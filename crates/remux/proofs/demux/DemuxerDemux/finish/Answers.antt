use Rattle.remux.proofs.Demuxing.{told_ended}
use Rattle.remux.proofs.demux.DemuxerDemux.finish.Goals as goal

pub returns-clause-known : goal.returns-clause-known
returns-clause-known c = λ b done h. told_ended b done _ _ h (c.finish.ensures.dealt b done h) c.finish.ensures.shown

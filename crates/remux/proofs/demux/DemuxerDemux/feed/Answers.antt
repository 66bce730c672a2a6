use Rattle.remux.proofs.Demuxing.{told_after}
use Rattle.remux.proofs.demux.DemuxerDemux.feed.Goals as goal

pub returns-clause-known : goal.returns-clause-known
returns-clause-known c = told_after c.feed.result _ _ _ c.feed.ensures.fed c.feed.ensures.err c.feed.ensures.shown c.requires

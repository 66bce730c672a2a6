use Rattle.std.proofs.Common.{sym, subst}
use Rattle.flv_demux.specs.State.{HasDealt}
use Rattle.flv_tags.specs.TagReader.{state_of}
use Rattle.flv_demux.proofs.Telling.{ended_dealt}
use Rattle.flv_demux.proofs.demuxer.Demuxer.finish.Goals as goal

pub returns-clause-dealt : goal.returns-clause-dealt
returns-clause-dealt c = λ fed done h. ended_dealt fed done _ (state_of c.finish.new.self) c.finish.ensures.ended (c.finish.ensures.fed fed) (subst (HasDealt fed done) (sym c.self.view_is) h)

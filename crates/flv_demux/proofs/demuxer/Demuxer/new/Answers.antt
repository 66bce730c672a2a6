use Rattle.flv_tags.specs.TagReader.{state_of}
use Rattle.flv_demux.proofs.Telling.{new_dealt}
use Rattle.flv_demux.proofs.demuxer.Demuxer.new.Goals as goal

pub returns-clause-dealt : goal.returns-clause-dealt
returns-clause-dealt c = new_dealt (state_of c.new.result) c.new-2.result.items c.no_probe.result c.new-3.result.items c.new_desk.result c.new.ensures.fed c.new-2.ensures c.no_probe.ensures.value c.new_desk.ensures.value

-- What clauses see of a demuxer.
use Rattle.flv_tags.specs.TagReader.{state_of}
use Rattle.flv_demux.specs.declared.demuxer.Demuxer.TheInside.{Inside}
use Rattle.flv_demux.specs.Probe.{IsSoundProbe}
use Rattle.flv_demux.specs.Deal.{IsSoundDesk}
use Rattle.flv_demux.specs.State.{DemuxState, HaveSmallBodies, AreSoundInfos}
use Rattle.flv_demux.specs.Steps.{core_at}

abbrev pub view_of : Inside → DemuxState
view_of s = record { core = core_at (state_of s.reader) s.waiting.items s.streams s.desk; shown = s.shown }

pub record IsWhole (s : Inside) : Type 0 where
  pub bodies : HaveSmallBodies s.waiting.items
  pub probe : IsSoundProbe s.streams.probe
  pub infos : AreSoundInfos s.streams.infos.items
  pub desk : IsSoundDesk s.desk

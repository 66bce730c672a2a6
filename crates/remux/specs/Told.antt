-- What a demuxer tells of the kinds that have a stream.
use Rattle.std.specs.Prelude.{Option, None, if◌then◌else◌}
use Rattle.flv_demux.specs.declared.deal.Kinds.{Kinds}
use Rattle.flv_demux.specs.State.{DemuxState}

abbrev pub told : DemuxState → Option Kinds
told d = if d.shown.known then d.core.known else None

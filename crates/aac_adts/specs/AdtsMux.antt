-- What clauses see of a muxer for ADTS.
use Rattle.rmx_media.specs.declared.streams.MuxStreams.{MuxStreams}
use Rattle.aac_adts.specs.declared.mux.AdtsMux.{AdtsMux}

abbrev pub streams_of : AdtsMux → MuxStreams
streams_of m = m.streams

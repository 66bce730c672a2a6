-- What clauses see of a muxer for FLV.
use Rattle.std.specs.Prelude.{◌≡◌, List}
use Rattle.rmx_media.specs.declared.packet.Packet.{Packet}
use Rattle.rmx_media.specs.declared.streams.MuxStreams.{MuxStreams}
use Rattle.flv_mux.specs.declared.mux.FlvMux.{FlvMux}
use Rattle.flv_mux.specs.Flv.{version_in, video_time}

abbrev pub streams_of : FlvMux → MuxStreams
streams_of m = m.streams

-- the muxer stands behind these packets of its file
pub record Shows (m : FlvMux) (before : List Packet) : Type 0 where
  -- the version of each stream is that of its last packet
  pub first : m.first.version ≡ version_in m.first.stream before
  pub second : m.second.version ≡ version_in m.second.stream before
  -- the time is that of the last video packet
  pub time : m.video_time ≡ video_time before

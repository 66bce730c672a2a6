-- What clauses see of a muxer.
use Rattle.std.specs.Prelude.{◌≡◌, List, reverse}
use Rattle.rmx_media.specs.declared.packet.Packet.{Packet}
use Rattle.rmx_media.specs.declared.streams.MuxStream.{MuxStream}
use Rattle.rmx_media.specs.declared.streams.MuxStreams.{MuxStreams}
use Rattle.ts_mux.specs.declared.mux.TsMux.{TsMux}
use Rattle.ts_mux.specs.Past.{Past, past_after}

-- the streams that it was made for
abbrev pub streams_of : TsMux → MuxStreams
streams_of mux = mux.streams

abbrev pub list_of : TsMux → List MuxStream
list_of mux = (streams_of mux).streams.items

abbrev pub past_of : TsMux → Past
past_of mux = record { last = mux.last; tables = mux.tables.counter; first = mux.first; second = mux.second }

-- its file has these packets, in their order
unfoldable pub Shows : TsMux → List Packet → Type 0
Shows mux before = past_of mux ≡ past_after (list_of mux) (reverse before)

-- Packets at other times than their own.
use Rattle.std.specs.Prelude.{ℤ}
use Rattle.rmx_media.specs.declared.packet.Packet.{Packet}
use Rattle.ts_mux.specs.declared.timed.Timed.{Timed}

-- the packet at these times
abbrev pub at_times : ℤ → ℤ → Packet → Packet
at_times dts pts p = record p { dts = dts; pts = pts }

-- the packet as it is written
abbrev pub packet_of : Timed → Packet
packet_of t = at_times t.dts t.pts t.packet.now

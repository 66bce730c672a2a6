-- What a lane is for, beside what an output takes.
use Rattle.rmx_media.specs.Fits.{Fits}
use Rattle.rmx_media.specs.declared.packet.Packet.{Packet}
use Rattle.lane.specs.declared.msg.Purpose.{Purpose}
use Rattle.slave.specs.Origin.{Origin}
use Rattle.slave.specs.Table.{Takes}

-- the output takes each packet for which the lane is
abbrev pub IsFor : Origin → Purpose → Type 0
IsFor g about = (p : Packet) → Fits about.format about.streams.value p → Takes g p

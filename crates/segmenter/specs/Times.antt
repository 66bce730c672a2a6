-- Times that are lowered, so that a file begins at 0.
use Rattle.std.specs.Prelude.{ℤ, ◌-ℤ◌, Bool, if◌then◌else◌, List, [], ◌∷◌, map, Option, None, Some}
use Rattle.rmx_media.specs.declared.packet.Packet.{Packet}

-- the packet with its times lowered by so much
abbrev pub lowered_by : Option ℤ → Packet → Packet
lowered_by None p = p
lowered_by (Some by) p = record p { dts = p.dts -ℤ by; pts = p.pts -ℤ by }

abbrev pub first_dts : List Packet → Option ℤ
first_dts [] = None
first_dts (p ∷ ps) = Some p.dts

-- by how much the times of a file's packets are lowered, where that is asked: by the dts of the first
abbrev pub base_of : Bool → List Packet → Option ℤ
base_of reset packets = if reset then first_dts packets else None

-- the packets as they are written into the file
abbrev pub lowered : Bool → List Packet → List Packet
lowered reset packets = map (lowered_by (base_of reset packets)) packets

-- Packets.
use Rattle.std.specs.Prelude.{ℕ, ◌==◌, ◌&&◌, Bool, true, Option, None, Some}
use Rattle.rmx_media.specs.declared.packet.Packet.{Packet}

-- whether an output may begin at this packet, where its video has that number
abbrev pub is_restart : Packet → Option ℕ → Bool
is_restart p None = true
is_restart p (Some video) = (p.stream == video) && p.key

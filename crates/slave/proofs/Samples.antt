-- Packets of tests.
use Rattle.std.proofs.Common.{◌≡◌}
use Rattle.rmx_media.specs.declared.packet.Packet.{Packet}
use Rattle.rmx_media.specs.declared.streams.Kind.{Kind}
use Rattle.rmx_media.specs.declared.streams.Kind.TheVariants.{Video, Audio}
use Rattle.rmx_media.specs.Fits.{Fits}
use Rattle.slave.specs.Origin.{Origin}
use Rattle.slave.specs.Sample.{format_for}
use Rattle.slave.specs.Table.{Takes}

-- outputs of one file take packets that fit their format
pub takes_sample : (kind : Kind) (out : Origin) (p : Packet) → out.format ≡ format_for kind → Fits (format_for kind) out.streams p → Takes out p
takes_sample Video out p e f = rw e f
takes_sample Audio out p e f = rw e f

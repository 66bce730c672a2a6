use Rattle.std.proofs.Common.{◌≡◌, List, length, Some}
use Rattle.fifo_core.specs.declared.types.FifoOptions.{FifoOptions}
use Rattle.rmx_edge.specs.MemShelf.{state_of}
use Rattle.rmx_media.specs.declared.packet.Format.TheVariants as format
use Rattle.rmx_media.specs.declared.packet.Packet.{Packet}
use Rattle.rmx_media.specs.declared.streams.Kind.TheVariants.{Audio}
use Rattle.rmx_media.specs.Streams.{kind_in}
use Rattle.slave.specs.Origin.{Origin}
use Rattle.slave.specs.Job.{view_of}
use Rattle.slave.specs.Segments.{file_format}
use Rattle.slave.specs.Table.{Keeps}
use Rattle.slave.proofs.tests.segmented.Given as goal

abbrev pub invariant-loop-time : goal.invariant-loop-time
invariant-loop-time l =
    (out : Origin) × (o : FifoOptions) × (L : List Packet) × Keeps out o L (view_of state_of l.job) × (length L ≡ l.index) × (l.index ≡ l.time-index)
    × (file_format out.format out.seg ≡ format.Adts) × (kind_in out.streams.streams.items 1 ≡ Some Audio)

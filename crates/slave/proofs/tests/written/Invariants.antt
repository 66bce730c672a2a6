use Rattle.std.proofs.Common.{◌≡◌, List, length, Some}
use Rattle.fifo_core.specs.declared.types.FifoOptions.{FifoOptions}
use Rattle.rmx_media.specs.declared.packet.Packet.{Packet}
use Rattle.rmx_media.specs.Streams.{kind_in}
use Rattle.slave.specs.Origin.{Origin}
use Rattle.slave.specs.Sample.{format_for}
use Rattle.slave.specs.Job.{view_of}
use Rattle.slave.specs.Table.{Keeps}
use Rattle.slave.proofs.tests.written.Given as goal

abbrev pub invariant-loop-time : goal.invariant-loop-time
invariant-loop-time g l =
    (out : Origin) × (o : FifoOptions) × (L : List Packet) × Keeps out o L (view_of g.S.Shelf.state l.job) × (length L ≡ l.index) × (l.index ≡ l.time-index)
    × (out.format ≡ format_for l.kind) × (kind_in out.streams.streams.items 1 ≡ Some l.kind)

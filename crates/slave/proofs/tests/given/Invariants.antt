use Rattle.std.proofs.Common.{◌≡◌, List, Some}
use Rattle.fifo_core.specs.declared.types.FifoOptions.{FifoOptions}
use Rattle.rmx_media.specs.Streams.{kind_in}
use Rattle.slave.specs.Given.{Given, end_from}
use Rattle.slave.specs.Origin.{Origin}
use Rattle.slave.specs.Sample.{format_for}
use Rattle.slave.specs.Job.{view_of}
use Rattle.slave.specs.Table.{KeepsAll}
use Rattle.slave.proofs.tests.given.Given as goal

abbrev pub invariant-loop-turn : goal.invariant-loop-turn
invariant-loop-turn g l =
    (out : Origin) × (o : FifoOptions) × (T : List Given) × KeepsAll out o T (view_of g.S.Shelf.state l.job) × (end_from 0 T ≡ l.next)
    × (out.format ≡ format_for l.kind) × (kind_in out.streams.streams.items 1 ≡ Some l.kind)

use Rattle.std.proofs.Common.{◌≡◌}
use Rattle.lane.specs.Ring.{one_if}
use Rattle.fifo_core.specs.declared.types.FifoOptions.{FifoOptions}
use Rattle.slave.specs.Origin.{Origin}
use Rattle.slave.specs.Fresh.{IsFresh}
use Rattle.slave.specs.Job.{view_of}
use Rattle.slave.specs.Purpose.{IsFor}
use Rattle.slave.specs.Worked.{fails, got_late}
use Rattle.slave.proofs.Working.{Going}
use Rattle.slave.proofs.run.work.Given as goal

abbrev pub invariant-loop : goal.invariant-loop
invariant-loop g l = record {
  ring : l.taker.ring ≡ l.initial.taker.ring;
  about : l.taker.about ≡ l.initial.taker.about;
  failed_is : l.taker.failed ≡ l.failed;
  once : fails l.taker.past ≡ one_if l.failed;
  going : (out : Origin) (o : FifoOptions) → IsFresh out o (view_of g.S.Shelf.state l.fn.job) → IsFor out l.initial.taker.about
      → Going out o l.taker.got l.taker.numbers l.queue_size l.last l.failed (got_late l.taker.past) (view_of g.S.Shelf.state l.job);
}

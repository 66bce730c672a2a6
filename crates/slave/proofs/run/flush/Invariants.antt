use Rattle.std.proofs.Common.{◌≡◌, List}
use Rattle.fifo_core.specs.declared.types.FifoOptions.{FifoOptions}
use Rattle.slave.specs.Origin.{Origin}
use Rattle.slave.specs.Given.{Given}
use Rattle.slave.specs.Job.{view_of}
use Rattle.slave.specs.Table.{KeepsAll}
use Rattle.slave.specs.Stretches.{AreOf, Flushed}
use Rattle.slave.specs.Worked.{fails}
use Rattle.slave.proofs.run.flush.Given as goal

abbrev pub invariant-loop : goal.invariant-loop
invariant-loop g l = record {
  flushed : (out : Origin) (o : FifoOptions) (T : List Given) (k : KeepsAll out o T (view_of g.S.Shelf.state l.initial.job)) → AreOf T l.initial.taker.got
      → Flushed out o T k.history l.number l.counter l.initial.taker.got l.taker.got (view_of g.S.Shelf.state l.job);
  ring : l.taker.ring ≡ l.initial.taker.ring;
  about : l.taker.about ≡ l.initial.taker.about;
  numbers : l.taker.numbers ≡ l.initial.taker.numbers;
  failed : l.taker.failed ≡ l.initial.taker.failed;
  past : fails l.taker.past ≡ fails l.initial.taker.past;
}

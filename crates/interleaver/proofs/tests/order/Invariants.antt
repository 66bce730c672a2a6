use Rattle.std.proofs.Common.{◌≡◌, false}
use Rattle.interleaver.specs.Queues.{goes}
use Rattle.interleaver.proofs.tests.order.Given as goal

abbrev pub invariant-loop-stream : goal.invariant-loop-stream
invariant-loop-stream l = record {
  streams : l.line.streams ≡ l.streams;
  first_last : l.line.first_last ≡ l.first_last;
  second_last : l.line.second_last ≡ l.second_last;
  open' : l.line.finished ≡ false;
  stuck : goes l.line ≡ false;
}

use Rattle.std.proofs.Common.{◌≡◌, false}
use Rattle.std.specs.Prelude.{◌≤ℤ◌, ◌-ℤ◌, pos}
use Rattle.interleaver.specs.Queues.{goes}
use Rattle.bench_parts.proofs.order.pass.Given as goal

abbrev pub invariant-loop-time : goal.invariant-loop-time
invariant-loop-time l = record {
  streams : l.line.streams ≡ 2;
  first_last : l.line.first_last ≤ℤ pos l.time;
  second_last : l.line.second_last ≤ℤ (pos l.time -ℤ pos l.lag);
  open' : l.line.finished ≡ false;
  stuck : goes l.line ≡ false;
}

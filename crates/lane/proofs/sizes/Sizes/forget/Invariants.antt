use Rattle.std.proofs.Common.{◌≡◌, drop}
use Rattle.std.specs.VecDeque.{deque_capacity}
use Rattle.lane.proofs.sizes.Sizes.forget.Given as goal

abbrev pub invariant-loop : goal.invariant-loop
invariant-loop l = record {
  items : l.self.held.items ≡ drop l.counter l.initial.self.held.items;
  capacity : deque_capacity l.self.held ≡ deque_capacity l.initial.self.held;
}

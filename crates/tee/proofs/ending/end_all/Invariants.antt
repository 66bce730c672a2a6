use Rattle.std.proofs.Common.{◌≡◌, ◌≤◌, ◌++◌, length}
use Rattle.std.specs.List.{AllZip}
use Rattle.std.specs.Vec.Iter.{into_iter_items, into_iter_len}
use Rattle.tee.proofs.Finish.{EndsFor}
use Rattle.tee.proofs.ending.end_all.Given as goal

abbrev pub invariant-loop-slave : goal.invariant-loop-slave
invariant-loop-slave g l = record {
  whole : l.yielded ++ into_iter_items l.slave-iterator ≡ into_iter_items l.initial.slave-iterator;
  left : into_iter_len l.slave-iterator ≡ length (into_iter_items l.slave-iterator);
  room : length (into_iter_items l.slave-iterator) ≤ l.ends.spare;
  ended : AllZip (EndsFor g.S.Shelf.state) l.yielded l.ends.items;
}

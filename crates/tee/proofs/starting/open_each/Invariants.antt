use Rattle.std.proofs.Common.{◌≡◌, ◌≤◌, ◌+◌, ◌++◌, List, ℕ, Option, false, length}
use Rattle.std.specs.Prelude.{All}
use Rattle.std.specs.List.{AllZip}
use Rattle.std.specs.Vec.Iter.{into_iter_items, into_iter_len}
use Rattle.options.specs.Slave.{Slave}
use Rattle.rmx_media.specs.declared.streams.StreamInfo.{StreamInfo}
use Rattle.tee.specs.Berths.{AreOpenOn, IsBerth, inlines}
use Rattle.tee.specs.RunKeeps.{IsCounted}
use Rattle.tee.proofs.starting.open_each.Given as goal

abbrev pub invariant-loop-berth : goal.invariant-loop-berth
invariant-loop-berth g l = record {
  whole : l.yielded ++ into_iter_items l.berth-iterator ≡ into_iter_items l.initial.berth-iterator;
  left : into_iter_len l.berth-iterator ≡ length (into_iter_items l.berth-iterator);
  enough : length (into_iter_items l.berth-iterator) ≤ length l.shelves.items;
  room : length (into_iter_items l.berth-iterator) ≤ l.outlets.spare;
  few : l.number + length (into_iter_items l.berth-iterator) ≤ 16;
  len : length l.outlets.items ≡ length l.yielded;
  idle : All (λ s. (g.S.Shelf.state s).writing ≡ false) l.shelves.items;
  counted : IsCounted (inlines l.outlets.items) (g.P.Spawner.refused l.fn.spawner) (g.P.Spawner.refused l.spawner);
  opened : (infos : List StreamInfo) (script : Option (List ℕ)) (plans : List Slave) → AllZip (IsBerth infos script) plans l.yielded → AreOpenOn g.S.Shelf.state infos script plans l.initial.shelves.items l.outlets.items l.shelves.items;
}

use Rattle.std.proofs.Common.{◌≡◌, ◌≤◌, ◌++◌, List, ℕ, Option, false, length}
use Rattle.std.specs.Prelude.{All}
use Rattle.std.specs.List.{AllZip}
use Rattle.std.specs.Vec.Iter.{into_iter_items, into_iter_len}
use Rattle.options.specs.Slave.{Slave}
use Rattle.rmx_media.specs.declared.streams.StreamInfo.{StreamInfo}
use Rattle.tee.specs.Draft.{AreOpen, IsDraft}
use Rattle.tee.proofs.making.open_all.Given as goal

abbrev pub invariant-loop-draft : goal.invariant-loop-draft
invariant-loop-draft g l = record {
  whole : l.yielded ++ into_iter_items l.draft-iterator ≡ into_iter_items l.initial.draft-iterator;
  left : into_iter_len l.draft-iterator ≡ length (into_iter_items l.draft-iterator);
  enough : length (into_iter_items l.draft-iterator) ≤ length l.shelves.items;
  room : length (into_iter_items l.draft-iterator) ≤ l.slaves.spare;
  len : length l.slaves.items ≡ length l.yielded;
  idle : All (λ s. (g.S.Shelf.state s).writing ≡ false) l.shelves.items;
  opened : (infos : List StreamInfo) (script : Option (List ℕ)) (plans : List Slave) → AllZip (IsDraft infos script) plans l.yielded → AreOpen g.S.Shelf.state infos script plans l.initial.shelves.items l.slaves.items l.shelves.items;
}

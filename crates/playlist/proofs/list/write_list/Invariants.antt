use Rattle.std.proofs.Common.{◌≡◌, ◌++◌, take, true, Ok}
use Rattle.std.specs.Prelude.{flat_map}
use Rattle.rmx_edge.specs.Run.{Runs}
use Rattle.playlist.specs.List.{head_calls, entry_calls}
use Rattle.playlist.proofs.list.write_list.Given as goal

abbrev pub invariant-loop-entry : goal.invariant-loop-entry
invariant-loop-entry g l = Runs (head_calls l.kind l.name l.entries ++ flat_map (entry_calls l.kind l.template) (take l.entry-index l.entries)) (Ok (tt {0})) (g.S.Shelf.state l.fn.shelf) (g.S.Shelf.state l.shelf)
    × ((g.S.Shelf.state l.shelf).writing ≡ true)

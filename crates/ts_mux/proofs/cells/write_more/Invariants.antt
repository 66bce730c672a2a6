use Rattle.std.proofs.Common.{◌≡◌, ◌+◌, ◌/◌, ◌%◌, ◌<◌, true, length, ◌++◌, Result}
use Rattle.std.specs.Prelude.{map}
use Rattle.rmx_edge.specs.declared.shelf.ShelfFault.{ShelfFault}
use Rattle.rmx_edge.specs.Shelf.{Write, ShelfState}
use Rattle.rmx_edge.specs.Run.{Runs}
use Rattle.ts_mux.specs.Cells.{more_cells}
use Rattle.ts_mux.proofs.cells.write_more.Given as goal

abbrev pub invariant-loop-left : goal.invariant-loop-left
invariant-loop-left g l = record {
  begun : (g.S.Shelf.state l.shelf).writing ≡ true;
  counter : l.counter < 16;
  left : length (l.bytes.current.now ++ g.P.Source.left l.bytes.pieces) ≡ l.left;
  counted : (l.counter + (l.left + 183) / 184) % 16 ≡ (l.fn.counter + (l.fn.size + 183) / 184) % 16;
  run : (r : Result (Unit {0}) ShelfFault) (s : ShelfState)
      → Runs (map Write (more_cells l.pid l.counter (l.bytes.current.now ++ g.P.Source.left l.bytes.pieces))) r (g.S.Shelf.state l.shelf) s
      → Runs (map Write (more_cells l.pid l.fn.counter (l.fn.bytes.current.now ++ g.P.Source.left l.fn.bytes.pieces))) r (g.S.Shelf.state l.fn.shelf) s;
}

abbrev pub decreases-loop-left : goal.decreases-loop-left
decreases-loop-left g l = l.left

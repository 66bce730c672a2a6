use Rattle.std.proofs.Common.{◌≡◌, ℕ, ◌+◌, ◌-◌, ◌/◌, ◌<◌, List, ◌∷◌, ◌++◌, length, take, drop, min, arith, ap, sym, ◌∙◌, false, Ok, Err}
use Rattle.std.proofs.lemmas.List.{length-drop}
use Rattle.ts_mux.specs.Cells.{cell, next, no_flags, more_cells}
use Rattle.ts_mux.proofs.CellLemmas.{more_none, more_step}
use Rattle.ts_mux.proofs.RunLemmas.{write_none, write_last, write_more}
use Rattle.ts_mux.proofs.cells.write_more.Goals as goal

-- the cells that were left, by the one that was made
step : (pid counter left n : ℕ) (bytes rest made : List ℕ) → length bytes ≡ left → 0 < left → n ≡ min left 184
    → made ≡ cell pid false counter no_flags (take n bytes) → rest ≡ drop n bytes
    → more_cells pid counter bytes ≡ made ∷ more_cells pid (next counter) rest
step pid counter left n bytes rest made l h e m r =
    let more : 0 < length bytes = omega arith in
    let count : n ≡ min (length bytes) 184 = omega arith in
    more_step pid counter n bytes more count
    ∙ ap (λ x. x ∷ more_cells pid (next counter) (drop n bytes)) (sym m)
    ∙ ap (λ x. made ∷ more_cells pid (next counter) x) (sym r)

pub returns-clause-run : goal.returns-clause-run
returns-clause-run g c =
    let left : List ℕ = c.loop-left.bytes.current.now ++ g.P.Source.left c.loop-left.bytes.pieces in
    let none : length left ≡ 0 = omega (arith, c.loop-left.invariant.left, c.loop-left-test.false) in
    c.loop-left.invariant.run (Ok (tt {0})) (g.S.Shelf.state c.loop-left.shelf)
    (write_none (more_cells c.args.pid c.loop-left.counter left) (g.S.Shelf.state c.loop-left.shelf) (more_none c.args.pid c.loop-left.counter left none))

pub returns-in-Err-clause-run : goal.returns-in-Err-clause-run
returns-in-Err-clause-run g c =
    let left : List ℕ = c.loop-left.bytes.current.now ++ g.P.Source.left c.loop-left.bytes.pieces in
    let rest : List ℕ = c.next_cell.new.self.current.now ++ g.P.Source.left c.next_cell.new.self.pieces in
    c.loop-left.invariant.run (Err c.in-Err.fault) (g.S.Shelf.state c.write.new.self)
    (write_last (more_cells c.args.pid c.loop-left.counter left) (more_cells c.args.pid (next c.loop-left.counter) rest) c.next_cell.new.cell c.in-Err.fault
    (g.S.Shelf.state c.loop-left.shelf) (g.S.Shelf.state c.write.new.self)
    (step c.args.pid c.loop-left.counter c.loop-left.left c.min-count.result left rest c.next_cell.new.cell c.loop-left.invariant.left c.loop-left-test.true
    c.min-count.ensures c.next_cell.ensures.cell c.next_cell.ensures.rest)
    c.in-Err.ensures.made)

pub loop-left-preserved : goal.loop-left-preserved
loop-left-preserved g c =
    let left : List ℕ = c.loop-left.bytes.current.now ++ g.P.Source.left c.loop-left.bytes.pieces in
    let rest : List ℕ = c.next_cell.new.self.current.now ++ g.P.Source.left c.next_cell.new.self.pieces in
    let sizes : length rest ≡ length left - c.min-count.result = ap length c.next_cell.ensures.rest ∙ length-drop c.min-count.result left in
    record {
      begun = c.in-Ok.ensures.made.writing;
      counter = omega arith;
      left = sizes ∙ ap (λ n. n - c.min-count.result) c.loop-left.invariant.left;
      counted = let fewer : (c.loop-left.left + 183) / 184 ≡ (c.loop-left.left - c.min-count.result + 183) / 184 + 1 = omega arith in
          omega (arith, c.loop-left.invariant.counted);
      run = λ r s h. c.loop-left.invariant.run r s
          (write_more (more_cells c.args.pid c.loop-left.counter left) (more_cells c.args.pid (next c.loop-left.counter) rest) c.next_cell.new.cell c.in-Ok.field-0 r
          (g.S.Shelf.state c.loop-left.shelf) (g.S.Shelf.state c.write.new.self) s
          (step c.args.pid c.loop-left.counter c.loop-left.left c.min-count.result left rest c.next_cell.new.cell c.loop-left.invariant.left c.loop-left-test.true
          c.min-count.ensures c.next_cell.ensures.cell c.next_cell.ensures.rest)
          c.in-Ok.ensures.made h);
    }

use Rattle.std.proofs.Common.{◌≡◌, ℕ, ◌+◌, ◌∙◌, ap, length, ◌++◌, List, length-append, min, arith}
use Rattle.ts_mux.specs.Cells.{next, more_cells, cells_of}
use Rattle.ts_mux.proofs.CellLemmas.{first_step}
use Rattle.ts_mux.proofs.RunLemmas.{write_last, write_more}
use Rattle.ts_mux.proofs.cells.write_cells.Goals as goal

pub returns-in-Err-clause-run : goal.returns-in-Err-clause-run
returns-in-Err-clause-run g c =
    let left : List ℕ = c.args.bytes.now.current.now ++ g.P.Source.left c.args.bytes.now.pieces in
    let pes : List ℕ = c.args.opening.now.head.now ++ left in
    let rest : List ℕ = c.cell-cell.new.self.current.now ++ g.P.Source.left c.cell-cell.new.self.pieces in
    let size : length pes ≡ length c.args.opening.now.head.now + c.args.size =
    length-append c.args.opening.now.head.now left ∙ ap (λ k. length c.args.opening.now.head.now + k) c.requires.size in
    let count : length c.args.opening.now.head.now + c.min-part.result ≡ min (length c.args.opening.now.head.now + c.args.size) c.args.opening.now.room = omega (arith, c.min-part.ensures, c.requires.head) in
    write_last (cells_of c.args.opening.now.pid c.args.counter.now c.args.opening.now.flags.now c.args.opening.now.room pes) (more_cells c.args.opening.now.pid (next c.args.counter.now) rest)
    c.cell-cell.result c.in-Err.fault (g.S.Shelf.state c.args.shelf.now) (g.S.Shelf.state c.write.new.self)
    (first_step c.args.opening.now.pid c.args.counter.now c.args.opening.now.room (length c.args.opening.now.head.now + c.min-part.result) (length c.args.opening.now.head.now + c.args.size) c.args.opening.now.flags.now pes rest c.cell-cell.result
    size count c.cell-cell.ensures.cell c.cell-cell.ensures.rest)
    c.in-Err.ensures.made

pub returns-clause-run : goal.returns-clause-run
returns-clause-run g c =
    let left : List ℕ = c.args.bytes.now.current.now ++ g.P.Source.left c.args.bytes.now.pieces in
    let pes : List ℕ = c.args.opening.now.head.now ++ left in
    let rest : List ℕ = c.cell-cell.new.self.current.now ++ g.P.Source.left c.cell-cell.new.self.pieces in
    let size : length pes ≡ length c.args.opening.now.head.now + c.args.size =
    length-append c.args.opening.now.head.now left ∙ ap (λ k. length c.args.opening.now.head.now + k) c.requires.size in
    let count : length c.args.opening.now.head.now + c.min-part.result ≡ min (length c.args.opening.now.head.now + c.args.size) c.args.opening.now.room = omega (arith, c.min-part.ensures, c.requires.head) in
    write_more (cells_of c.args.opening.now.pid c.args.counter.now c.args.opening.now.flags.now c.args.opening.now.room pes) (more_cells c.args.opening.now.pid (next c.args.counter.now) rest)
    c.cell-cell.result c.in-Ok.field-0 c.write_more.result (g.S.Shelf.state c.args.shelf.now) (g.S.Shelf.state c.write.new.self) (g.S.Shelf.state c.write_more.new.shelf)
    (first_step c.args.opening.now.pid c.args.counter.now c.args.opening.now.room (length c.args.opening.now.head.now + c.min-part.result) (length c.args.opening.now.head.now + c.args.size) c.args.opening.now.flags.now pes rest c.cell-cell.result
    size count c.cell-cell.ensures.cell c.cell-cell.ensures.rest)
    c.in-Ok.ensures.made c.write_more.ensures.run

use Rattle.std.proofs.Common.{◌≡◌, ℕ, ◌+◌, ◌-◌, ◌≤◌, length, ◌++◌, List, [], take, drop, false, sym, ap, ◌∙◌, arith, append-nil}
use Rattle.std.proofs.Math.ListN.{drop_of_length-le}
use Rattle.ts_psi.specs.Cell.{cell_head}
use Rattle.ts_mux.specs.Cells.{cell, front_of, no_flags}
use Rattle.ts_mux.proofs.cell_front.make_whole.Goals as goal

pub returns : goal.returns
unfolding cell front_of
returns c =
    let head : List ℕ = cell_head c.args.pid 0 1 c.args.counter in
    let body : List ℕ = c.args.body.now in
    let old : List ℕ = c.args.cell.now in
    let one : c.put.new.cell ≡ head ++ drop 4 old =
    c.put.ensures ∙ ap (λ x. take 0 old ++ (x ++ drop (0 + length x) old)) c.head.ensures in
    let none : 184 - length body ≡ 0 = omega (arith, c.requires.body) in
    let size : length c.put.new.cell ≤ 4 + length body = omega (arith, c.requires.body, c.put.auto.cell, c.fits-cell) in
    c.put-2.ensures
    ∙ ap (λ x. take 4 c.put.new.cell ++ (body ++ x)) (drop_of_length-le c.put.new.cell size)
    ∙ ap (λ x. take 4 x ++ (body ++ [])) one
    ∙ ap (λ x. head ++ x) (append-nil body)
    ∙ sym (ap (λ k. front_of c.args.pid false c.args.counter no_flags k ++ body) none)

use Rattle.std.proofs.Common.{◌≡◌, ℕ, ◌-◌, List, ◌++◌, length, take, drop, ap, sym, ◌∙◌}
use Rattle.std.proofs.lemmas.List.{length-take-le}
use Rattle.ts_mux.specs.Cells.{cell, front_of}
use Rattle.ts_mux.proofs.CellLemmas.{IsHeaded, headed, place_is, cell_filled, drop_past}
use Rattle.ts_mux.proofs.joined.Joined.cell.Goals as goal

pub returns-clause-cell : goal.returns-clause-cell
unfolding cell
returns-clause-cell g c =
    let bytes : List ℕ = c.args.self.now.current.now ++ g.P.Source.left c.args.self.now.pieces in
    let head : List ℕ = c.args.head.now in
    let n : ℕ = c.args.count in
    let f : List ℕ = front_of c.args.pid c.args.start c.args.counter c.args.flags.now (184 - n) in
    let whole : length c.front-cell.result ≡ 188 = c.front-cell.ensures.size in
    let m : IsHeaded f head c.put.new.cell n =
    headed f head c.front-cell.result c.put.new.cell n c.front-cell.ensures.cell whole c.requires.count c.requires.head c.put.ensures in
    let out : c.fill.new.out ≡ take (n - length head) bytes =
    c.fill.ensures.filled ∙ ap (λ k. take k bytes) (place_is c.put.new.cell n (length head) m.size c.requires.count c.requires.head) in
    cell_filled f head c.put.new.cell c.fill.new.out bytes n m c.requires.count c.requires.head out
    ∙ ap (λ k. front_of c.args.pid c.args.start c.args.counter c.args.flags.now (184 - k) ++ take n (head ++ bytes)) (sym (length-take-le n (head ++ bytes) c.requires.left))

pub returns-clause-rest : goal.returns-clause-rest
returns-clause-rest g c =
    let bytes : List ℕ = c.args.self.now.current.now ++ g.P.Source.left c.args.self.now.pieces in
    let head : List ℕ = c.args.head.now in
    let n : ℕ = c.args.count in
    let f : List ℕ = front_of c.args.pid c.args.start c.args.counter c.args.flags.now (184 - n) in
    let m : IsHeaded f head c.put.new.cell n =
    headed f head c.front-cell.result c.put.new.cell n c.front-cell.ensures.cell c.front-cell.ensures.size c.requires.count c.requires.head c.put.ensures in
    c.fill.ensures.rest
    ∙ ap (λ k. drop k bytes) (place_is c.put.new.cell n (length head) m.size c.requires.count c.requires.head)
    ∙ drop_past n head bytes c.requires.head

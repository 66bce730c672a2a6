use Rattle.std.proofs.Common.{◌≡◌, ℕ, ◌+◌, ◌-◌, ◌≤◌, length, ◌++◌, suc, min, List, [], ◌∷◌, take, drop, refl, ap, ◌∙◌, arith, lit≤}
use Rattle.std.proofs.lemmas.List.{length-take}
use Rattle.ts_psi.specs.Cell.{stuffing, cell_head}
use Rattle.ts_psi.proofs.Fill.{put_on}
use Rattle.ts_mux.specs.Cells.{front_of, start_bit}
use Rattle.ts_mux.proofs.FrontLemmas.{padded}
use Rattle.ts_mux.proofs.cell_front.front.Goals as goal

pub returns-then-count-eq184-clause-cell : goal.returns-then-count-eq184-clause-cell
unfolding front_of
returns-then-count-eq184-clause-cell c =
    let head : List ℕ = cell_head c.args.pid (start_bit c.args.start) 1 c.args.counter in
    let put_is : c.put.new.cell ≡ head ++ stuffing 184 =
    c.put.ensures
    ∙ ap (λ x. take 0 c.blank-cell.result ++ (x ++ drop (0 + length x) c.blank-cell.result)) c.head.ensures
    ∙ put_on [] head c.blank-cell.result 188 0 refl c.blank-cell.ensures (lit≤ tt) in
    rw c.if-count-eq184.true put_is

pub returns-clause-cell : goal.returns-clause-cell
unfolding front_of
returns-clause-cell c =
    let head : List ℕ = cell_head c.args.pid (start_bit c.args.start) 3 c.args.counter in
    let m : ℕ = 183 - c.args.count in
    let flags : List ℕ = c.args.flags.now in
    let k : ℕ = c.min.result in
    let one : c.put-2.new.cell ≡ head ++ stuffing 184 =
    c.put-2.ensures
    ∙ ap (λ x. take 0 c.blank-cell.result ++ (x ++ drop (0 + length x) c.blank-cell.result)) c.head-2.ensures
    ∙ put_on [] head c.blank-cell.result 188 0 refl c.blank-cell.ensures (lit≤ tt) in
    let two : c.put-3.new.cell ≡ (head ++ m ∷ []) ++ stuffing 183 =
    c.put-3.ensures ∙ put_on head (m ∷ []) c.put-2.new.cell 184 4 refl one (lit≤ tt) in
    let size : length (take k flags) ≡ min k (length flags) = length-take k flags in
    let fits : length (take k flags) ≤ 183 = omega arith in
    let three : c.put-4.new.cell ≡ ((head ++ m ∷ []) ++ take k flags) ++ stuffing (183 - length (take k flags)) =
    c.put-4.ensures ∙ put_on (head ++ m ∷ []) (take k flags) c.put-3.new.cell 183 5 refl two fits in
    let n : 183 - length (take k flags) ≡ (m - length flags) + c.args.count = omega (arith, c.min.ensures, c.requires.count) in
    let whole : 184 - c.args.count ≡ suc m = omega (arith, c.requires.count, c.if-count-eq184.false) in
    rw whole (three ∙ padded head flags m k c.args.count (183 - length (take k flags)) c.min.ensures n)

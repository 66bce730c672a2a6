use Rattle.std.proofs.Common.{◌≡◌, ℕ, ◌+◌, ◌-◌, ◌≤◌, ◌/◌, ◌%◌, List, [], ◌∷◌, ◌++◌, length, take, drop, refl, sym, ap, ◌∙◌, arith, append_assoc, lit≤, length-append}
use Rattle.ts_psi.specs.Cell.{stuffing, table_cell}
use Rattle.rmx_media.specs.Bits.{bytes_of}
use Rattle.ts_psi.specs.Crc.{crc}
use Rattle.ts_psi.proofs.Fill.{put_on}
use Rattle.ts_psi.proofs.cell.table_cell.Goals as goal

joined : (head section sum : List ℕ) (n m : ℕ) → n ≡ m → ((head ++ section) ++ sum) ++ stuffing n ≡ head ++ ((section ++ sum) ++ stuffing m)
joined head section sum n m e =
    append_assoc (head ++ section) sum (stuffing n)
    ∙ append_assoc head section (sum ++ stuffing n)
    ∙ ap (λ x. head ++ x) (sym (append_assoc section sum (stuffing n)))
    ∙ ap (λ k. head ++ ((section ++ sum) ++ stuffing k)) e

pub returns : goal.returns
unfolding table_cell
returns c =
    let head : List ℕ = 0x47 ∷ (0x40 + c.args.pid / 256) ∷ c.args.pid % 256 ∷ (0x10 + c.args.counter) ∷ 0 ∷ [] in
    let section : List ℕ = c.args.section.now in
    let sum : List ℕ = bytes_of 4 (crc section) in
    let one : c.put.new.cell ≡ head ++ stuffing 183 =
    c.put.ensures ∙ put_on [] head c.blank-cell.result 188 0 refl c.blank-cell.ensures (lit≤ tt) in
    let size : length section ≤ 183 = omega arith in
    let two : c.put-2.new.cell ≡ (head ++ section) ++ stuffing (183 - length section) =
    c.put-2.ensures ∙ put_on head section c.put.new.cell 183 5 refl one size in
    let at : 5 + length section ≡ length (head ++ section) = sym (length-append head section) in
    let room : 4 ≤ 183 - length section = omega arith in
    let three : c.put-3.new.cell ≡ ((head ++ section) ++ sum) ++ stuffing (183 - length section - 4) =
    c.put-3.ensures
    ∙ ap (λ x. take (5 + length section) c.put-2.new.cell ++ (x ++ drop (5 + length section + length x) c.put-2.new.cell)) c.checksum.ensures
    ∙ put_on (head ++ section) sum c.put-2.new.cell (183 - length section) (5 + length section) at two room in
    let size_is : 183 - length section - 4 ≡ 179 - length section = omega arith in
    three ∙ joined head section sum (183 - length section - 4) (179 - length section) size_is

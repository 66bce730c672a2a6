-- Pieces put into a cell of stuffing, one after another.
use Rattle.std.proofs.Common.{◌≡◌, ℕ, ◌+◌, ◌-◌, ◌≤◌, List, ◌++◌, length, take, drop, sym, append_assoc, replicate}
use Rattle.std.proofs.lemmas.List.{drop-replicate}
use Rattle.std.proofs.Math.Seq.{take-append_seam, drop-append-add}
use Rattle.ts_psi.specs.Cell.{stuffing}

pub put_on : (front piece cell : List ℕ) (n at : ℕ) → at ≡ length front → cell ≡ front ++ stuffing n → length piece ≤ n
    → take at cell ++ (piece ++ drop (at + length piece) cell) ≡ (front ++ piece) ++ stuffing (n - length piece)
unfolding stuffing
put_on front piece cell n at e c h =
    rw (e, c, take-append_seam, drop-append-add, drop-replicate) (sym (append_assoc front piece (replicate (n - length piece) 255)))

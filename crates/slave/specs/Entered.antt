-- The runs of an end with the refusals between them.
use Rattle.std.specs.Prelude.{ℕ, ◌+◌, if◌then◌else◌, nat_lt, List, [], ◌∷◌, ◌++◌, map}
use Rattle.fifo_core.specs.declared.types.Fate.TheVariants as fate
use Rattle.lane.specs.Sides.{ReceiptSide}
use Rattle.slave.specs.declared.records.Run.{Run}

-- the receipts at the front whose packets come before n
abbrev pub below : ℕ → List ReceiptSide → List ReceiptSide
below n [] = []
below n (r ∷ rs) = if nat_lt r.index n then r ∷ below n rs else []

-- and the others
abbrev pub behind : ℕ → List ReceiptSide → List ReceiptSide
behind n [] = []
behind n (r ∷ rs) = if nat_lt r.index n then behind n rs else r ∷ rs

abbrev pub refusal : ReceiptSide → Run
refusal r = record { fate = fate.Refused r.number; first = r.index; count = 1 }

-- each refusal stands before the run behind it; where a run covers its packet, it is left out
abbrev pub entered : List Run → List ReceiptSide → List Run
entered [] rs = map refusal rs
entered (x ∷ xs) rs = map refusal (below x.first rs) ++ x ∷ entered xs (behind (x.first + x.count) (behind x.first rs))

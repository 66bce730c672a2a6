-- A refused flush, as a refusal of the write before it.
use Rattle.std.proofs.Common.{◌≡◌, ℕ, List, [], ◌∷◌, ◌++◌, length, take, arith, ap, ◌∙◌, sym, refl, subst, length-append, Option, Some, None}
use Rattle.std.specs.Prelude.{option_map}
use Rattle.std.proofs.lemmas.List.{take_all}
use Rattle.rmx_edge.specs.Count.{raised}
use Rattle.rmx_edge.specs.Shelf.{ShelfTake, ShelfCall, Write, Accepted, after, after_call, accepted_by, with_call, without_last}
use Rattle.rmx_edge.specs.Run.{AreLeftBy}
use Rattle.rmx_edge.specs.Laws.{FlushesStopWrites, BytesAreCounted}
use Rattle.rmx_edge.proofs.Run.{after-append, accepted_by-append, total-accepted}

-- the takes after a write, as what it left when it was refused and kept its whole piece
kept_whole : (calls : List ShelfCall) (piece : List ℕ) (old new : Option (List ShelfTake)) → new ≡ option_map (after (calls ++ Write piece ∷ [])) old → AreLeftBy calls (Write piece) old new
kept_whole calls piece None new h = h
kept_whole calls piece (Some o) None h = cc
kept_whole calls piece (Some o) (Some n) h =
    let all : take (length piece) piece ≡ piece = take_all (length piece) piece (omega arith) in
    let same : n ≡ after (calls ++ Write piece ∷ []) o = cc in
    (length piece, same ∙ after-append calls (Write piece ∷ []) o ∙ ap (λ (p : List ℕ). after_call (Write p) (after calls o)) (sym all))

lost_last : (calls : List ShelfCall) (piece : List ℕ) (a b c : Option Accepted) → b ≡ option_map (accepted_by (calls ++ Write piece ∷ [])) a → c ≡ option_map without_last b → c ≡ option_map (λ x. with_call 0 (accepted_by calls x)) a
lost_last calls piece None b c p q = q ∙ ap (option_map without_last) p
lost_last calls piece (Some t) b c p q =
    q ∙ ap (option_map without_last) p ∙ ap (λ (x : Accepted). Some (without_last x)) (accepted_by-append calls (Write piece ∷ []) t)

pub flushes_stop_writes : FlushesStopWrites
flushes_stop_writes calls piece e a b c run flush = record {
  made = calls;
  refused = Write piece;
  rest = [];
  split = refl;
  enough = omega arith;
  takes = kept_whole calls piece a.takes c.takes (flush.takes ∙ run.takes);
  count = flush.calls ∙ subst (λ (n : ℕ). b.calls ≡ option_map (λ k. raised k n) a.calls) (length-append calls (Write piece ∷ [])) run.count;
  accepted = lost_last calls piece a.accepted b.accepted c.accepted run.accepted (flush.accepted refl);
}

pub bytes_are_counted : BytesAreCounted
bytes_are_counted calls a = total-accepted calls a

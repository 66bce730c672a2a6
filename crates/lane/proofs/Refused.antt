-- What a refused offer ensures.
use Rattle.std.proofs.Common.{◌≡◌, ℕ, ◌+◌, ◌≤◌, List, length, Option, Some, true, refl, subst, arith}
use Rattle.std.specs.Prelude.{slice_get, sum_by}
use Rattle.atomic_table.specs.Seated.{TableId}
use Rattle.lane_core.specs.Machine.{waiting as left, is_full}
use Rattle.lane.specs.declared.msg.Msg.{Msg}
use Rattle.lane.specs.declared.msg.Purpose.{Purpose}
use Rattle.lane.specs.Ends.{giver_end}
use Rattle.lane.specs.Sides.{ReceiptSide}
use Rattle.lane.specs.Follows.{size_of, measure}
use Rattle.lane.specs.Past.{Past}
use Rattle.lane.specs.Sight.{Refusal}
use Rattle.lane.specs.Ring.{bounds, refusing, owing_none}
use Rattle.lane.specs.Told.{GiverNow, IsRefused}
use Rattle.lane.proofs.Moves.{ready}

pub refused_end : (n : ℕ) (z : TableId) (k : Purpose) (given : List Msg) (seen : ℕ) (rs : List (Refusal Msg)) (asked : ℕ) (told : Option ℕ) (past : Past Msg) (old new : GiverNow) (x : Msg) (head : ℕ) (r : ReceiptSide)
    → giver_end z k (ready k given seen rs asked told past) ≡ old → giver_end z k (owing_none (refusing size_of (Some x) head (ready k given seen rs asked told past))) ≡ new → seen ≤ head → head ≤ length given
    → is_full size_of (bounds measure n k) given head (size_of x) ≡ true → r ≡ record { number = length rs + 1; index = x.index; accepted = length given; head = head; bytes = sum_by size_of (left given head) }
    → ((i : ℕ) (q : Refusal Msg) → slice_get rs i ≡ Some q → q.head ≤ seen) → IsRefused n old new x x r
refused_end n z k given seen rs asked told past old new x head r was now more low full is heads = subst (λ (e : GiverNow × GiverNow). IsRefused n e.0 e.1 x x r) (λ i. (was i, now i)) record {
  back_is = refl;
  saw = record { rises = more; within = low };
  full = full;
  receipt = is;
  heads = λ i q e. let l = heads i q e in omega arith;
  refused = refl;
}

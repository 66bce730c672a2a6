-- Parameter sets, one after another.
use Rattle.std.proofs.Common.{◌≡◌, ℕ, suc, ◌+◌, ◌≤◌, Bool, true, false, List, ◌∷◌, length, take, drop, refl, arith, Option, None, Some}
use Rattle.std.specs.Prelude.{nat_lt, is_some, slice_index, if◌then◌else◌}
use Rattle.std.proofs.lemmas.Bool.Decides.{nat_tests}
use Rattle.rmx_media.specs.Bits.{number_of}
use Rattle.rmx_media.specs.Avc.{Run, run_of, with_set, with_sets, left_by, sets_left, some_sets}

-- a set that is there
pub record First (last : Bool) (count : ℕ) (bytes : List ℕ) : Type 0 where
  pub whole : 2 + number_of (take 2 bytes) ≤ length bytes
  pub sets : some_sets (sets_left last (suc count) bytes)
      ≡ take (number_of (take 2 bytes)) (drop 2 bytes) ∷ some_sets (sets_left last count (drop (2 + number_of (take 2 bytes)) bytes))
  pub more : is_some (sets_left last count (drop (2 + number_of (take 2 bytes)) bytes)) ≡ true

record Fronted (set : List ℕ) (all rest : Option (List (List ℕ))) : Type 0 where
  sets : some_sets all ≡ set ∷ some_sets rest
  more : is_some rest ≡ true

fronted_after : (short : Bool) (set : List ℕ) (sets : List (List ℕ)) (run : Option Run)
    → is_some (if short then None else with_sets (set ∷ sets) run) ≡ true
    → Fronted set (if short then None else with_sets (set ∷ sets) run) (if short then None else with_sets sets run)
fronted_after true set sets run h = cc
fronted_after false set sets None h = cc
fronted_after false set sets (Some run) h = record { sets = refl; more = refl }

fronted : (last : Bool) (set : List ℕ) (run : Option Run) → is_some (left_by last (with_set set run)) ≡ true → Fronted set (left_by last (with_set set run)) (left_by last run)
fronted true set None h = cc
fronted false set None h = cc
fronted true set (Some run) h = record { sets = refl; more = refl }
fronted false set (Some run) h = fronted_after (nat_lt (length run.rest) 1) set run.sets (run_of (slice_index run.rest 0) (drop 1 run.rest)) h

record Passed (last : Bool) (short : Bool) (set : List ℕ) (run : Option Run) : Type 0 where
  test : short ≡ false
  front : Fronted set (left_by last (if short then None else with_set set run)) (left_by last run)

passed : (last : Bool) (short : Bool) (set : List ℕ) (run : Option Run) → is_some (left_by last (if short then None else with_set set run)) ≡ true
    → Passed last short set run
passed true true set run h = cc
passed false true set run h = cc
passed last false set run h = record { test = refl; front = fronted last set run h }

not_short : (m n : ℕ) → nat_lt m n ≡ false → n ≤ m
not_short m n h = grind (arith, nat_tests)

-- the first of several sets
pub first : (last : Bool) (count : ℕ) (bytes : List ℕ) → is_some (sets_left last (suc count) bytes) ≡ true → First last count bytes
first last count bytes h =
    let p : Passed last (nat_lt (length bytes) (2 + number_of (take 2 bytes))) (take (number_of (take 2 bytes)) (drop 2 bytes))
    (run_of count (drop (2 + number_of (take 2 bytes)) bytes)) = passed last _ _ _ h in
    record { whole = not_short (length bytes) (2 + number_of (take 2 bytes)) p.test; sets = p.front.sets; more = p.front.more }

-- A run of calls on a shelf, which ends at the first that is refused.
use Rattle.std.specs.Prelude.{◌≡◌, ℕ, ◌+◌, ◌≤◌, Bool, true, ◌&&◌, List, [], ◌∷◌, ◌++◌, length, is_ok, IsErrOf, Option, Result, option_map, Some, None, Ok, Err}
use Rattle.rmx_edge.specs.declared.shelf.ShelfFault.{ShelfFault}
use Rattle.rmx_edge.specs.declared.shelf.ShelfFault.TheVariants.{Failed, NoMemory}
use Rattle.rmx_edge.specs.Count.{raised, Rose}
use Rattle.rmx_edge.specs.Shelf.{ShelfTake, ShelfCall, ShelfState, after, stays_open, size_of, accepted_by, with_call, IsLeftBy, StaysSound, IsCounted}

-- whether a take is being written after these calls
abbrev pub writing_after : List ShelfCall → Bool → Bool
writing_after [] before = before
writing_after (call ∷ calls) before = writing_after calls (stays_open call)

-- the bytes of the pieces of these calls
abbrev pub bytes_of : List ShelfCall → ℕ
bytes_of [] = 0
bytes_of (call ∷ calls) = size_of call + bytes_of calls

-- the takes that are told, where the calls made were followed by one that was refused
abbrev pub AreLeftBy : List ShelfCall → ShelfCall → Option (List ShelfTake) → Option (List ShelfTake) → Type 0
AreLeftBy made refused None new = new ≡ None
AreLeftBy made refused (Some old) None = ⊥
AreLeftBy made refused (Some old) (Some new) = IsLeftBy refused (after made old) new

-- at least so many of the calls were made, and the next one was refused
pub record Stopped (calls : List ShelfCall) (least : ℕ) (old new : ShelfState) : Type 0 where
  pub made : List ShelfCall
  pub refused : ShelfCall
  pub rest : List ShelfCall
  pub split : calls ≡ made ++ refused ∷ rest
  pub enough : least ≤ length made
  pub takes : AreLeftBy made refused old.takes new.takes
  pub count : new.calls ≡ option_map (λ n. raised n (length made + 1)) old.calls
  pub accepted : new.accepted ≡ option_map (λ a. with_call 0 (accepted_by made a)) old.accepted

-- all of the calls were made
pub record Completed (calls : List ShelfCall) (old new : ShelfState) : Type 0 where
  pub takes : new.takes ≡ option_map (after calls) old.takes
  pub count : new.calls ≡ option_map (λ n. raised n (length calls)) old.calls
  pub accepted : new.accepted ≡ option_map (accepted_by calls) old.accepted

abbrev pub CompletedOrStopped : {T : Type 0} → List ShelfCall → Result T ShelfFault → ShelfState → ShelfState → Type 0
CompletedOrStopped calls (Ok _) old new = Completed calls old new
CompletedOrStopped calls (Err _) old new = Stopped calls 0 old new

-- the calls were made up to the first that was refused, whose answer is r
pub record Runs {T : Type 0} (calls : List ShelfCall) (r : Result T ShelfFault) (old new : ShelfState) : Type 0 where
  pub calls_made : CompletedOrStopped calls r old new
  pub writing : new.writing ≡ (is_ok r && writing_after calls old.writing)
  pub faults : old.faults ≤ new.faults
  pub failed : IsErrOf r Failed → Rose old.faults new.faults
  pub wants : old.wants ≤ new.wants
  pub no_memory : IsErrOf r NoMemory → Rose old.wants new.wants
  pub counted : IsCounted old → IsCounted new
  pub sound : old.sound ≡ true → StaysSound r old new

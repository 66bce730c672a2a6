-- What a shelf holds, what a call does to it, and what a run of calls does.
use Rattle.std.specs.Prelude.{◌≡◌, ℕ, ◌≤◌, Bool, true, false, ◌&&◌, List, [], ◌∷◌, ◌++◌, length, take, is_ok, IsOk, IsErr, IsErrOf, Option, Result, option_map, Some, None, Ok, Err, slice_index_or}
use Rattle.rmx_edge.specs.declared.shelf.ShelfFault.{ShelfFault}
use Rattle.rmx_edge.specs.declared.shelf.ShelfFault.TheVariants.{Failed, NoMemory}
use Rattle.rmx_edge.specs.Count.{most, raised, Rose}

-- one file as it was written, by its name
pub record ShelfTake : Type 0 where
  pub name : List ℕ
  pub bytes : List ℕ
  pub closed : Bool

-- a call that writes
pub data ShelfCall : Type 0 where
  Create : (name : List ℕ) → ShelfCall
  Write : (piece : List ℕ) → ShelfCall
  Close : ShelfCall

-- how many bytes were accepted: in all calls before the last one, and in the last one
pub record Accepted : Type 0 where
  pub before : ℕ
  pub last : ℕ

-- what clauses see of a shelf
pub record ShelfState : Type 0 where
  -- its takes, where it tells them
  pub takes : Option (List ShelfTake)
  -- how many calls were made, where it tells that
  pub calls : Option ℕ
  -- how many bytes were accepted, where it tells that
  pub accepted : Option Accepted
  -- whether the last take is being written
  pub writing : Bool
  pub faults : ℕ
  pub wants : ℕ
  -- whether it tells that it doesn't fail
  pub sound : Bool

-- the list with its last item changed
abbrev pub change_last : {A : Type 0} → (A → A) → List A → List A
change_last f [] = []
change_last f (x ∷ []) = f x ∷ []
change_last f (x ∷ y ∷ ys) = x ∷ change_last f (y ∷ ys)

abbrev pub new_take : List ℕ → ShelfTake
new_take name = record { name = name; bytes = []; closed = false }

-- the take at this place
abbrev pub take_at : List ShelfTake → ℕ → ShelfTake
take_at takes at = slice_index_or takes at (new_take [])

abbrev pub with_piece : List ℕ → ShelfTake → ShelfTake
with_piece piece t = record { name = t.name; bytes = t.bytes ++ piece; closed = t.closed }

abbrev pub as_closed : ShelfTake → ShelfTake
as_closed t = record { name = t.name; bytes = t.bytes; closed = true }

-- the takes after a call that answered Ok
abbrev pub after_call : ShelfCall → List ShelfTake → List ShelfTake
after_call (Create name) takes = takes ++ new_take name ∷ []
after_call (Write piece) takes = change_last (with_piece piece) takes
after_call Close takes = change_last as_closed takes

-- the takes after these calls, all Ok
abbrev pub after : List ShelfCall → List ShelfTake → List ShelfTake
after [] takes = takes
after (call ∷ calls) takes = after calls (after_call call takes)

-- a call that was refused left this
abbrev pub IsLeftBy : ShelfCall → List ShelfTake → List ShelfTake → Type 0
IsLeftBy (Create name) old new = new ≡ old
IsLeftBy (Write piece) old new = (kept : ℕ) × (new ≡ after_call (Write (take kept piece)) old)
IsLeftBy Close old new = new ≡ old

abbrev pub stays_open : ShelfCall → Bool
stays_open (Create name) = true
stays_open (Write piece) = true
stays_open Close = false

-- the takes that are told, after a call's answer
abbrev pub TakesAfter : {T : Type 0} → ShelfCall → Result T ShelfFault → Option (List ShelfTake) → Option (List ShelfTake) → Type 0
TakesAfter call r None new = new ≡ None
TakesAfter call (Ok _) (Some old) new = new ≡ Some (after_call call old)
TakesAfter call (Err _) (Some old) None = ⊥
TakesAfter call (Err _) (Some old) (Some new) = IsLeftBy call old new

-- the bytes that a call adds where it is Ok
abbrev pub size_of : ShelfCall → ℕ
size_of (Create name) = 0
size_of (Write piece) = length piece
size_of Close = 0

abbrev pub size_in : {T : Type 0} → ShelfCall → Result T ShelfFault → ℕ
size_in call (Ok _) = size_of call
size_in call (Err _) = 0

-- all bytes that were accepted
abbrev pub total : Accepted → ℕ
total a = raised a.before a.last

-- after one more call, which accepted so many bytes
abbrev pub with_call : ℕ → Accepted → Accepted
with_call size a = record { before = total a; last = size }

-- after the bytes of the last call were lost
abbrev pub without_last : Accepted → Accepted
without_last a = record { before = a.before; last = 0 }

abbrev pub accepted_by : List ShelfCall → Accepted → Accepted
accepted_by [] a = a
accepted_by (call ∷ calls) a = accepted_by calls (with_call (size_of call) a)

-- no fault came, and the shelf is still sound
pub record StaysSound {T : Type 0} (r : Result T ShelfFault) (old new : ShelfState) : Type 0 where
  pub ok : IsErrOf r Failed → ⊥
  pub faults : new.faults ≡ old.faults
  pub sound : new.sound ≡ true

-- the counts are no larger than they can be
pub record IsCounted (s : ShelfState) : Type 0 where
  pub faults : s.faults ≤ most
  pub wants : s.wants ≤ most

-- what one call does, by its answer
pub record Makes {T : Type 0} (call : ShelfCall) (r : Result T ShelfFault) (old new : ShelfState) : Type 0 where
  pub takes : TakesAfter call r old.takes new.takes
  pub calls : new.calls ≡ option_map (λ n. raised n 1) old.calls
  pub accepted : new.accepted ≡ option_map (with_call (size_in call r)) old.accepted
  pub writing : new.writing ≡ (is_ok r && stays_open call)
  pub faults : old.faults ≤ new.faults
  pub failed : IsErrOf r Failed → Rose old.faults new.faults
  pub wants : old.wants ≤ new.wants
  pub no_memory : IsErrOf r NoMemory → Rose old.wants new.wants
  pub counted : IsCounted new
  pub sound : old.sound ≡ true → StaysSound r old new

-- what a flush does, by its answer. It is no call of the count. A refusal loses the bytes of the last write,
-- as if that write had been refused after it kept its whole piece.
pub record Flushes {T : Type 0} (r : Result T ShelfFault) (old new : ShelfState) : Type 0 where
  pub done : IsOk r → new ≡ old
  pub takes : new.takes ≡ old.takes
  pub calls : new.calls ≡ old.calls
  pub accepted : IsErr r → new.accepted ≡ option_map without_last old.accepted
  pub writing : new.writing ≡ is_ok r
  pub faults : old.faults ≤ new.faults
  pub failed : IsErrOf r Failed → Rose old.faults new.faults
  pub wants : old.wants ≤ new.wants
  pub no_memory : IsErrOf r NoMemory → Rose old.wants new.wants
  pub counted : IsErr r → IsCounted new
  pub sound : old.sound ≡ true → StaysSound r old new

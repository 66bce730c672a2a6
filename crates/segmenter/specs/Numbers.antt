-- Runs of calls that take a number for each file that they create.
use Rattle.std.specs.Prelude.{◌≡◌, ℕ, ◌+◌, ◌⊎◌, Bool, true, List, [], ◌∷◌, ◌++◌, IsErrOf, Result, Ok, Err}
use Rattle.rmx_edge.specs.declared.shelf.ShelfFault.{ShelfFault}
use Rattle.rmx_edge.specs.declared.shelf.ShelfFault.TheVariants.{NoMemory}
use Rattle.rmx_edge.specs.Count.{raised}
use Rattle.rmx_edge.specs.Shelf.{ShelfCall, ShelfState, Create, Write, Close}
use Rattle.rmx_edge.specs.Run.{Stopped, Runs}

abbrev pub is_create : ShelfCall → ℕ
is_create (Create name) = 1
is_create (Write piece) = 0
is_create Close = 0

-- how many of the calls create a file
abbrev pub creates : List ShelfCall → ℕ
creates [] = 0
creates (call ∷ calls) = is_create call + creates calls

-- the calls that were made and the one that was refused
abbrev pub called : {calls : List ShelfCall} {least : ℕ} {old new : ShelfState} → Stopped calls least old new → List ShelfCall
called stop = stop.made ++ stop.refused ∷ []

-- a number was taken for each create that was called, refused ones included
abbrev pub TakesNumbers : {T : Type 0} → List ShelfCall → Result T ShelfFault → ℕ → ℕ → ShelfState → ShelfState → Type 0
TakesNumbers calls (Ok x) number next old new = next ≡ raised number (creates calls)
TakesNumbers calls (Err e) number next old new = (stop : Stopped calls 0 old new) × (next ≡ raised number (creates (called stop)))

-- the calls were made up to the first that was refused, and took numbers from `number` on
pub record NumberedRuns {T : Type 0} (calls : List ShelfCall) (r : Result T ShelfFault) (number next : ℕ) (old new : ShelfState) : Type 0 where
  pub run : Runs calls r old new
  pub numbers : TakesNumbers calls r number next old new

-- memory for an entry of a list was wanted, before any call
pub record Wants {T : Type 0} (asked : Bool) (r : Result T ShelfFault) (number next : ℕ) (old new : ShelfState) : Type 0 where
  pub asked_for : asked ≡ true
  pub answer : IsErrOf r NoMemory
  pub number_kept : next ≡ number
  pub shelf_kept : new ≡ old

-- The calls were made up to the first that was refused, or memory for an entry of the list was wanted before any of them.
-- Where no list is asked for, memory is so wanted by the shelf alone.
abbrev pub RunsOrWants : {T : Type 0} → List ShelfCall → Bool → Result T ShelfFault → ℕ → ℕ → ShelfState → ShelfState → Type 0
RunsOrWants calls asked r number next old new = NumberedRuns calls r number next old new ⊎ Wants asked r number next old new

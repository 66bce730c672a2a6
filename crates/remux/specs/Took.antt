-- Bytes that are taken of an input and fed.
use Rattle.std.specs.Prelude.{◌≡◌, ℕ, ◌<◌, ◌≤◌, Bool, true, false, List, [], ◌++◌, length, IfSome, IsSomeAnd, Result, Ok, Err}
use Rattle.flv_tags.specs.declared.tag.Tag.{Tag}
use Rattle.rmx_edge.specs.Count.{Rose}
use Rattle.rmx_edge.specs.Inputs.{InputView, InputState}
use Rattle.remux.specs.declared.take.Taken.{Taken}
use Rattle.remux.specs.declared.take.Taken.TheVariants as taken
use Rattle.remux.specs.declared.take.TakeFault.{TakeFault}
use Rattle.remux.specs.declared.take.TakeFault.TheVariants as fault

abbrev pub TookView : List ℕ → InputView → InputView → Type 0
TookView more old new = (new.bytes_of ≡ old.bytes_of) × (old.left ≡ more ++ new.left)

-- these bytes were taken, where it is told
abbrev pub Took : List ℕ → InputState → InputState → Type 0
Took more old new = IfSome old.view (λ v. IsSomeAnd new.view (TookView more v))

-- no known byte is left, and the end was seen
abbrev pub SawEnd : InputState → Type 0
SawEnd now = IfSome now.view (λ v. (v.left ≡ []) × (v.ended ≡ true))

-- a piece was taken and fed
pub record Piece (count : ℕ) (old new : InputState) (had has : List ℕ → List Tag → Type 0) : Type 0 where
  pub bytes : List ℕ
  pub long : length bytes ≡ count
  pub took : Took bytes old new
  pub fed : (b : List ℕ) (done : List Tag) → had b done → has (b ++ bytes) done

-- a piece may have been taken, and isn't fed
pub record Dropped (limit : ℕ) (old new : InputState) (had has : List ℕ → List Tag → Type 0) : Type 0 where
  pub bytes : List ℕ
  pub long : length bytes ≤ limit
  pub took : Took bytes old new
  pub same : (b : List ℕ) (done : List Tag) → had b done → has b done

abbrev pub Takes : Result Taken TakeFault → ℕ → InputState → InputState → Bool → (List ℕ → List Tag → Type 0) → (List ℕ → List Tag → Type 0) → Type 0
Takes (Ok (taken.Bytes n)) limit old new ended had has = Piece n old new had has × (n ≤ limit) × (n ≤ 65536) × (new.readable ≡ true) × (ended ≡ false)
Takes (Ok taken.End) limit old new ended had has = Piece 0 old new had has × SawEnd new × (ended ≡ true) × (0 < limit) × (new.readable ≡ false)
Takes (Ok taken.Limit) limit old new ended had has = Piece 0 old new had has × (limit ≡ 0) × (ended ≡ false)
Takes (Err fault.Failed) limit old new ended had has = Piece 0 old new had has × Rose old.faults new.faults × (0 < limit)
Takes (Err fault.NoMemory) limit old new ended had has = Dropped limit old new had has

-- reading that doesn't fail stays so, and raises no count
abbrev pub StaysSound : InputState → InputState → Type 0
StaysSound old new = old.sound_now ≡ true → (new.faults ≡ old.faults) × (new.sound_now ≡ true)

-- Reading one part after the other, each from where the one before it ended.
use Rattle.std.specs.Prelude.{ℕ, zero, suc, List, Bool, true, false, Result, Ok, Err, length}
use Rattle.options.specs.declared.fault.WordKind.{WordKind}
use Rattle.options.specs.Read.{◌>>=◌}

-- what one part has made, and what is left: more parts follow, or it was the last
pub data Turn (S : Type 0) : Type 0 where
  More : S → List ℕ → Turn S
  Last : S → List ℕ → Turn S

abbrev pub turn : {S : Type 0} → Bool → S → List ℕ → Turn S
turn true s rest = Last s rest
turn false s rest = More s rest

abbrev pub behind : {S : Type 0} → (S → List ℕ → Result (S × List ℕ) WordKind) → Turn S → Result (S × List ℕ) WordKind
behind others (More s rest) = others s rest
behind others (Last s rest) = Ok (s, rest)

-- at most n parts; the fault is for a text that has more
unfoldable pub parts : {S : Type 0} → (S → List ℕ → Result (Turn S) WordKind) → WordKind → ℕ → S → List ℕ → Result (S × List ℕ) WordKind
parts part many zero s text = Err many
parts part many (suc n) s text = part s text >>= behind (parts part many n)

-- all parts: there are no more than characters, and one
abbrev pub all_parts : {S : Type 0} → (S → List ℕ → Result (Turn S) WordKind) → WordKind → S → List ℕ → Result (S × List ℕ) WordKind
all_parts part many s text = parts part many (suc (length text)) s text

-- Writes that are gathered.
use Rattle.std.specs.Prelude.{ℕ, List, Option, Some, None, ⊤}
use Rattle.std.specs.Io.KnownBytes.{Appends, append_known}

-- what a file holds, where that is known, and behind it what is pending, grew by these bytes
abbrev pub Gathers : Option (List ℕ) → List ℕ → Option (List ℕ) → List ℕ → List ℕ → Type 0
Gathers old pending new more bytes = Appends (append_known old pending) (append_known new more) bytes

-- P of what the open file holds and of what it holds after, which stays open
abbrev pub OnOpen : {F : Type 0} → (F → Option (List ℕ)) → Option F → Option F → (Option (List ℕ) → Option (List ℕ) → Type 0) → Type 0
OnOpen known None new P = ⊤
OnOpen known (Some old) None P = ⊥
OnOpen known (Some old) (Some new) P = P (known old) (known new)

-- the same, but that it may be given up
abbrev pub WhileOpen : {F : Type 0} → (F → Option (List ℕ)) → Option F → Option F → (Option (List ℕ) → Option (List ℕ) → Type 0) → Type 0
WhileOpen known None new P = ⊤
WhileOpen known (Some old) None P = ⊤
WhileOpen known (Some old) (Some new) P = P (known old) (known new)

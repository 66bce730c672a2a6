-- What clauses see of a list whose last item may still change.
use Rattle.std.specs.Prelude.{ℕ, List, [], ◌∷◌, Option, Some, None}

-- an item or none, as a list
abbrev pub optional : {T : Type 0} → Option T → List T
optional None = []
optional (Some x) = x ∷ []

-- so many
abbrev pub count_of : {T : Type 0} → Option T → ℕ
count_of None = 0
count_of (Some x) = 1

-- Which output's failure ends a run.
use Rattle.std.specs.Prelude.{ℕ, ◌+◌, Bool, true, false, ◌&&◌, ◌||◌, if◌then◌else◌, List, [], ◌∷◌, Option, Some, None}
use Rattle.std.specs.List.{list_any, list_all}
use Rattle.fifo_core.specs.declared.types.EndState.{EndState}
use Rattle.fifo_core.specs.declared.types.EndState.TheVariants as ends

-- one that aborts is dead, or every one is
abbrev pub any_both : List Bool → List Bool → Bool
any_both [] bs = false
any_both (a ∷ more) [] = false
any_both (a ∷ more) (b ∷ bs) = (a && b) || any_both more bs

abbrev pub all_of : List Bool → Bool
all_of bs = list_all (λ b. b) bs

abbrev pub stops : List Bool → List Bool → Bool
stops aborts dead = any_both aborts dead || all_of dead

abbrev pub is_failed : EndState → Bool
is_failed ends.Closed = false
is_failed ends.Failed = true
is_failed ends.NoMemory = false

abbrev pub is_want : EndState → Bool
is_want ends.Closed = false
is_want ends.Failed = false
is_want ends.NoMemory = true

-- the first output that aborts and failed, counted from that number on
abbrev pub first_failed_from : ℕ → List Bool → List EndState → Option ℕ
first_failed_from n [] states = None
first_failed_from n (a ∷ more) [] = None
first_failed_from n (a ∷ more) (s ∷ ss) = if a && is_failed s then Some n else first_failed_from (n + 1) more ss

-- the first output that aborts and failed, or 0 where there is none and every one failed
abbrev pub failed_in : Option ℕ → Bool → Option ℕ
failed_in (Some k) all = Some k
failed_in None all = if all then Some 0 else None

-- the output whose failure ends the run: the first that aborts, or 0 where every one failed and none aborts
abbrev pub failed_slave : List Bool → List EndState → Option ℕ
failed_slave aborts states = failed_in (first_failed_from 0 aborts states) (list_all is_failed states)

-- memory was wanted by an output
abbrev pub any_want : List EndState → Bool
any_want states = list_any is_want states

-- Of plans and ends, what tells how a run ends.
use Rattle.std.specs.Prelude.{ℕ, ◌+◌, Bool, ◌&&◌, if◌then◌else◌, List, [], ◌∷◌, map, Option, Some, None}
use Rattle.std.specs.List.{list_any, list_all}
use Rattle.fifo_core.specs.declared.types.EndState.{EndState}
use Rattle.options.specs.declared.slave.SlavePlan.{SlavePlan}
use Rattle.slave.specs.declared.job.SlaveEnd.{SlaveEnd}
use Rattle.tee.specs.Fails.{is_failed, is_want}

abbrev pub states : {S : Type 0} → List (SlaveEnd S) → List EndState
states ends = map (λ e. e.state) ends

abbrev pub aborts_of : List SlavePlan → List Bool
aborts_of slaves = map (λ (s : SlavePlan). s.abort) slaves

-- an output wanted memory
abbrev pub some_want : {S : Type 0} → List (SlaveEnd S) → Bool
some_want ends = list_any (λ e. is_want e.state) ends

abbrev pub each_failed : {S : Type 0} → List (SlaveEnd S) → Bool
each_failed ends = list_all (λ e. is_failed e.state) ends

-- the first output that aborts and failed, counted from that number on
abbrev pub first_failed : {S : Type 0} → ℕ → List SlavePlan → List (SlaveEnd S) → Option ℕ
first_failed n [] es = None
first_failed n (s ∷ ss) [] = None
first_failed n (s ∷ ss) (e ∷ es) = if s.abort && is_failed e.state then Some n else first_failed (n + 1) ss es

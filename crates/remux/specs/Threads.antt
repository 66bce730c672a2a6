-- Which outputs have threads of their own, and which were to have them.
use Rattle.std.specs.Prelude.{ℕ, ◌-◌, ◌≤◌, ◌⊎◌, Bool, List, count_by}
use Rattle.std.specs.List.{list_any}
use Rattle.rmx_edge.specs.Count.{most}
use Rattle.options.specs.Slave.{Slave}
use Rattle.options.specs.declared.slave.SlavePlan.{SlavePlan}
use Rattle.slave.specs.declared.job.SlaveEnd.{SlaveEnd}

-- an output asks for a thread
abbrev pub has_threads : List Slave → Bool
has_threads slaves = list_any (λ (s : Slave). s.fifo.use_fifo) slaves

abbrev pub any_threads : List SlavePlan → Bool
any_threads slaves = list_any (λ (s : SlavePlan). s.fifo.use_fifo) slaves

-- how many outputs the reader wrote in place of their threads
abbrev pub inlines : {S : Type 0} → List (SlaveEnd S) → ℕ
inlines {S} ends = count_by (λ (e : SlaveEnd S). e.inline) ends

-- At most as many as the count of refused starts rose by, unless that count stands at its end.
abbrev pub InlinesWithin : {S : Type 0} → ℕ → ℕ → List (SlaveEnd S) → Type 0
InlinesWithin old new ends = (inlines ends ≤ new - old) ⊎ (most ≤ new)

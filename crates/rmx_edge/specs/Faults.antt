-- What clauses see of the faults of the system.
use Rattle.std.specs.Prelude.{ℕ, Option}
use Rattle.std.specs.declared.io.Error.{Error}
use Rattle.rmx_edge.specs.declared.faults.Faults.{Faults}

abbrev pub count_of : Faults → ℕ
count_of f = f.count

abbrev pub last_of : Faults → Option Error
last_of f = f.last

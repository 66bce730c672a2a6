-- How a run ends, by how its reading and its outputs ended.
use Rattle.std.specs.Prelude.{ℕ, Bool, true, false, Option, Some, None}
use Rattle.remux.specs.declared.read.ReadEnd.{ReadEnd}
use Rattle.remux.specs.declared.read.ReadEnd.TheVariants as read_end
use Rattle.remux.specs.declared.status.Status.{Status}
use Rattle.remux.specs.declared.status.Status.TheVariants as status
use Rattle.remux.specs.declared.status.Ending.TheVariants as ending

-- a reading without a failed output; where it stopped early there is one, so that case doesn't come
abbrev pub status_of_read : ReadEnd → Status
status_of_read read_end.Whole = status.Done
status_of_read read_end.Cut = status.InputEnded ending.Cut
status_of_read read_end.Limit = status.InputEnded ending.Limit
status_of_read read_end.InputFault = status.InputFault
status_of_read read_end.Stop = status.Done
status_of_read read_end.NoMemory = status.NoMemory

abbrev pub status_failed : Option ℕ → Status → Status
status_failed None s = s
status_failed (Some k) s = status.SlaveFailed k

-- no output wanted memory
abbrev pub status_unwanted : ReadEnd → Option ℕ → Status
status_unwanted read_end.Whole failed = status_failed failed (status_of_read read_end.Whole)
status_unwanted read_end.Cut failed = status_failed failed (status_of_read read_end.Cut)
status_unwanted read_end.Limit failed = status_failed failed (status_of_read read_end.Limit)
status_unwanted read_end.InputFault failed = status_failed failed (status_of_read read_end.InputFault)
status_unwanted read_end.Stop failed = status_failed failed (status_of_read read_end.Stop)
status_unwanted read_end.NoMemory failed = status.NoMemory

-- the first that holds of: memory was wanted, an output failed, the input failed, the input ended early
abbrev pub status_by : ReadEnd → Option ℕ → Bool → Status
status_by e failed true = status.NoMemory
status_by e failed false = status_unwanted e failed

-- What a refusal says of the outputs.
use Rattle.std.specs.Prelude.{◌≡◌, ℕ, Option, Some, None}
use Rattle.tee.specs.declared.fault.TeeFault.{TeeFault}
use Rattle.tee.specs.declared.fault.TeeFault.TheVariants as fault

-- the output that takes no stream
abbrev pub none_in : TeeFault → Option ℕ
none_in (fault.NoneSelected k) = Some k
none_in fault.NoMemory = None

-- an output that takes no stream is the first
abbrev pub IsNoneFault : TeeFault → Option ℕ → Type 0
IsNoneFault (fault.NoneSelected k) first = first ≡ Some k
IsNoneFault fault.NoMemory first = Unit {0}

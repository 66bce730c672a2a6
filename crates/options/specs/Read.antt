-- What a reader answers, beside what its definition says.
use Rattle.std.specs.Prelude.{◌≡◌, Option, Some, None, Result, Ok, Err}
use Rattle.options.specs.declared.fault.WordKind.{WordKind}
use Rattle.options.specs.declared.fault.WordKind.TheVariants.{BadValue}
use Rattle.options.specs.declared.fault.ReadError.{ReadError}
use Rattle.options.specs.declared.fault.ReadError.TheVariants as errors

infixl 10 ◌>>=◌
-- what is read next, unless a fault came first
abbrev pub ◌>>=◌ : {A B : Type 0} → Result A WordKind → (A → Result B WordKind) → Result B WordKind
(Ok x) >>= f = f x
(Err e) >>= f = Err e

-- the value, where there is one
abbrev pub or_bad : {A : Type 0} → Option A → Result A WordKind
or_bad None = Err BadValue
or_bad (Some x) = Ok x

abbrev pub Fails : {Y : Type 0} → ReadError → Result Y WordKind → Type 0
Fails errors.Memory read = Unit {0}
Fails (errors.Fault f) read = read ≡ Err f

-- What a function returned, seen by view, is what the definition gives, unless memory ran out.
abbrev pub Gives : {X Y : Type 0} → (X → Y) → Result X ReadError → Result Y WordKind → Type 0
Gives view (Ok x) read = read ≡ Ok (view x)
Gives view (Err e) read = Fails e read

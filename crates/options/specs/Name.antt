-- Names of inputs, outputs and lists.
use Rattle.std.specs.Prelude.{ℕ, List, Bool, Option, Some, None, Result, Ok, Err, length, ◌==◌, ◌||◌, nat_lt, if◌then◌else◌}
use Rattle.std.specs.List.{list_any}
use Rattle.options.specs.declared.fault.WordKind.{WordKind}
use Rattle.options.specs.declared.fault.WordKind.TheVariants.{BadValue, NameTooLong}

abbrev pub has_control : List ℕ → Bool
has_control name = list_any (λ b. nat_lt b 32) name

-- a name has 1 to 200 bytes, none of them a control character
abbrev pub name_fault : List ℕ → Option WordKind
name_fault name =
    if (length name == 0) || has_control name then Some BadValue
    else if nat_lt 200 (length name) then Some NameTooLong
    else None

-- the name, or what is wrong with it
abbrev pub unless : Option WordKind → List ℕ → Result (List ℕ) WordKind
unless None name = Ok name
unless (Some fault) name = Err fault

abbrev pub checked_name : List ℕ → Result (List ℕ) WordKind
checked_name name = unless (name_fault name) name

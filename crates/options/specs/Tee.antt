-- The outputs of a tee's text.
use Rattle.std.specs.Prelude.{ℕ, List, [], ◌∷◌, ◌++◌, Bool, false, Option, None, Some, Result, Ok, Err, length, ◌==◌, ◌||◌, if◌then◌else◌}
use Rattle.std.specs.Option.{option_map_or}
use Rattle.std.specs.List.{list_any}
use Rattle.std.specs.Str.{bytes_eq}
use Rattle.playlist.specs.declared.seg_options.SegOptions.{SegOptions}
use Rattle.options.specs.declared.escape.Place.TheVariants.{Bare}
use Rattle.options.specs.declared.fault.WordKind.{WordKind}
use Rattle.options.specs.declared.fault.WordKind.TheVariants.{TooManySlaves, SameTarget}
use Rattle.options.specs.Read.{◌>>=◌}
use Rattle.options.specs.Escape.{piece}
use Rattle.options.specs.Repeat.{Turn, More, Last, all_parts}
use Rattle.options.specs.Slave.{Slave, plan_slave}

-- the name of the list, where one is asked for
abbrev pub list_of : Option SegOptions → Option (List ℕ)
list_of None = None
list_of (Some options) = options.list

-- whether the output's file or list has that name
abbrev pub is_named : List ℕ → Slave → Bool
is_named name s = bytes_eq s.name name || option_map_or (λ list. bytes_eq list name) (list_of s.seg) false

abbrev pub is_taken : List Slave → List ℕ → Bool
is_taken slaves name = list_any (is_named name) slaves

-- whether the output's file or list has the name of an earlier file or list, its own included
abbrev pub clashes : List Slave → Slave → Bool
clashes slaves s = is_taken slaves s.name || option_map_or (λ list. bytes_eq s.name list || is_taken slaves list) (list_of s.seg) false

-- the next output, behind those that came before, and what stands behind its text
unfoldable pub next_slave : List Slave → List ℕ → Result (Slave × List ℕ) WordKind
next_slave slaves text =
    if length slaves == 16 then Err TooManySlaves
    else piece (124 ∷ []) Bare text >>= λ p. plan_slave p.0 >>= λ s.
    if clashes slaves s then Err SameTarget else Ok (s, p.1)

-- an output more, and what stands behind its |
abbrev pub with_slave : List Slave → Slave → List ℕ → Turn (List Slave)
with_slave slaves s [] = Last (slaves ++ s ∷ []) []
with_slave slaves s (c ∷ cs) = More (slaves ++ s ∷ []) cs

abbrev pub slave_part : List Slave → List ℕ → Result (Turn (List Slave)) WordKind
slave_part slaves text = next_slave slaves text >>= λ x. Ok (with_slave slaves x.0 x.1)

abbrev pub slaves_behind : List Slave → List ℕ → Result (List Slave × List ℕ) WordKind
slaves_behind before text = all_parts slave_part TooManySlaves before text

-- the outputs of the text
unfoldable pub slaves : List ℕ → Result (List Slave) WordKind
slaves text = slaves_behind [] text >>= λ x. Ok x.0

-- One parse of a text: its marks removed, up to a character that ends it.
use Rattle.std.specs.Prelude.{ℕ, List, [], ◌∷◌, ◌++◌, Bool, Result, Ok, Err, ◌==◌, if◌then◌else◌}
use Rattle.options.specs.declared.fault.WordKind.{WordKind}
use Rattle.options.specs.declared.fault.WordKind.TheVariants.{DanglingEscape}
use Rattle.options.specs.declared.escape.Place.{Place}
use Rattle.options.specs.declared.escape.Place.TheVariants.{Bare, Escaped, Quoted}
use Rattle.std.specs.List.{list_any}
use Rattle.options.specs.Read.{◌>>=◌}

abbrev pub is_among : List ℕ → ℕ → Bool
is_among stops c = list_any (λ s. s == c) stops

-- what was read before, and what is still read
abbrev pub with_front : List ℕ → Result (List ℕ × List ℕ) WordKind → Result (List ℕ × List ℕ) WordKind
with_front front read = read >>= λ x. Ok (front ++ x.0, x.1)

-- The text up to a bare character that ends it, its marks removed, and what is left from that character on.
unfoldable pub piece : List ℕ → Place → List ℕ → Result (List ℕ × List ℕ) WordKind
piece stops Bare [] = Ok ([], [])
piece stops Escaped [] = Err DanglingEscape
piece stops Quoted [] = Err DanglingEscape
piece stops Bare (c ∷ cs) =
    if is_among stops c then Ok ([], c ∷ cs)
    else if c == 92 then piece stops Escaped cs
    else if c == 39 then piece stops Quoted cs
    else with_front (c ∷ []) (piece stops Bare cs)
piece stops Escaped (c ∷ cs) = with_front (c ∷ []) (piece stops Bare cs)
piece stops Quoted (c ∷ cs) =
    if c == 39 then piece stops Bare cs
    else with_front (c ∷ []) (piece stops Quoted cs)

-- The block of options in front of an output's name.
use Rattle.std.specs.Prelude.{ℕ, List, [], ◌∷◌, Result, Ok, Err, ◌==◌, if◌then◌else◌}
use Rattle.options.specs.declared.fault.WordKind.{WordKind}
use Rattle.options.specs.declared.fault.WordKind.TheVariants.{UnclosedBlock}
use Rattle.options.specs.Read.{◌>>=◌}
use Rattle.options.specs.Repeat.{Turn, turn, all_parts}
use Rattle.options.specs.Block.{key_at, value_at}
use Rattle.options.specs.Draft.{Kept, no_options, with_named}

-- one option of it
unfoldable pub option_part : Kept → List ℕ → Result (Turn Kept) WordKind
option_part d text = key_at UnclosedBlock [] text >>= λ key. value_at key.1 >>= λ value.
    with_named key.0 value.0 d >>= λ more. Ok (turn value.1 more value.2)

-- the options behind [, and what stands behind ]
abbrev pub behind_bracket : List ℕ → Result (Kept × List ℕ) WordKind
behind_bracket [] = Err UnclosedBlock
behind_bracket (c ∷ cs) = if c == 93 then Ok (no_options, cs) else all_parts option_part UnclosedBlock no_options (c ∷ cs)

-- the options, and the rest, which is the name
unfoldable pub block : List ℕ → Result (Kept × List ℕ) WordKind
block [] = Ok (no_options, [])
block (c ∷ cs) = if c == 91 then behind_bracket cs else Ok (no_options, c ∷ cs)

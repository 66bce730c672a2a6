-- The text of fifo_options.
use Rattle.std.specs.Prelude.{ℕ, List, [], ◌∷◌, Result, Ok}
use Rattle.std.specs.Str.{chars}
use Rattle.options.specs.declared.fault.WordKind.{WordKind}
use Rattle.options.specs.declared.fault.WordKind.TheVariants.{UnknownOption}
use Rattle.options.specs.declared.fifo.FifoDraft.{FifoDraft}
use Rattle.options.specs.Read.{◌>>=◌}
use Rattle.options.specs.Repeat.{Turn, turn, all_parts}
use Rattle.options.specs.Block.{key_at, bare_value_at}
use Rattle.options.specs.Fifo.{no_fifo, with_named}

-- one option of it
unfoldable pub fifo_part : FifoDraft → List ℕ → Result (Turn FifoDraft) WordKind
fifo_part d text = key_at UnknownOption [] text >>= λ key. bare_value_at key.1 >>= λ value.
    with_named key.0 value.0 d >>= λ more. Ok (turn value.1 more value.2)

abbrev pub fifo_all : List ℕ → Result FifoDraft WordKind
fifo_all text = all_parts fifo_part UnknownOption no_fifo text >>= λ x. Ok x.0

abbrev pub fifo_text : List ℕ → Result FifoDraft WordKind
fifo_text [] = Ok no_fifo
fifo_text (c ∷ cs) = fifo_all (c ∷ cs)

-- options with colons between them, or none
unfoldable pub fifo_options : List ℕ → Result FifoDraft WordKind
fifo_options value = fifo_text (chars value)

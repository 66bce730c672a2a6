use Rattle.std.proofs.Common.{◌≡◌, length}
use denote.Text.{Utf8}
use denote.Shadow.{shadow}
use Rattle.std.specs.Str.{chars}
use Rattle.options.specs.declared.fault.WordKind.TheVariants.{UnknownOption}
use Rattle.options.specs.Repeat.{all_parts}
use Rattle.options.specs.Fifo.{no_fifo}
use Rattle.options.specs.Fifos.{fifo_part}
use Rattle.options.proofs.fifos.all_fifo_options.Given as goal

abbrev pub invariant-parts : goal.invariant-parts
invariant-parts l = shadow (Utf8 l.rest)
    × (all_parts fifo_part UnknownOption l.draft (chars l.rest) ≡ all_parts fifo_part UnknownOption no_fifo (chars l.fn.text))

abbrev pub decreases-parts : goal.decreases-parts
decreases-parts l = length (chars l.rest)

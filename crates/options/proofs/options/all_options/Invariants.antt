use Rattle.std.proofs.Common.{◌≡◌, length}
use denote.Text.{Utf8}
use denote.Shadow.{shadow}
use Rattle.std.specs.Str.{chars}
use Rattle.options.specs.declared.fault.WordKind.TheVariants.{UnclosedBlock}
use Rattle.options.specs.Repeat.{all_parts}
use Rattle.options.specs.Draft.{view, no_options}
use Rattle.options.specs.Options.{option_part}
use Rattle.options.proofs.options.all_options.Given as goal

abbrev pub invariant-parts : goal.invariant-parts
invariant-parts l = shadow (Utf8 l.rest)
    × (all_parts option_part UnclosedBlock (view l.draft) (chars l.rest) ≡ all_parts option_part UnclosedBlock no_options (chars l.fn.text))

abbrev pub decreases-parts : goal.decreases-parts
decreases-parts l = length (chars l.rest)

use Rattle.std.proofs.Common.{◌≡◌, length}
use denote.Text.{Utf8}
use denote.Shadow.{shadow}
use Rattle.std.specs.Str.{chars}
use Rattle.options.specs.Text.{characters}
use Rattle.options.specs.Escape.{piece, with_front}
use Rattle.options.specs.declared.escape.Place.TheVariants.{Bare}
use Rattle.options.proofs.escape.piece_at.Given as goal

abbrev pub invariant-loop-c : goal.invariant-loop-c
invariant-loop-c l = shadow (Utf8 l.rest)
    × (with_front (characters l.out) (piece l.stops l.place (chars l.rest)) ≡ piece l.stops Bare (chars l.fn.text))

abbrev pub decreases-loop-c : goal.decreases-loop-c
decreases-loop-c l = length (chars l.rest)

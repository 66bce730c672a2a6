use Rattle.std.proofs.Common.{◌≡◌, length, [], string_bytes}
use denote.Text.{Utf8}
use denote.Shadow.{shadow}
use Rattle.std.specs.Str.{chars}
use Rattle.options.specs.Block.{key_at}
use Rattle.options.proofs.block.key_at.Given as goal

abbrev pub invariant-loop-c : goal.invariant-loop-c
invariant-loop-c l = shadow (Utf8 l.rest) × (key_at l.short (string_bytes l.key) (chars l.rest) ≡ key_at l.short [] (chars l.fn.text))

abbrev pub decreases-loop-c : goal.decreases-loop-c
decreases-loop-c l = length (chars l.rest)

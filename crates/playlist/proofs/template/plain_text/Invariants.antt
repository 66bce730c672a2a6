use Rattle.std.proofs.Common.{◌≡◌, ◌≤◌, ◌+◌, length}
use denote.Text.{Utf8}
use denote.Shadow.{shadow}
use Rattle.playlist.specs.Template.{plain, with_front}
use Rattle.playlist.proofs.template.plain_text.Given as goal

abbrev pub invariant-loop-front : goal.invariant-loop-front
invariant-loop-front l = shadow (Utf8 l.rest)
    × (with_front l.out.bytes (plain l.rest) ≡ plain l.fn.text)
    × (length l.out.bytes + length l.rest ≤ length l.fn.text)

abbrev pub decreases-loop-front : goal.decreases-loop-front
decreases-loop-front l = length l.rest

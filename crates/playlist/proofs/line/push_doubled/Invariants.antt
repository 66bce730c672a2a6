use Rattle.std.proofs.Common.{◌≡◌, ◌≤◌, ◌+◌, ◌*◌, ◌++◌, length}
use denote.Text.{Utf8}
use denote.Shadow.{shadow}
use Rattle.std.specs.Prelude.{flat_map}
use Rattle.playlist.specs.List.{doubled}
use Rattle.playlist.proofs.line.push_doubled.Given as goal

abbrev pub invariant-loop-front : goal.invariant-loop-front
invariant-loop-front l = shadow (Utf8 l.rest)
    × (l.out.bytes ++ flat_map doubled l.rest ≡ l.fn.out.bytes ++ flat_map doubled l.fn.text)
    × (length l.out.bytes + 2 * length l.rest ≤ length l.fn.out.bytes + 2 * length l.fn.text)

abbrev pub decreases-loop-front : goal.decreases-loop-front
decreases-loop-front l = length l.rest

use Rattle.std.proofs.Common.{◌≡◌, length}
use denote.Text.{Utf8}
use denote.Shadow.{shadow}
use Rattle.options.specs.Select.{specs}
use Rattle.options.proofs.Commas.{behind_these}
use Rattle.options.proofs.select.specs_of.Given as goal

abbrev pub invariant-loop-spec : goal.invariant-loop-spec
invariant-loop-spec l = shadow (Utf8 l.rest) × (behind_these l.found.items (specs l.rest) ≡ specs l.fn.text)

abbrev pub decreases-loop-spec : goal.decreases-loop-spec
decreases-loop-spec l = length l.rest

use Rattle.std.proofs.Common.{◌≡◌, length, [], map}
use denote.Text.{Utf8}
use denote.Shadow.{shadow}
use Rattle.std.specs.Str.{chars}
use Rattle.options.specs.Slave.{view}
use Rattle.options.specs.Tee.{slaves_behind}
use Rattle.options.proofs.tee.slaves_of.Given as goal

abbrev pub invariant-slaves : goal.invariant-slaves
invariant-slaves l = shadow (Utf8 l.rest) × (slaves_behind (map view l.plans.items) (chars l.rest) ≡ slaves_behind [] (chars l.fn.text))

abbrev pub decreases-slaves : goal.decreases-slaves
decreases-slaves l = length (chars l.rest)

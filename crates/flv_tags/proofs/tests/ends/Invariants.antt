use Rattle.std.proofs.Common.{◌≡◌, false}
use Rattle.flv_tags.specs.TagReader.{state_of}
use Rattle.flv_tags.proofs.tests.ends.Given as goal

abbrev pub invariant-loop-piece : goal.invariant-loop-piece
invariant-loop-piece l = (state_of l.reader).ended ≡ false

use Rattle.std.proofs.lemmas.Str.{IsUtf8-string_bytes}
use Rattle.options.proofs.Characters.{pushed}
use Rattle.options.proofs.text.push_char.Goals as goal

pub returns : goal.returns
returns c = pushed c.push.result _ _ c.args.c (IsUtf8-string_bytes c.args.text.now) c.ranges.c.0 c.push.ensures.bytes

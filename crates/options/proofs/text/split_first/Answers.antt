use Rattle.std.proofs.lemmas.Str.{chars_past_char}
use Rattle.options.proofs.text.split_first.Goals as goal

pub returns : goal.returns
returns c = let s = c.in_ok-first.ensures.steps in
    chars_past_char c.args.text.now c.as_str.result.now c.in_ok-first.first c.utf8.text (cc (s.0, c.chars-rest.ensures.rest, c.as_str.ensures))

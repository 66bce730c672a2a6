use Rattle.std.proofs.Common.{lit<, None}
use Rattle.std.proofs.lemmas.Str.Pattern.{strip_prefix_char}
use Rattle.playlist.proofs.Marks.{none_of_both}
use Rattle.playlist.proofs.template.mark.Goals as goal

pub returns-in_default-strip_prefix-clause-read : goal.returns-in_default-strip_prefix-clause-read
returns-in_default-strip_prefix-clause-read c =
    none_of_both c.args.text.now
    (strip_prefix_char 100 c.args.text.now None c.in_default.ensures.cases (lit< tt))
    (strip_prefix_char 48 c.args.text.now None c.in_default-strip_prefix.ensures.cases (lit< tt))

use Rattle.std.proofs.Common.{lit<, None, ◌≡◌, false}
use Rattle.std.specs.List.{list_any}
use Rattle.std.proofs.lemmas.Str.Pattern.{split_parts}
use Rattle.options.specs.Time.{is_point}
use Rattle.options.proofs.Commas.{has_no}
use Rattle.options.proofs.time.time_of.Goals as goal

pub returns-in-None : goal.returns-in-None
returns-in-None c =
    let none : list_any is_point c.args.text.now ≡ false = has_no 46 c.args.text.now (split_parts 46 c.args.text.now None c.in-None.ensures.cases (lit< tt)) in
    rw none c.time_of_parts-in-None.ensures

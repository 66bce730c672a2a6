use Rattle.std.proofs.Common.{map, string_bytes}
use Rattle.options.specs.Words.{plan_view}
use Rattle.options.proofs.Valid.{plan_valid}
use Rattle.options.proofs.words.read_words.Goals as goal

pub returns-in-Ok-clause-valid : goal.returns-in-Ok-clause-valid
returns-in-Ok-clause-valid c = plan_valid (map string_bytes c.args.words.now) (plan_view c.in-Ok.plan) c.in-Ok.ensures

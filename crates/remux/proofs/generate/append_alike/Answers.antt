use Rattle.std.proofs.Common.{ℕ, List, ◌++◌, ap, ◌∙◌}
use Rattle.std.proofs.lemmas.List.{take-replicate}
use Rattle.remux.proofs.generate.append_alike.Goals as goal

pub returns-clause-items : goal.returns-clause-items
returns-clause-items c =
    c.append.ensures.items ∙ ap (λ (l : List ℕ). c.args.piece.now.items ++ l) (take-replicate c.args.count 900 c.args.byte c.requires.count)

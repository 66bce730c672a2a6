use Rattle.std.proofs.Common.{ap, ◌∙◌}
use Rattle.std.specs.Prelude.{if◌then◌else◌}
use Rattle.remux.proofs.MadeTags.{picture_is}
use Rattle.remux.proofs.generate.picture.Goals as goal

pub returns-clause-items : goal.returns-clause-items
returns-clause-items c =
    c.tag.ensures.items
    ∙ picture_is c.args.number c.tag_byte.result c.unit_byte.result
    (c.tag_byte.ensures ∙ ap (λ b. if b then 23 else 39) c.is_key-key.ensures)
    (c.unit_byte.ensures ∙ ap (λ b. if b then 101 else 65) c.is_key-key.ensures)

use Rattle.std.proofs.Common.{◌∙◌, ap, Some}
use Rattle.flv_tags.specs.declared.tag.TagFault.{TagFault}
use Rattle.remux.proofs.Reading.{both}
use Rattle.remux.proofs.read.drain.Goals as goal

pub unreachable-requires : goal.unreachable-requires
unreachable-requires g c =
    let w = c.requires.flows in
    both _ ((rw c.in-Ok-More.field-0-is at c.in-Ok-More.ensures.pumps) w.0 w.1 w.2 w.3).0 c.requires.ended

pub returns-in-Ok-End-clause-drains : goal.returns-in-Ok-End-clause-drains
returns-in-Ok-End-clause-drains g c = λ s b start f.
    let r = (rw c.in-Ok-End.field-0-is at c.in-Ok-End.ensures.pumps) s b start f in (r.1, r.2)

pub returns-in-Ok-Stop-clause-drains : goal.returns-in-Ok-Stop-clause-drains
returns-in-Ok-Stop-clause-drains g c = rw c.in-Ok-Stop.field-0-is at c.in-Ok-Stop.ensures.pumps

pub returns-in-Err-Tag-clause-drains : goal.returns-in-Err-Tag-clause-drains
returns-in-Err-Tag-clause-drains g c = λ s b start f.
    let r = (rw c.in-Err-Tag.field-0-is at c.in-Err-Tag.ensures.pumps) s b start f in
    (r.2 ∙ ap (λ (x : TagFault). Some x) r.1, r.3)

pub returns-in-Err-NoMemory-clause-drains : goal.returns-in-Err-NoMemory-clause-drains
returns-in-Err-NoMemory-clause-drains g c = rw c.in-Err-NoMemory.field-0-is at c.in-Err-NoMemory.ensures.pumps

use Rattle.std.proofs.Common.{◌∙◌, ap, ◌++◌, List, ◌∷◌, []}
use Rattle.flv_tags.specs.declared.tag.Tag.{Tag}
use Rattle.flv_demux.proofs.Reading.{reads_tag, reads_more, reads_end, reads_err, small_more}
use Rattle.flv_demux.proofs.steps.read_tag.Goals as goal

pub returns-in-Ok-Tag-clause-read : goal.returns-in-Ok-Tag-clause-read
returns-in-Ok-Tag-clause-read c = λ fed done r. reads_tag fed done c.args.reader.now.ended _ c.args.waiting.now.items _ c.in-Ok-Tag.tag (c.push.ensures.items ∙ ap (λ (l : List Tag). l ++ c.in-Ok-Tag.tag ∷ []) c.reserve.ensures.items) ((rw c.in-Ok-Tag.field-0-is at c.in-Ok-Tag.ensures.answers) fed _ r)

pub returns-in-Ok-Tag-clause-bodies : goal.returns-in-Ok-Tag-clause-bodies
returns-in-Ok-Tag-clause-bodies c = rw (c.push.ensures.items, c.reserve.ensures.items) (small_more c.args.waiting.now.items c.in-Ok-Tag.tag c.requires.bodies (rw c.in-Ok-Tag.field-0-is at c.in-Ok-Tag.ensures.small))

pub returns-in-Ok-NeedMore-clause-read : goal.returns-in-Ok-NeedMore-clause-read
returns-in-Ok-NeedMore-clause-read c = λ fed done r. reads_more fed done c.args.reader.now.ended _ c.args.waiting.now.items _ c.reserve.ensures.items ((rw c.in-Ok-NeedMore.field-0-is at c.in-Ok-NeedMore.ensures.answers) fed _ r)

pub returns-in-Ok-End-clause-read : goal.returns-in-Ok-End-clause-read
returns-in-Ok-End-clause-read c = λ fed done r. reads_end fed done c.args.reader.now.ended _ c.args.waiting.now.items _ c.reserve.ensures.items ((rw c.in-Ok-End.field-0-is at c.in-Ok-End.ensures.answers) fed _ r)

pub returns-in-Err-next-clause-read : goal.returns-in-Err-next-clause-read
returns-in-Err-next-clause-read c = λ fed done r. rw c.fault_of.ensures (reads_err c.in-Err-next.fault fed done c.args.reader.now.ended _ c.args.waiting.now.items _ c.reserve.ensures.items (c.in-Err-next.ensures.answers fed _ r))

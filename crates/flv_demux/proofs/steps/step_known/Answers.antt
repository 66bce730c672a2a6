use Rattle.std.proofs.Common.{◌≡◌, ◌∙◌, sym, true, []}
use Rattle.flv_tags.specs.TagReader.{state_of}
use Rattle.flv_demux.specs.Probe.{has_stream}
use Rattle.flv_demux.specs.Steps.{core_at}
use Rattle.flv_demux.proofs.Demuxing.{empty_of, dealt_packet, dealt_none}
use Rattle.flv_demux.proofs.Stepping.{known_tag, known_more, known_end, known_err}
use Rattle.flv_demux.proofs.steps.step_known.Goals as goal

pub returns-in-Ok-Tag-clause-steps : goal.returns-in-Ok-Tag-clause-steps
returns-in-Ok-Tag-clause-steps c = λ fed done s k m.
    known_tag fed done c.args.reader.now.ended (core_at (state_of c.args.reader.now) c.args.waiting.now.items s c.args.desk.now) (state_of c.read_tag.new.reader) c.read_tag.new.waiting.items c.read_tag.ensures.ended m
    ((rw c.in-Ok-Tag.field-0-is at c.in-Ok-Tag.ensures.read) fed done m.read)

pub returns-in-Ok-NeedMore-clause-steps : goal.returns-in-Ok-NeedMore-clause-steps
returns-in-Ok-NeedMore-clause-steps c = λ fed done s k m.
    let some : has_stream c.args.kinds ≡ true = sym c.has_stream.ensures ∙ c.if-not-has_stream.false in
    let none : c.args.waiting.now.items ≡ [] = empty_of c.args.waiting.now.items (sym (rw c.as_slice.ensures at c.is_empty.ensures) ∙ c.if-is_empty.true) in
    known_more fed done (core_at (state_of c.args.reader.now) c.args.waiting.now.items s c.args.desk.now) c.args.kinds (state_of c.read_tag.new.reader) c.read_tag.new.waiting.items k some none c.read_tag.ensures.ended m
    ((rw c.in-Ok-NeedMore.field-0-is at c.in-Ok-NeedMore.ensures.read) fed done m.read)

pub returns-in-Ok-End-clause-steps : goal.returns-in-Ok-End-clause-steps
returns-in-Ok-End-clause-steps c = λ fed done s k m.
    let some : has_stream c.args.kinds ≡ true = sym c.has_stream.ensures ∙ c.if-not-has_stream.false in
    let none : c.args.waiting.now.items ≡ [] = empty_of c.args.waiting.now.items (sym (rw c.as_slice.ensures at c.is_empty.ensures) ∙ c.if-is_empty.true) in
    known_end fed done (core_at (state_of c.args.reader.now) c.args.waiting.now.items s c.args.desk.now) c.args.kinds (state_of c.read_tag.new.reader) c.read_tag.new.waiting.items k some none c.read_tag.ensures.ended m
    ((rw c.in-Ok-End.field-0-is at c.in-Ok-End.ensures.read) fed done m.read)

pub returns-in-Err-clause-steps : goal.returns-in-Err-clause-steps
returns-in-Err-clause-steps c = λ fed done s k m.
    let some : has_stream c.args.kinds ≡ true = sym c.has_stream.ensures ∙ c.if-not-has_stream.false in
    let none : c.args.waiting.now.items ≡ [] = empty_of c.args.waiting.now.items (sym (rw c.as_slice.ensures at c.is_empty.ensures) ∙ c.if-is_empty.true) in
    known_err c.in-Err.fault fed done (core_at (state_of c.args.reader.now) c.args.waiting.now.items s c.args.desk.now) c.args.kinds (state_of c.read_tag.new.reader) c.read_tag.new.waiting.items k some none c.read_tag.ensures.ended m
    (c.in-Err.ensures.read fed done m.read)

pub returns-in-Ok-Some-clause-steps : goal.returns-in-Ok-Some-clause-steps
returns-in-Ok-Some-clause-steps c = λ fed done s k m.
    let some : has_stream c.args.kinds ≡ true = sym c.has_stream.ensures ∙ c.if-not-has_stream.false in
    dealt_packet fed done (core_at (state_of c.args.reader.now) c.args.waiting.now.items s c.args.desk.now) c.args.kinds c.in-Ok-Some.packet c.deal_first.new.waiting.items c.deal_first.new.desk k some m
    (rw c.in-Ok-Some.field-0-is at c.in-Ok-Some.ensures.ok)

pub returns-in-Ok-None-clause-steps : goal.returns-in-Ok-None-clause-steps
returns-in-Ok-None-clause-steps c = λ fed done s k m.
    let some : has_stream c.args.kinds ≡ true = sym c.has_stream.ensures ∙ c.if-not-has_stream.false in
    dealt_none fed done (core_at (state_of c.args.reader.now) c.args.waiting.now.items s c.args.desk.now) c.args.kinds c.deal_first.new.waiting.items c.deal_first.new.desk k some m
    (rw c.in-Ok-None.field-0-is at c.in-Ok-None.ensures.ok)

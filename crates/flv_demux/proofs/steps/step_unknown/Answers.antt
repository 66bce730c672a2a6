use Rattle.std.proofs.Common.{◌≡◌, ◌∙◌, refl, sym, true, false, inl}
use Rattle.flv_tags.specs.TagReader.{state_of}
use Rattle.flv_demux.specs.Probe.{is_decided}
use Rattle.flv_demux.specs.Steps.{core_at, is_cut}
use Rattle.flv_demux.proofs.Stepping.{known_tag, unknown_more, unknown_err, looked_next, decide_steps, whole_steps, cut_steps}
use Rattle.flv_demux.proofs.steps.step_unknown.Goals as goal

pub returns-in-Ok-clause-steps : goal.returns-in-Ok-clause-steps
returns-in-Ok-clause-steps c = λ fed done d m.
    let some = rw c.as_slice.ensures at c.if-streams-as_slice.true in
    looked_next fed done (state_of c.args.reader.now) c.args.waiting.now.items c.args.streams.now c.look_next.new.streams d c.requires.unknown some (rw c.look_next.ensures.infos refl) (rw c.as_slice-then-streams-as_slice.ensures at c.in-Ok.ensures.ok) m

pub returns-then-is_decided-clause-steps : goal.returns-then-is_decided-clause-steps
returns-then-is_decided-clause-steps c = λ fed done d m.
    let all = rw c.as_slice.ensures at c.if-streams-as_slice.false in
    decide_steps c.decide.result fed done c.args.reader.now.ended (state_of c.args.reader.now) c.args.waiting.now.items c.args.streams.now c.decide.new.streams d c.requires.unknown all
    (inl (sym c.is_decided.ensures ∙ c.if-is_decided.true)) m c.decide.ensures.ok c.decide.ensures.err

pub returns-in-Ok-Tag-clause-steps : goal.returns-in-Ok-Tag-clause-steps
returns-in-Ok-Tag-clause-steps c = λ fed done d m.
    known_tag fed done c.args.reader.now.ended (core_at (state_of c.args.reader.now) c.args.waiting.now.items c.args.streams.now d) (state_of c.read_tag.new.reader) c.read_tag.new.waiting.items c.read_tag.ensures.ended m
    ((rw c.in-Ok-Tag.field-0-is at c.in-Ok-Tag.ensures.read) fed done m.read)

pub returns-in-Ok-NeedMore-clause-steps : goal.returns-in-Ok-NeedMore-clause-steps
returns-in-Ok-NeedMore-clause-steps c = λ fed done d m.
    let all = rw c.as_slice.ensures at c.if-streams-as_slice.false in
    let open_still : is_decided c.args.streams.now.probe ≡ false = sym c.is_decided.ensures ∙ c.if-is_decided.false in
    unknown_more fed done (core_at (state_of c.args.reader.now) c.args.waiting.now.items c.args.streams.now d) (state_of c.read_tag.new.reader) c.read_tag.new.waiting.items c.requires.unknown all open_still c.read_tag.ensures.ended m
    ((rw c.in-Ok-NeedMore.field-0-is at c.in-Ok-NeedMore.ensures.read) fed done m.read)

pub returns-in-Ok-End-clause-steps : goal.returns-in-Ok-End-clause-steps
returns-in-Ok-End-clause-steps c = λ fed done d m.
    let all = rw c.as_slice.ensures at c.if-streams-as_slice.false in
    whole_steps c.decide-in-Ok-End.result fed done (state_of c.args.reader.now) (state_of c.read_tag.new.reader) c.args.waiting.now.items c.read_tag.new.waiting.items c.args.streams.now c.decide-in-Ok-End.new.streams d c.requires.unknown all c.read_tag.ensures.ended m
    ((rw c.in-Ok-End.field-0-is at c.in-Ok-End.ensures.read) fed done m.read) c.decide-in-Ok-End.ensures.ok c.decide-in-Ok-End.ensures.err

pub returns-then-is_cut-clause-steps : goal.returns-then-is_cut-clause-steps
returns-then-is_cut-clause-steps c = λ fed done d m.
    let all = rw c.as_slice.ensures at c.if-streams-as_slice.false in
    let cut : is_cut c.in-Err-read_tag.fault ≡ true = sym c.is_cut.ensures ∙ c.if-is_cut.true in
    cut_steps c.in-Err-read_tag.fault c.decide-then-is_cut.result fed done (state_of c.args.reader.now) (state_of c.read_tag.new.reader) c.args.waiting.now.items c.read_tag.new.waiting.items c.args.streams.now c.decide-then-is_cut.new.streams d cut c.requires.unknown all c.read_tag.ensures.ended m
    (c.in-Err-read_tag.ensures.read fed done m.read) c.decide-then-is_cut.ensures.ok c.decide-then-is_cut.ensures.err

pub returns-else-is_cut-clause-steps : goal.returns-else-is_cut-clause-steps
returns-else-is_cut-clause-steps c = λ fed done d m.
    let cut : is_cut c.in-Err-read_tag.fault ≡ false = sym c.is_cut.ensures ∙ c.if-is_cut.false in
    unknown_err c.in-Err-read_tag.fault fed done (core_at (state_of c.args.reader.now) c.args.waiting.now.items c.args.streams.now d) (state_of c.read_tag.new.reader) c.read_tag.new.waiting.items cut c.requires.unknown c.read_tag.ensures.ended m
    (c.in-Err-read_tag.ensures.read fed done m.read)

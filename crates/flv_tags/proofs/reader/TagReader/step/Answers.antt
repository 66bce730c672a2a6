use Rattle.std.proofs.Common.{refl}
use Rattle.flv_tags.specs.TagReader.{state_of}
use Rattle.flv_tags.proofs.ReaderLemmas.{head_passed, steps_after}
use Rattle.flv_tags.proofs.reader.TagReader.step.Goals as goal

pub returns-in-Past : goal.returns-in-Past
returns-in-Past c =
    let h = rw c.as_slice.ensures at c.in-Past.ensures in
    steps_after c.step_past_head-in-Past.result (state_of c.args.self.now) _ (state_of c.step_past_head-in-Past.new.self)
    (head_passed (state_of c.args.self.now) c.in-Past.offset c.if-self.false c.requires h.0 h.1 h.2)
    refl c.requires c.step_past_head-in-Past.ensures

use Rattle.std.proofs.Common.{◌≤◌, length, arith}
use Rattle.flv_tags.specs.TagReader.{state_of}
use Rattle.flv_tags.proofs.ReaderLemmas.{skipped, steps_after}
use Rattle.flv_tags.proofs.reader.TagReader.step_past_head.Goals as goal

pub returns-then-self-gt0 : goal.returns-then-self-gt0
returns-then-self-gt0 c =
    let low : c.min-passed.result ≤ c.args.self.now.skip = omega (arith, c.min-passed.ensures) in
    let fits : c.min-passed.result ≤ length c.args.self.now.text.items = omega (arith, c.min-passed.ensures, c.len.ensures.value) in
    steps_after c.step_at_part.result (state_of c.args.self.now) _ (state_of c.step_at_part.new.self)
    (skipped (state_of c.args.self.now) c.min-passed.result c.requires.head c.requires.fault low fits)
    c.requires.head c.requires.fault (rw c.advance.ensures.items at c.step_at_part.ensures)

pub returns : goal.returns
returns c =
    let low : c.min-passed.result ≤ c.args.self.now.skip = omega (arith, c.min-passed.ensures) in
    let fits : c.min-passed.result ≤ length c.args.self.now.text.items = omega (arith, c.min-passed.ensures, c.len.ensures.value) in
    steps_after c.step_at_size.result (state_of c.args.self.now) _ (state_of c.step_at_size.new.self)
    (skipped (state_of c.args.self.now) c.min-passed.result c.requires.head c.requires.fault low fits)
    c.requires.head c.requires.fault (rw c.advance.ensures.items at c.step_at_size.ensures)

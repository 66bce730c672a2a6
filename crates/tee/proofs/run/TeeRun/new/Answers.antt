use Rattle.std.proofs.Common.{map, arith}
use Rattle.std.specs.Option.{option_map}
use Rattle.options.specs.Slave.{view}
use Rattle.tee.specs.Berths.{IsBerth}
use Rattle.tee.proofs.Slots.{zip_length}
use Rattle.tee.proofs.run.TeeRun.new.Goals as goal

pub open-requires-clause-few : goal.open-requires-clause-few
open-requires-clause-few g c =
    let plans = map view c.args.plan.now.slaves.items in
    let made = rw c.as_slice.ensures at c.in-Ok.ensures.made in
    let many = zip_length (IsBerth c.args.infos.now (option_map (λ body. body.now) c.args.script)) plans c.in-Ok.berths.items made in
    let few = c.requires.valid.few in
    omega arith

pub open-requires-clause-enough : goal.open-requires-clause-enough
open-requires-clause-enough g c =
    let plans = map view c.args.plan.now.slaves.items in
    let made = rw c.as_slice.ensures at c.in-Ok.ensures.made in
    let many = zip_length (IsBerth c.args.infos.now (option_map (λ body. body.now) c.args.script)) plans c.in-Ok.berths.items made in
    let few = c.requires.valid.few in
    omega arith

pub returns-in-Ok-new-clause-made : goal.returns-in-Ok-new-clause-made
returns-in-Ok-new-clause-made g c =
    let made = rw c.as_slice.ensures at c.in-Ok.ensures.made in
    rw c.in-Ok-new.ensures.infos at (c.open.ensures.made (option_map (λ body. body.now) c.args.script) (map view c.args.plan.now.slaves.items) (rw c.in-Ok-new.ensures.infos made))

use Rattle.std.proofs.Common.{◌≢◌, length, sym, ◌∙◌, subst, arith, List}
use Rattle.std.proofs.lemmas.Bool.Decides.{nat_tests}
use Rattle.options.specs.Slave.{view}
use Rattle.rmx_media.specs.Streams.{AreStreams}
use Rattle.rmx_media.specs.declared.streams.MuxStream.{MuxStream}
use Rattle.tee.specs.Choice.{chosen_streams}
use Rattle.tee.proofs.Choices.{can_be_chosen}
use Rattle.tee.proofs.draft.Draft.new.Goals as goal

pub kit_of-requires-clause-streams : goal.kit_of-requires-clause-streams
kit_of-requires-clause-streams c =
    let s = view c.args.plan.now in
    let are = c.in-Ok.ensures.streams in
    let test = c.is_empty.ensures in
    let not_empty = c.if-is_empty.false in
    let list = c.as_slice.ensures in
    let has : length c.as_slice.result.now ≢ 0 = grind (arith, nat_tests) in
    let some : length (chosen_streams s c.args.infos.now) ≢ 0 = subst (λ (xs : List MuxStream). length xs ≢ 0) (list ∙ are) has in
    record {
      streams = subst (λ (xs : List MuxStream). AreStreams xs) (sym are) (can_be_chosen s c.args.infos.now c.requires.infos some);
      script = rw c.in-Ok.ensures.script c.requires.script;
    }

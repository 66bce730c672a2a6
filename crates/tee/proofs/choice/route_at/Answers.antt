use Rattle.std.proofs.Common.{◌≡◌, sym, subst, arith}
use Rattle.options.specs.Slave.{view}
use Rattle.rmx_media.specs.Streams.{kind_in}
use Rattle.rmx_media.specs.declared.streams.StreamInfo.{StreamInfo}
use Rattle.tee.specs.Choice.{chosen_streams, is_taken}
use Rattle.tee.proofs.Choices.{kind_at, kind_if}
use Rattle.tee.proofs.choice.route_at.Goals as goal

pub returns-in-Some : goal.returns-in-Some
returns-in-Some c =
    let s = view c.args.plan.now in
    let look = c.in-Some.ensures.lookup in
    c.route_of.ensures (chosen_streams s c.args.infos.now)
    (subst (λ (info : StreamInfo). kind_in (chosen_streams s c.args.infos.now) c.args.number ≡ kind_if (is_taken s c.args.number info.kind) info.kind) (sym look.1)
    (kind_at s c.args.infos.now 0 c.args.number c.args.number c.in-Some.info.now (omega arith) look.3.0))

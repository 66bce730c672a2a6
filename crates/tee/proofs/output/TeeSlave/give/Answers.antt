use Rattle.std.proofs.Common.{sym, ◌∙◌, ap}
use Rattle.tee.specs.Route.{written}
use Rattle.tee.proofs.Outputs.{sits_same}
use Rattle.tee.proofs.output.TeeSlave.give.Goals as goal

pub returns-in-Dropped : goal.returns-in-Dropped
returns-in-Dropped g c = λ infos given seat history s f.
    sits_same g.S.Shelf.state infos given seat history c.args.p.now c.args.self.now s
    (sym (ap (written c.args.p.now) c.in-Dropped.is) ∙ f.is_choice)

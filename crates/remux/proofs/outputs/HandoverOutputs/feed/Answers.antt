use Rattle.std.proofs.Common.{[], ◌∷◌, ap, arith, length-append, subst, sym}
use Rattle.tee.specs.Keeps.{Keeps, dead_in}
use Rattle.remux.proofs.outputs.HandoverOutputs.feed.Goals as goal

pub returns-in-Ok-clause-fed : goal.returns-in-Ok-clause-fed
returns-in-Ok-clause-fed g c = λ start. record {
  keeps_all = λ given k. ((c.in-Ok.ensures.fed start.seats given k.0).0, omega (arith, k.1, length-append given (c.args.p.now ∷ [])));
  same = λ given u k le. (c.in-Ok.ensures.fed start.seats given k.0).1 u le;
  told = λ given k. (c.in-Ok.ensures.fed start.seats given k.0).2;
}

pub returns-in-Err-clause-kept : goal.returns-in-Err-clause-kept
returns-in-Err-clause-kept g c = λ start given k. (subst (λ t. Keeps g.S.Shelf.state t start.seats given) (sym c.in-Err.ensures.err) k.0, k.1)

pub returns-in-Err-clause-dead : goal.returns-in-Err-clause-dead
returns-in-Err-clause-dead g c = λ u. ap (λ t. dead_in t u) c.in-Err.ensures.err

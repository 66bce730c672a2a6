use Rattle.std.proofs.Common.{[], ◌∷◌, ◌∙◌, arith, length-append}
use Rattle.remux.proofs.threaded.HandoverRunOutputs.feed.Goals as goal

pub returns-in-Ok-clause-fed : goal.returns-in-Ok-clause-fed
returns-in-Ok-clause-fed g c = λ start. record {
  keeps_all = λ given k. ((c.in-Ok.ensures.fed start.seats given k.0).0, c.in-Ok.ensures.threads ∙ k.1, omega (arith, k.2, length-append given (c.args.p.now ∷ [])));
  same = λ given u k le. (c.in-Ok.ensures.fed start.seats given k.0).1 u le;
  told = λ given k. (c.in-Ok.ensures.fed start.seats given k.0).2;
}

pub returns-in-Err-clause-kept : goal.returns-in-Err-clause-kept
returns-in-Err-clause-kept g c = λ start given k. (c.in-Err.ensures.kept start.seats given k.0, c.in-Err.ensures.threads ∙ k.1, k.2)

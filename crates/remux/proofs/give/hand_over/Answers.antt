use Rattle.std.proofs.Common.{arith, ◌<◌, sym, subst}
use Rattle.remux.specs.Fit.{Each}
use Rattle.remux.proofs.Handing.{handed_by, handed_some, not_pushed, if_ok, on_err}
use Rattle.remux.proofs.Counting.{pushed_few}
use Rattle.remux.proofs.Accepting.{each_put}
use Rattle.remux.proofs.give.hand_over.Goals as goal

pub give_all-requires-clause-ready : goal.give_all-requires-clause-ready
give_all-requires-clause-ready g c =
    let w = c.requires.ready in (w.0, w.1, w.2, pushed_few w.1 c.args.p _ _ c.in-Ok.ensures.ok.pending w.3)

pub give_all-requires-clause-taken : goal.give_all-requires-clause-taken
give_all-requires-clause-taken g c = subst (Each (g.T.Outputs.takes c.args.outputs.now)) (sym c.in-Ok.ensures.ok.pending) (each_put _ _ _ c.requires.taken c.requires.pending)

pub returns-clause-handed : goal.returns-clause-handed
returns-clause-handed g c =
    let few : c.args.p.stream < 2 = omega (arith, c.requires.two, c.requires.stream) in
    if_ok c.give_all.result _ _ c.give_all.ensures.gave
    (λ fed h. λ packets given start f k. handed_by fed c.args.line.now c.push.new.self c.give_all.new.line c.args.p _ _ _ _ packets given few c.requires.stuck c.in-Ok.ensures.ok (h start) f k)

pub returns-clause-some : goal.returns-clause-some
returns-clause-some g c =
    on_err c.give_all.result _ _ c.give_all.ensures.some
    (λ h. λ packets given start f k. handed_some c.args.line.now c.push.new.self c.args.p _ _ _ _ packets given c.requires.stuck c.in-Ok.ensures.ok (h start) f k)

pub returns-in-Err-clause-some : goal.returns-in-Err-clause-some
returns-in-Err-clause-some g c = λ packets given start f k. not_pushed _ _ _ _ packets given c.requires.stuck f k

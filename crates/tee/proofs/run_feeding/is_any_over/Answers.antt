use Rattle.std.proofs.Common.{Bool, subst, drop, arith}
use Rattle.std.proofs.Math.ListN.{drop_of_length-le}
use Rattle.tee.proofs.Attending.{Says, SaysAbort, all_asked, next_aborts, next_dead, next_lives, step_at}
use Rattle.tee.proofs.run_feeding.is_any_over.Goals as goal
use Rattle.tee.proofs.run_feeding.is_any_over.Goals.{then-not-is_dead, else-not-is_dead+else-aborts}

pub returns-then-aborts : goal.returns-then-aborts
returns-then-aborts g c = λ infos given asked seats tracks a.
    let at = c.loop-outlet in
    let o = c.outlet-item.result in
    let st = step_at g.S.Shelf.state infos given asked seats tracks at.all c.args.outlets.now at.outlet-index o (at.invariant infos given asked seats tracks a) (omega arith) c.outlet-item.is in
    next_aborts g.S.Shelf.state infos given asked seats tracks at.all o _ st
    (subst (λ (b : Bool). Says g.S.Shelf.state infos given asked o b) c.if-not-is_dead.false c.is_dead.ensures)
    (subst (λ (b : Bool). SaysAbort g.S.Shelf.state infos given asked o b) c.if-aborts.true c.aborts.ensures)

pub loop-outlet-preserved : goal.loop-outlet-preserved
loop-outlet-preserved g c = λ infos given asked seats tracks a.
    let at = c.loop-outlet in
    let o = c.outlet-item.result in
    let st = step_at g.S.Shelf.state infos given asked seats tracks at.all c.args.outlets.now at.outlet-index o (at.invariant infos given asked seats tracks a) (omega arith) c.outlet-item.is in
    elim c.if-not-is_dead.branch [
      | then-not-is_dead w ↦ rw w.all-is (next_lives g.S.Shelf.state infos given asked seats tracks at.all o _ st (subst (λ (b : Bool). Says g.S.Shelf.state infos given asked o b) w.if-not-is_dead.true c.is_dead.ensures))
      | else-not-is_dead+else-aborts w ↦ rw w.all-is (next_dead g.S.Shelf.state infos given asked seats tracks at.all o _ st
          (subst (λ (b : Bool). Says g.S.Shelf.state infos given asked o b) w.if-not-is_dead.false c.is_dead.ensures)
          (subst (λ (b : Bool). SaysAbort g.S.Shelf.state infos given asked o b) w.if-aborts.false w.aborts.ensures))
    ]

pub returns : goal.returns
returns g c = λ infos given asked seats tracks a.
    let at = c.loop-outlet in
    all_asked g.S.Shelf.state infos given asked seats tracks at.all (drop at.outlet-index c.args.outlets.now) (at.invariant infos given asked seats tracks a) (drop_of_length-le c.args.outlets.now (omega arith))

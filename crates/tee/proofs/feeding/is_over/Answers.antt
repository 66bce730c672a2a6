use Rattle.std.proofs.Common.{Bool, subst, drop, arith}
use Rattle.std.proofs.Math.ListN.{drop_of_length-le}
use Rattle.tee.proofs.Over.{Says, all_asked, next_aborts, next_dead, next_lives, step_at}
use Rattle.tee.proofs.feeding.is_over.Goals as goal
use Rattle.tee.proofs.feeding.is_over.Goals.{then-not-is_dead, else-not-is_dead+else-slave}

pub returns-then-slave : goal.returns-then-slave
returns-then-slave g c = λ infos given seats histories a.
    let at = c.loop-slave in
    let t = c.slave-item.result in
    let st = step_at g.S.Shelf.state infos given seats histories at.all c.args.slaves.now at.slave-index t (at.invariant infos given seats histories a) (omega arith) c.slave-item.is in
    next_aborts g.S.Shelf.state infos given seats histories at.all t _ st (subst (λ (b : Bool). Says g.S.Shelf.state infos given t b) c.if-not-is_dead.false c.is_dead.ensures) c.if-slave.true

pub loop-slave-preserved : goal.loop-slave-preserved
loop-slave-preserved g c = λ infos given seats histories a.
    let at = c.loop-slave in
    let t = c.slave-item.result in
    let st = step_at g.S.Shelf.state infos given seats histories at.all c.args.slaves.now at.slave-index t (at.invariant infos given seats histories a) (omega arith) c.slave-item.is in
    elim c.if-not-is_dead.branch [
      | then-not-is_dead w ↦ rw w.all-is (next_lives g.S.Shelf.state infos given seats histories at.all t _ st (subst (λ (b : Bool). Says g.S.Shelf.state infos given t b) w.if-not-is_dead.true c.is_dead.ensures))
      | else-not-is_dead+else-slave w ↦ rw w.all-is (next_dead g.S.Shelf.state infos given seats histories at.all t _ st (subst (λ (b : Bool). Says g.S.Shelf.state infos given t b) w.if-not-is_dead.false c.is_dead.ensures) w.if-slave.false)
    ]

pub returns : goal.returns
returns g c = λ infos given seats histories a.
    let at = c.loop-slave in
    all_asked g.S.Shelf.state infos given seats histories at.all (drop at.slave-index c.args.slaves.now) (at.invariant infos given seats histories a) (drop_of_length-le c.args.slaves.now (omega arith))

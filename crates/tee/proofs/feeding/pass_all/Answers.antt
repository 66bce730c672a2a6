use Rattle.std.proofs.Common.{[], ◌∷◌, ◌++◌, arith}
use Rattle.tee.specs.Sits.{Passes, SitsOn}
use Rattle.tee.proofs.Places.{all_done, next_at, set_next}
use Rattle.tee.proofs.feeding.pass_all.Goals as goal

pub pass-requires : goal.pass-requires
pass-requires g c =
    let r = c.requires.ready in
    let l = c.loop-slave in
    let p = c.args.p.now in
    let n = next_at (Passes g.S.Shelf.state r.0 r.1 p) (SitsOn g.S.Shelf.state r.0 (r.1 ++ p ∷ [])) r.2 r.3 l.slaves l.slave-index c.slave-item.result (l.invariant r.0 r.1 r.2 r.3 r.4) (omega arith) in
    record { number = c.requires.number; ready = (r.0, r.1, n.0, n.1, n.2, r.5) }

pub loop-slave-preserved : goal.loop-slave-preserved
loop-slave-preserved g c = λ infos given seats histories a.
    let l = c.loop-slave in
    let p = c.args.p.now in
    set_next (Passes g.S.Shelf.state infos given p) (SitsOn g.S.Shelf.state infos (given ++ p ∷ [])) seats histories l.slaves l.slave-index c.slave-item.result c.pass.new.self
    (l.invariant infos given seats histories a) (omega arith) (λ s h passes. c.pass.ensures infos given s h passes)

pub returns : goal.returns
returns g c = λ infos given seats histories a.
    let l = c.loop-slave in
    let p = c.args.p.now in
    all_done (Passes g.S.Shelf.state infos given p) (SitsOn g.S.Shelf.state infos (given ++ p ∷ [])) seats histories l.slaves l.slave-index (l.invariant infos given seats histories a) (omega arith)

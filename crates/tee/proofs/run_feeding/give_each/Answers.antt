use Rattle.std.proofs.Common.{arith, ◌+◌, ◌++◌, ◌∷◌, []}
use Rattle.tee.specs.Attends.{AttendsOn, IsReady}
use Rattle.tee.proofs.Places.{all_done, next_at, set_next}
use Rattle.tee.proofs.run_feeding.give_each.Goals as goal

pub give-requires : goal.give-requires
give-requires g c =
    let r = c.requires.ready in
    let l = c.loop-number in
    let p = c.args.p.now in
    let n = next_at (IsReady g.S.Shelf.state r.0 r.1 r.2 p) (AttendsOn g.S.Shelf.state r.0 (r.1 ++ p ∷ []) r.2 (r.2 + 1)) r.3 r.4 l.outlets l.number c.index-outlets-number.result
    (l.invariant r.0 r.1 r.2 r.3 r.4 r.5) (omega arith) in
    record { ready = (r.0, r.1, r.2, n.0, n.1, n.2, r.6) }

pub loop-number-preserved : goal.loop-number-preserved
loop-number-preserved g c = λ infos given asked seats tracks a.
    let l = c.loop-number in
    let p = c.args.p.now in
    set_next (IsReady g.S.Shelf.state infos given asked p) (AttendsOn g.S.Shelf.state infos (given ++ p ∷ []) asked (asked + 1)) seats tracks l.outlets l.number c.index-outlets-number.result c.give.new.self
    (l.invariant infos given asked seats tracks a) (omega arith) (λ s t ready. c.give.ensures infos given asked s t ready)

pub returns : goal.returns
returns g c = λ infos given asked seats tracks a.
    let l = c.loop-number in
    let p = c.args.p.now in
    all_done (IsReady g.S.Shelf.state infos given asked p) (AttendsOn g.S.Shelf.state infos (given ++ p ∷ []) asked (asked + 1)) seats tracks l.outlets l.number
    (l.invariant infos given asked seats tracks a) (omega arith)

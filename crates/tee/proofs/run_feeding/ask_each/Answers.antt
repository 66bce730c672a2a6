use Rattle.std.proofs.Common.{arith, ◌+◌, false}
use Rattle.tee.specs.Attends.{Attends, AttendsOn}
use Rattle.tee.proofs.Places.{all_done, next_at, set_next}
use Rattle.tee.proofs.run_feeding.ask_each.Goals as goal

pub ask-requires : goal.ask-requires
ask-requires g c =
    let r = c.requires.ready in
    let l = c.loop-outlet in
    let n = next_at (Attends g.S.Shelf.state r.0 r.1 r.2 false) (AttendsOn g.S.Shelf.state r.0 r.1 (r.2 + 1) (r.2 + 1)) r.3 r.4 l.outlets l.outlet-index c.outlet-item.result
    (l.invariant r.0 r.1 r.2 r.3 r.4 r.5) (omega arith) in
    record { ready = (r.0, r.1, r.2, n.0, n.1, n.2, r.6) }

pub loop-outlet-preserved : goal.loop-outlet-preserved
loop-outlet-preserved g c = λ infos given asked seats tracks a.
    let l = c.loop-outlet in
    set_next (Attends g.S.Shelf.state infos given asked false) (AttendsOn g.S.Shelf.state infos given (asked + 1) (asked + 1)) seats tracks l.outlets l.outlet-index c.outlet-item.result c.ask.new.self
    (l.invariant infos given asked seats tracks a) (omega arith) (λ s t at. c.ask.ensures infos given asked s t at)

pub returns : goal.returns
returns g c = λ infos given asked seats tracks a.
    let l = c.loop-outlet in
    all_done (Attends g.S.Shelf.state infos given asked false) (AttendsOn g.S.Shelf.state infos given (asked + 1) (asked + 1)) seats tracks l.outlets l.outlet-index
    (l.invariant infos given asked seats tracks a) (omega arith)

use Rattle.std.proofs.Common.{arith, false}
use Rattle.tee.specs.Attends.{Attends, IsReady}
use Rattle.tee.proofs.Places.{all_done, each_set, set_next}
use Rattle.tee.proofs.run_feeding.prepare_each.Goals as goal

pub returns-in-Err-clause-same : goal.returns-in-Err-clause-same
returns-in-Err-clause-same g c = λ infos given asked seats tracks a.
    let l = c.loop-outlet in
    each_set (Attends g.S.Shelf.state infos given asked false) seats tracks l.outlets l.outlet-index c.outlet-item.result c.prepare.new.self
    (l.invariant.same infos given asked seats tracks a) (omega arith) (λ s t at. c.prepare.ensures.same infos given asked s t at)

pub loop-outlet-preserved : goal.loop-outlet-preserved
loop-outlet-preserved g c =
    let l = c.loop-outlet in
    record {
      same = λ infos given asked seats tracks a.
          each_set (Attends g.S.Shelf.state infos given asked false) seats tracks l.outlets l.outlet-index c.outlet-item.result c.prepare.new.self
          (l.invariant.same infos given asked seats tracks a) (omega arith) (λ s t at. c.prepare.ensures.same infos given asked s t at);
      between = λ infos given asked seats tracks are i a.
          set_next (Attends g.S.Shelf.state infos given asked false) (IsReady g.S.Shelf.state infos given asked c.args.p.now) seats tracks l.outlets l.outlet-index c.outlet-item.result c.prepare.new.self
          (l.invariant.between infos given asked seats tracks are i a) (omega arith) (λ s t at. c.in-Ok.ensures.ready infos given asked s t are i at);
    }

pub returns-clause-ready : goal.returns-clause-ready
returns-clause-ready g c = λ infos given asked seats tracks are i a.
    let l = c.loop-outlet in
    all_done (Attends g.S.Shelf.state infos given asked false) (IsReady g.S.Shelf.state infos given asked c.args.p.now) seats tracks l.outlets l.outlet-index
    (l.invariant.between infos given asked seats tracks are i a) (omega arith)

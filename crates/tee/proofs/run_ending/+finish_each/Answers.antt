use Rattle.std.proofs.Common.{◌≡◌, ◌-◌, ◌++◌, ◌∷◌, ◌∙◌, [], ℕ, Bool, List, length, length-append, take, true, false, sym, ap, subst, arith}
use Rattle.slave.specs.declared.job.SlaveEnd.{SlaveEnd}
use Rattle.tee.specs.Attends.{Attends}
use Rattle.tee.specs.Each.{Each3}
use Rattle.tee.specs.RunEnds.{AllEndWith}
use Rattle.tee.specs.declared.outlet.Outlet.{Outlet}
use Rattle.tee.proofs.Closing.{all_last, all_none, want_more}
use Rattle.tee.proofs.Places.{each_unsnoc}
use Rattle.tee.proofs.run_ending.+finish_each.Goals as goal

pub returns-in_default-clause-ends : goal.returns-in_default-clause-ends
returns-in_default-clause-ends g t c = λ infos given seats tracks a.
    let e = c.in_default.ensures in
    let none : c.pop.new.self.items ≡ [] = e.rest ∙ ap (λ (n : ℕ). take (n - 1) c.args.outlets.items) e.cases.0 in
    let empty : c.args.outlets.items ≡ [] = e.items ∙ ap (λ (os : List (Outlet g.row.S.Denot g.row.G.Denot g.S.Shelf)). os ++ []) none in
    subst (λ (es : List (SlaveEnd g.row.S.Denot)). AllEndWith g.S.Shelf.state given seats tracks es false) (sym c.requires.none)
    (all_none g.S.Shelf.state given (Attends g.S.Shelf.state infos given (length given) true) seats tracks
    (subst (λ (os : List (Outlet g.row.S.Denot g.row.G.Denot g.S.Shelf)). Each3 (Attends g.S.Shelf.state infos given (length given) true) seats tracks os) empty a))

pub finish_each-before-requires : goal.finish_each-before-requires
finish_each-before-requires g t c κs within =
    let r = c.requires.attend in
    let split = c.in-Some.ensures.items in
    let n = each_unsnoc (Attends g.S.Shelf.state r.0 r.1 (length r.1) true) r.2 r.3 c.pop.new.self.items c.in-Some.outlet
    (subst (λ (os : List (Outlet g.row.S.Denot g.row.G.Denot g.S.Shelf)). Each3 (Attends g.S.Shelf.state r.0 r.1 (length r.1) true) r.2 r.3 os) split r.4) in
    let fewer = length-append c.pop.new.self.items (c.in-Some.outlet ∷ []) in (
      omega (arith, ap length split, c.decreases, fewer),
      (
        within.0,
        (
          within.1.0,
          (
            within.1.1,
            (
              (r.0, r.1, n.firsts, n.seconds, n.front),
              (c.requires.none, omega (arith, ap length split, c.requires.room, fewer)),
            ),
          ),
        ),
      ),
    )

pub finish_each-before-requires-else-has_thread : goal.finish_each-before-requires-else-has_thread
finish_each-before-requires-else-has_thread g t c κs within =
    let r = c.requires.attend in
    let split = c.in-Some.ensures.items in
    let n = each_unsnoc (Attends g.S.Shelf.state r.0 r.1 (length r.1) true) r.2 r.3 c.pop.new.self.items c.in-Some.outlet
    (subst (λ (os : List (Outlet g.row.S.Denot g.row.G.Denot g.S.Shelf)). Each3 (Attends g.S.Shelf.state r.0 r.1 (length r.1) true) r.2 r.3 os) split r.4) in
    let fewer = length-append c.pop.new.self.items (c.in-Some.outlet ∷ []) in (
      omega (arith, ap length split, c.decreases, fewer),
      (
        within.0,
        (
          within.1.0,
          (
            within.1.1,
            (
              (r.0, r.1, n.firsts, n.seconds, n.front),
              (c.requires.none, omega (arith, ap length split, c.requires.room, fewer)),
            ),
          ),
        ),
      ),
    )

pub finish-end-requires : goal.finish-end-requires
finish-end-requires g t c =
    let r = c.requires.attend in
    let n = each_unsnoc (Attends g.S.Shelf.state r.0 r.1 (length r.1) true) r.2 r.3 c.pop.new.self.items c.in-Some.outlet
    (subst (λ (os : List (Outlet g.row.S.Denot g.row.G.Denot g.S.Shelf)). Each3 (Attends g.S.Shelf.state r.0 r.1 (length r.1) true) r.2 r.3 os) c.in-Some.ensures.items r.4) in
    record { ready = (r.0, r.1, n.a, n.b, n.last) }

pub finish-end-requires-else-has_thread : goal.finish-end-requires-else-has_thread
finish-end-requires-else-has_thread g t c =
    let r = c.requires.attend in
    let n = each_unsnoc (Attends g.S.Shelf.state r.0 r.1 (length r.1) true) r.2 r.3 c.pop.new.self.items c.in-Some.outlet
    (subst (λ (os : List (Outlet g.row.S.Denot g.row.G.Denot g.S.Shelf)). Each3 (Attends g.S.Shelf.state r.0 r.1 (length r.1) true) r.2 r.3 os) c.in-Some.ensures.items r.4) in
    record { ready = (r.0, r.1, n.a, n.b, n.last) }

pub returns-then-has_thread-clause-ends : goal.returns-then-has_thread-clause-ends
returns-then-has_thread-clause-ends g t c = λ infos given seats tracks a.
    subst (λ (es : List (SlaveEnd g.row.S.Denot)). AllEndWith g.S.Shelf.state given seats tracks es c.with_end.result.1) (sym c.with_end.ensures.items)
    (subst (λ (b : Bool). AllEndWith g.S.Shelf.state given seats tracks (c.finish_each-before.result.0.items ++ c.finish-end.result.0 ∷ []) b) (sym c.with_end.ensures.short)
    (all_last g.S.Shelf.state given (Attends g.S.Shelf.state infos given (length given) true) seats tracks c.pop.new.self.items c.in-Some.outlet c.finish_each-before.result.0.items c.finish-end.result.0
    c.finish_each-before.result.1 c.finish-end.result.1
    (λ ss ts e. c.finish_each-before.ensures.ends infos given ss ts e) (λ s k at. c.finish-end.ensures.ends infos given s k at)
    (subst (λ (os : List (Outlet g.row.S.Denot g.row.G.Denot g.S.Shelf)). Each3 (Attends g.S.Shelf.state infos given (length given) true) seats tracks os) c.in-Some.ensures.items a)))

pub returns-else-has_thread-clause-ends : goal.returns-else-has_thread-clause-ends
returns-else-has_thread-clause-ends g t c = λ infos given seats tracks a.
    subst (λ (es : List (SlaveEnd g.row.S.Denot)). AllEndWith g.S.Shelf.state given seats tracks es c.with_end-else-has_thread.result.1) (sym c.with_end-else-has_thread.ensures.items)
    (subst (λ (b : Bool). AllEndWith g.S.Shelf.state given seats tracks (c.finish_each-before-else-has_thread.result.0.items ++ c.finish-end-else-has_thread.result.0 ∷ []) b) (sym c.with_end-else-has_thread.ensures.short)
    (all_last g.S.Shelf.state given (Attends g.S.Shelf.state infos given (length given) true) seats tracks c.pop.new.self.items c.in-Some.outlet c.finish_each-before-else-has_thread.result.0.items c.finish-end-else-has_thread.result.0
    c.finish_each-before-else-has_thread.result.1 c.finish-end-else-has_thread.result.1
    (λ ss ts e. c.finish_each-before-else-has_thread.ensures.ends infos given ss ts e) (λ s k at. c.finish-end-else-has_thread.ensures.ends infos given s k at)
    (subst (λ (os : List (Outlet g.row.S.Denot g.row.G.Denot g.S.Shelf)). Each3 (Attends g.S.Shelf.state infos given (length given) true) seats tracks os) c.in-Some.ensures.items a)))

pub returns-then-has_thread-clause-short : goal.returns-then-has_thread-clause-short
returns-then-has_thread-clause-short g t c =
    want_more c.finish_each-before.result.0.items c.with_end.result.0.items c.finish-end.result.0 c.finish_each-before.result.1 c.finish-end.result.1 c.with_end.result.1
    c.with_end.ensures.items c.with_end.ensures.short c.finish_each-before.ensures.short c.finish-end.ensures.short

pub returns-else-has_thread-clause-short : goal.returns-else-has_thread-clause-short
returns-else-has_thread-clause-short g t c =
    want_more c.finish_each-before-else-has_thread.result.0.items c.with_end-else-has_thread.result.0.items c.finish-end-else-has_thread.result.0 c.finish_each-before-else-has_thread.result.1 c.finish-end-else-has_thread.result.1 c.with_end-else-has_thread.result.1
    c.with_end-else-has_thread.ensures.items c.with_end-else-has_thread.ensures.short c.finish_each-before-else-has_thread.ensures.short c.finish-end-else-has_thread.ensures.short

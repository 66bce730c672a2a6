use Rattle.std.proofs.Common.{◌≡◌, ℕ, sym, subst, arith}
use Rattle.tee.specs.Route.{IsRoute, written}
use Rattle.tee.proofs.Routes.{filtered_at, if_ok}
use Rattle.tee.proofs.choice.Choice.filter.Goals as goal

pub returns-then-p-eq0 : goal.returns-then-p-eq0
returns-then-p-eq0 c = λ infos seat are at i.
    let streams = seat.origin.streams.streams.items in
    let p = c.args.p.now in
    if_ok c.filter.result _ _ (λ filtered left. filtered_at infos seat c.args.self.now p (written p filtered) at i left)
    (c.filter.ensures streams seat.slave.chains i.streams (subst (λ (n : ℕ). IsRoute streams seat.slave.chains n c.args.self.now.first) (sym c.if-p-eq0.true) at.first) i.fits)

pub returns-else-p-eq0 : goal.returns-else-p-eq0
returns-else-p-eq0 c = λ infos seat are at i.
    let streams = seat.origin.streams.streams.items in
    let p = c.args.p.now in
    let one : 1 ≡ p.stream = omega arith in
    if_ok c.filter-else-p-eq0.result _ _ (λ filtered left. filtered_at infos seat c.args.self.now p (written p filtered) at i left)
    (c.filter-else-p-eq0.ensures streams seat.slave.chains i.streams (subst (λ (n : ℕ). IsRoute streams seat.slave.chains n c.args.self.now.second) one at.second) i.fits)

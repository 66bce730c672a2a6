use Rattle.std.proofs.Common.{rules, arith, sym, ap, ap₂, ◌∙◌, ℕ, ◌%◌, ◌∷◌, Some}
use Rattle.atomic_table.specs.Table.{rest}
use Rattle.lane.specs.Ring.{closing}
use Rattle.lane.proofs.Known.{loads_closed, told_taker, loads_tail, told_tail, put_into, adds_head}
use Rattle.lane.proofs.lane.Lane.take.Goals as goal

pub load-closed-requires : goal.load-closed-requires
load-closed-requires c = (search rules, search rules, loads_closed _ _ _ _ _ _ _ _ c.taker.invariant.seated)

pub load-tail-requires : goal.load-tail-requires
load-tail-requires c = (search rules, search rules, loads_tail _ _ _ _ _ _ _ _ _ _ _ _ _ _ (told_taker closing c.self.inside.table.shared.table_id.slots 3 _ _ _ _ _ c.taker.invariant.seated c.load-closed.ensures.2))

pub exchange-requires : goal.exchange-requires
exchange-requires c = let told = told_tail _ _ _ _ _ _ (told_taker closing c.self.inside.table.shared.table_id.slots 3 _ _ _ _ _ c.taker.invariant.seated c.load-closed.ensures.2) c.load-tail.ensures.2 in let count = c.taker.invariant.count_is in let slots = c.self.invariant.1 in
    let few = told.0 in let waits = c.if-tail-taker.false in let took = told.1 (omega arith) in let has = ap (λ m. m.1) took.2 in let slot = ap₂ (λ (a b : ℕ). a % b) count (sym slots) in
    (search rules, (Some took.0, has ∙ (λ i. (sym slot i, Some took.0) ∷ sym (ap rest has) i)))

pub fetch_add-taker-inside-requires : goal.fetch_add-taker-inside-requires
fetch_add-taker-inside-requires c = let told = told_tail _ _ _ _ _ _ (told_taker closing c.self.inside.table.shared.table_id.slots 3 _ _ _ _ _ c.taker.invariant.seated c.load-closed.ensures.2) c.load-tail.ensures.2 in let count = c.taker.invariant.count_is in
    let slots = c.self.invariant.1 in let few = told.0 in let waits = c.if-tail-taker.false in let took = told.1 (omega arith) in
    let now = put_into _ _ _ _ _ _ _ took.2 c.exchange.ensures.3 (ap₂ (λ (a b : ℕ). a % b) count (sym slots)) in (search rules, search rules, adds_head _ _ _ _ _ _ _ _ _ took.0 _ _ _ _ _ now)

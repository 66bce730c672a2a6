use Rattle.std.proofs.Common.{rules, arith, refl, sym, subst, ap, ap₂, ◌∙◌, ◌≡◌, ◌+◌, ◌-◌, ◌≤◌, ◌<◌, ℕ, ◌%◌, ◌∷◌, ◌++◌, ◌≢◌, length, drop, false, None, length-append, []}
use Rattle.std.specs.VecDeque.{deque_capacity}
use Rattle.atomic_table.specs.Table.{rest}
use Rattle.rmx_media.specs.Fits.{Fits}
use Rattle.lane_core.proofs.Full.{room_tells}
use Rattle.lane.specs.declared.msg.Msg.{Msg}
use Rattle.lane.specs.Ends.{giver_in}
use Rattle.lane.specs.Follows.{measure, size_of, next_index}
use Rattle.lane.specs.Ring.{waiting}
use Rattle.lane.specs.Tied.{Sized}
use Rattle.lane.proofs.Moves.{full_waits}
use Rattle.lane.proofs.Known.{ready_at, loads_head, told_head, put_into, adds_tail, told_given}
use Rattle.lane.proofs.Ties.{all_more, tie, decided, waiting_bytes, sized_seen, sized_given, offers_seen, offers_given}
use Rattle.lane.proofs.lane.Lane.give.Goals as goal

pub put_head-head-requires-clause-seat : goal.put_head-head-requires-clause-seat
put_head-head-requires-clause-seat c = (
  search rules,
  search rules,
  loads_head _ _ _ waiting (size_of c.args.msg) _ _ _ _ _ _ _ _ _ _ (full_waits _ _ _ _ _ _ _ _ _ _ _ _) (ready_at _ _ (giver_in c.giver.inside.about.value c.giver.inside.seat.me.0.sight) c.giver.invariant.seated (ap (λ e. e.closed) c.giver.view_is ∙ c.requires.open)),
)

pub invariant_of-giver : goal.invariant_of-giver
invariant_of-giver c = let h = c.giver.invariant in let s = c.giver.inside in let k = s.about.value in let g = giver_in k s.seat.me.0.sight in let open' : g.closed ≡ false = ap (λ e. e.closed) c.giver.view_is ∙ c.requires.open in
    let told = told_head measure waiting (size_of c.args.msg) _ _ _ _ _ (ready_at _ _ g h.seated open') c.put_head-head.ensures.2 in let head = c.put_head-head.result in
    let here : s.seat.table_id ≡ c.self.inside.table.shared.table_id = ap (λ e. e.ring) c.giver.view_is ∙ (c.requires.ring ∙ sym (ap (λ l. l.ring) c.self.view_is)) in
    let near : length g.flow.given ≤ head + s.seat.table_id.slots = subst (λ z. length g.flow.given ≤ head + z.slots) (sym here) told.2 in
    let sized = sized_seen _ _ _ _ _ h.sized head _ _ told.0 told.1 near (c.forget.ensures.items ∙ ap (λ z. drop (head - z) s.sizes.held.items) h.head_is) c.forget.ensures.capacity in
    let bytes = waiting_bytes _ _ _ _ _ _ sized c.forget.new.self.summed in
    let tells = decided k g.flow.given head c.self.inside.table.shared.table_id.slots c.self.inside.cap s.limit s.count _ c.args.msg c.is_full.result c.is_full.ensures h.count_is c.self.invariant.1 h.limit_is (ap₂ (λ a b. a + b) bytes (c.from.ensures ∙ c.len-size.ensures.value)) in
    let full = sym tells ∙ c.if-is_full.true in
    tie _ _ (told.4 full) refl h.count_is refl h.refused_is (h.closed_is ∙ open') h.asked_is h.told_is h.limit_is h.drops_is (subst (λ z. Sized z.slots (deque_capacity c.forget.new.self.held) c.forget.new.self.held.items g.flow.given head) (sym c.put_head-head.ensures.0) sized) (offers_seen k _ _ _ _ h.offers head told.0)

pub exchange-requires : goal.exchange-requires
exchange-requires c = let h = c.giver.invariant in let s = c.giver.inside in let k = s.about.value in let g = giver_in k s.seat.me.0.sight in let open' : g.closed ≡ false = ap (λ e. e.closed) c.giver.view_is ∙ c.requires.open in
    let told = told_head measure waiting (size_of c.args.msg) _ _ _ _ _ (ready_at _ _ g h.seated open') c.put_head-head.ensures.2 in let head = c.put_head-head.result in
    let here : s.seat.table_id ≡ c.self.inside.table.shared.table_id = ap (λ e. e.ring) c.giver.view_is ∙ (c.requires.ring ∙ sym (ap (λ l. l.ring) c.self.view_is)) in
    let near : length g.flow.given ≤ head + s.seat.table_id.slots = subst (λ z. length g.flow.given ≤ head + z.slots) (sym here) told.2 in
    let sized = sized_seen _ _ _ _ _ h.sized head _ _ told.0 told.1 near (c.forget.ensures.items ∙ ap (λ z. drop (head - z) s.sizes.held.items) h.head_is) c.forget.ensures.capacity in
    let bytes = waiting_bytes _ _ _ _ _ _ sized c.forget.new.self.summed in
    let tells = decided k g.flow.given head c.self.inside.table.shared.table_id.slots c.self.inside.cap s.limit s.count _ c.args.msg c.is_full.result c.is_full.ensures h.count_is c.self.invariant.1 h.limit_is (ap₂ (λ a b. a + b) bytes (c.from.ensures ∙ c.len-size.ensures.value)) in
    let free = sym tells ∙ c.if-is_full.false in let slot : s.count % c.self.inside.cap ≡ length g.flow.given % c.self.inside.table.shared.table_id.slots = ap₂ (λ (a b : ℕ). a % b) h.count_is (sym c.self.invariant.1) in
    let has = ap (λ m. m.1) (told.3 free) in
    (search rules, (None, has ∙ (λ i. (sym slot i, None) ∷ sym (ap rest has) i)))

pub fetch_add-giver-inside-requires : goal.fetch_add-giver-inside-requires
fetch_add-giver-inside-requires c = let h = c.giver.invariant in let s = c.giver.inside in let k = s.about.value in let g = giver_in k s.seat.me.0.sight in let open' : g.closed ≡ false = ap (λ e. e.closed) c.giver.view_is ∙ c.requires.open in
    let told = told_head measure waiting (size_of c.args.msg) _ _ _ _ _ (ready_at _ _ g h.seated open') c.put_head-head.ensures.2 in let head = c.put_head-head.result in
    let here : s.seat.table_id ≡ c.self.inside.table.shared.table_id = ap (λ e. e.ring) c.giver.view_is ∙ (c.requires.ring ∙ sym (ap (λ l. l.ring) c.self.view_is)) in
    let near : length g.flow.given ≤ head + s.seat.table_id.slots = subst (λ z. length g.flow.given ≤ head + z.slots) (sym here) told.2 in
    let sized = sized_seen _ _ _ _ _ h.sized head _ _ told.0 told.1 near (c.forget.ensures.items ∙ ap (λ z. drop (head - z) s.sizes.held.items) h.head_is) c.forget.ensures.capacity in
    let bytes = waiting_bytes _ _ _ _ _ _ sized c.forget.new.self.summed in
    let tells = decided k g.flow.given head c.self.inside.table.shared.table_id.slots c.self.inside.cap s.limit s.count _ c.args.msg c.is_full.result c.is_full.ensures h.count_is c.self.invariant.1 h.limit_is (ap₂ (λ a b. a + b) bytes (c.from.ensures ∙ c.len-size.ensures.value)) in
    let free = sym tells ∙ c.if-is_full.false in let slot : s.count % c.self.inside.cap ≡ length g.flow.given % c.self.inside.table.shared.table_id.slots = ap₂ (λ (a b : ℕ). a % b) h.count_is (sym c.self.invariant.1) in
    let now = put_into _ _ _ _ _ _ _ (told.3 free) c.exchange.ensures.3 slot in let same = ap (λ e. length e.given) c.giver.view_is in let few = c.requires.few in
    let above : next_index g.past ≤ c.args.msg.index = subst (λ e. next_index e.past ≤ c.args.msg.index) (sym c.giver.view_is) c.requires.above in
    let below = all_more (λ (y : Msg). y.index < next_index g.past) (λ (y : Msg). y.index < c.args.msg.index) g.flow.given (λ y l. omega arith) h.offers.below in
    (search rules, search rules, adds_tail _ _ _ _ _ _ _ _ _ _ _ _ _ _ c.args.msg now refl (omega arith) (below, subst (λ e. Fits e.about.format e.about.streams.value c.args.msg.packet) (sym c.giver.view_is) c.requires.fits, c.requires.low))

pub invariant_of-giver-2 : goal.invariant_of-giver-2
invariant_of-giver-2 c = let h = c.giver.invariant in let s = c.giver.inside in let k = s.about.value in let g = giver_in k s.seat.me.0.sight in let open' : g.closed ≡ false = ap (λ e. e.closed) c.giver.view_is ∙ c.requires.open in
    let told = told_head measure waiting (size_of c.args.msg) _ _ _ _ _ (ready_at _ _ g h.seated open') c.put_head-head.ensures.2 in let head = c.put_head-head.result in
    let here : s.seat.table_id ≡ c.self.inside.table.shared.table_id = ap (λ e. e.ring) c.giver.view_is ∙ (c.requires.ring ∙ sym (ap (λ l. l.ring) c.self.view_is)) in
    let near : length g.flow.given ≤ head + s.seat.table_id.slots = subst (λ z. length g.flow.given ≤ head + z.slots) (sym here) told.2 in
    let sized = sized_seen _ _ _ _ _ h.sized head _ _ told.0 told.1 near (c.forget.ensures.items ∙ ap (λ z. drop (head - z) s.sizes.held.items) h.head_is) c.forget.ensures.capacity in
    let bytes = waiting_bytes _ _ _ _ _ _ sized c.forget.new.self.summed in
    let tells = decided k g.flow.given head c.self.inside.table.shared.table_id.slots c.self.inside.cap s.limit s.count _ c.args.msg c.is_full.result c.is_full.ensures h.count_is c.self.invariant.1 h.limit_is (ap₂ (λ a b. a + b) bytes (c.from.ensures ∙ c.len-size.ensures.value)) in
    let free = sym tells ∙ c.if-is_full.false in let slot : s.count % c.self.inside.cap ≡ length g.flow.given % c.self.inside.table.shared.table_id.slots = ap₂ (λ (a b : ℕ). a % b) h.count_is (sym c.self.invariant.1) in
    let now = put_into _ _ _ _ _ _ _ (told.3 free) c.exchange.ensures.3 slot in let did = told_given c.self.inside.table.shared.table_id.slots _ _ c.fetch_add-giver-inside.result _ c.args.msg _ now c.fetch_add-giver-inside.ensures.2 in
    let above : next_index g.past ≤ c.args.msg.index = subst (λ e. next_index e.past ≤ c.args.msg.index) (sym c.giver.view_is) c.requires.above in
    let ne = (room_tells c.self.inside.table.shared.table_id.slots k.limit (length g.flow.given) head _ free).0 in let ne' = subst (λ z. length g.flow.given ≢ head + z.slots) (sym here) ne in
    let more = sized_given _ _ _ _ _ sized c.args.msg c.len-size.result _ _ c.len-size.ensures.value ne' c.push.ensures.items c.push.ensures.capacity in
    let there = c.fetch_add-giver-inside.ensures.0 ∙ (c.exchange.ensures.0 ∙ c.put_head-head.ensures.0) in
    tie _ _ did refl (ap (λ n. n + 1) h.count_is ∙ sym (length-append g.flow.given (c.args.msg ∷ []))) refl h.refused_is (h.closed_is ∙ open') h.asked_is h.told_is h.limit_is h.drops_is
    (subst (λ z. Sized z.slots (deque_capacity c.push.new.self.held) c.push.new.self.held.items (g.flow.given ++ c.args.msg ∷ []) head) (sym there) more) (offers_given k _ _ _ _ h.offers head told.0 c.args.msg above)

use Rattle.std.proofs.Common.{◌+◌, ℕ, List, [], ◌∷◌, ◌++◌, refl, ◌∙◌, ap}
use Rattle.fifo_core.specs.History.{History}
use Rattle.tee.specs.Fed.{is_stop}
use Rattle.tee.proofs.Watching.{fed_on, went_on}
use Rattle.tee.proofs.tee.Tee.feed.Goals as goal

pub hand-requires-clause-ready : goal.hand-requires-clause-ready
hand-requires-clause-ready g c = let r = c.requires.ready in (r.1, r.0, r.2.stands.histories, r.2.stands.sit, r.3)

pub count-requires-clause-sit : goal.count-requires-clause-sit
count-requires-clause-sit g c =
    let r = c.requires.ready in
    let st = r.2.stands in
    let old = c.args.self.now in
    let on = c.in_ok-hand.ensures.sit r.1 r.0 st.histories st.sit in
    let w = went_on g.S.Shelf.state old.infos.items c.hand.new.self.slaves.items old.given old.stopped r.0 r.1 c.args.p.now st.histories st.watches on in
    (old.infos.items, r.1 ++ c.args.p.now ∷ [], r.0, w.histories, w.sit)

pub returns-clause-fed : goal.returns-clause-fed
returns-clause-fed g c = λ seats given k.
    let st = k.stands in
    let p = c.args.p.now in
    let infos = c.args.self.now.infos.items in
    let same = c.hand.ensures.same in
    let on = c.in_ok-hand.ensures.sit given seats st.histories st.sit in
    fed_on g.S.Shelf.state c.args.self.now c.count.new.self seats given p (is_stop c.count.result) k
    (c.count.ensures.infos ∙ same.infos)
    (rw c.count.ensures.slaves on)
    (rw c.count.ensures.slaves same.len)
    (c.count.ensures.given ∙ ap (λ (n : ℕ). n + 1) same.given)
    (λ (hs : List History) now.
    c.count.ensures.stopped infos (given ++ p ∷ []) seats hs (rw (← c.count.ensures.slaves) now)
    ∙ rw (same.stopped, same.given) refl)
    (c.count.ensures.ends ∙ same.ends)
    c.count.ensures.fed

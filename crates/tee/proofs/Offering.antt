-- Packets offered to a lane one after another.
use Rattle.std.proofs.Common.{◌≡◌, ℕ, ◌+◌, true, List, [], ◌∷◌, ◌++◌, length, refl, sym, ap, ◌∙◌, subst, arith, length-append}
use Rattle.std.proofs.lemmas.List.{length-map}
use Rattle.lane_core.specs.Machine.{is_full}
use Rattle.lane.specs.declared.msg.Msg.{Msg}
use Rattle.lane.specs.Follows.{size_of, next_index}
use Rattle.lane.specs.Sides.{ReceiptSide}
use Rattle.lane.specs.Sight.{Refusal}
use Rattle.lane.specs.Told.{GiverNow, IsGiven, IsRefused, refusal_at}
use Rattle.rmx_media.specs.declared.packet.Packet.{Packet}
use Rattle.slave.specs.Handed.{Handed, message, receipt_of}
use Rattle.slave.proofs.Dealing.{hands_over}
use Rattle.tee.specs.Offers.{Offered}

pub none_offered : (cap limit : ℕ) (g : GiverNow) → g.given ≡ [] → g.refusals ≡ [] → g.past ≡ [] → Offered cap limit [] g []
none_offered cap limit g given refusals past = record {
  handed = rw (given, refusals) (hands_over.nothing cap limit);
  counted = rw (given, refusals) refl;
  next = rw past refl;
}

-- as many receipts as refusals
pub as_many : (cap limit : ℕ) (L : List Packet) (given : List Msg) (qs : List (Refusal Msg)) (rs : List ReceiptSide) → Handed cap limit L given qs rs → length rs ≡ length qs
as_many cap limit L given qs rs h =
    sym (length-map rs (λ (r : ReceiptSide). r.head)) ∙ ap length h.heads ∙ length-map qs (λ (q : Refusal Msg). q.head)

-- a packet was accepted
pub offered_given : (n cap limit : ℕ) (L : List Packet) (old new : GiverNow) (rs : List ReceiptSide) (p : Packet) → Offered cap limit L old rs → IsGiven n old new (message (length L) p) → Offered cap limit (L ++ p ∷ []) new rs
offered_given n cap limit L old new rs p d is =
    let given : new.given ≡ old.given ++ message (length L) p ∷ [] = ap (λ (g : GiverNow). g.given) is.given in
    let refusals : new.refusals ≡ old.refusals = ap (λ (g : GiverNow). g.refusals) is.given in
    let next : next_index new.past ≡ length L + 1 = ap (λ (g : GiverNow). next_index g.past) is.given in
    record {
      handed = rw (given, refusals) (hands_over.given cap limit L old.given old.refusals rs p d.handed);
      counted = omega (arith, ap length given, ap length refusals, d.counted, length-append old.given (message (length L) p ∷ []), length-append L (p ∷ []));
      next = omega (arith, next, length-append L (p ∷ []));
    }

-- a packet was refused
pub offered_refused : (n cap limit : ℕ) (L : List Packet) (old new : GiverNow) (rs : List ReceiptSide) (p : Packet) (back : Msg) (r : ReceiptSide) → Offered cap limit L old rs
    → n ≡ cap → old.about.limit ≡ limit → IsRefused n old new (message (length L) p) back r → Offered cap limit (L ++ p ∷ []) new (rs ++ r ∷ [])
offered_refused n cap limit L old new rs p back r d same_cap same_limit is =
    let m : Msg = message (length L) p in
    let q = refusal_at old new.seen m in
    let given : new.given ≡ old.given = ap (λ (g : GiverNow). g.given) is.refused in
    let refusals : new.refusals ≡ old.refusals ++ q ∷ [] = ap (λ (g : GiverNow). g.refusals) is.refused in
    let next : next_index new.past ≡ length L + 1 = ap (λ (g : GiverNow). next_index g.past) is.refused in
    let full : is_full size_of (record { cap = cap; limit = limit }) old.given new.seen (size_of m) ≡ true
    = subst (λ (z : ℕ). is_full size_of (record { cap = cap; limit = z }) old.given new.seen (size_of m) ≡ true) same_limit
    (subst (λ (c : ℕ). is_full size_of (record { cap = c; limit = old.about.limit }) old.given new.seen (size_of m) ≡ true) same_cap is.full) in
    let receipt : r ≡ receipt_of (length L) old.given rs new.seen = is.receipt ∙ rw (as_many cap limit L old.given old.refusals rs d.handed) refl in
    record {
      handed = rw (given, refusals, receipt) (hands_over.refused cap limit L old.given old.refusals rs p q d.handed full is.heads);
      counted = omega (arith, ap length given, ap length refusals, d.counted, length-append old.refusals (q ∷ []), length-append L (p ∷ []));
      next = omega (arith, next, length-append L (p ∷ []));
    }

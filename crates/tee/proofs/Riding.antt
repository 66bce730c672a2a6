-- An output with a thread of its own, as packets come.
use Rattle.std.proofs.Common.{◌≡◌, ◌+◌, ℕ, List, [], ◌∷◌, ◌++◌, length, length-append, Option, Some, None, sym, ◌∙◌, ap, subst, arith, inl, inr}
use Rattle.std.specs.Arc.{arc_value}
use Rattle.lane.specs.declared.msg.Msg.{Msg}
use Rattle.lane.specs.Sides.{ReceiptSide}
use Rattle.lane.specs.Told.{GiverNow}
use Rattle.rmx_media.specs.declared.packet.Packet.{Packet}
use Rattle.rmx_media.specs.declared.streams.StreamInfo.{StreamInfo}
use Rattle.tee.specs.Choice.{choice}
use Rattle.slave.specs.Handed.{message}
use Rattle.tee.specs.Offers.{Offered}
use Rattle.tee.specs.Rides.{Goes, Hands, Rides}
use Rattle.tee.specs.Seat.{Seat, chosen}
use Rattle.tee.specs.declared.sender.Sender.{Sender}
use Rattle.tee.proofs.Offering.{offered_given, offered_refused}
use Rattle.tee.proofs.Outputs.{chosen_none, chosen_one}

offered_more : (n cap limit : ℕ) (L : List Packet) (old new : GiverNow) (before after : List ReceiptSide) (p : Packet) → Offered cap limit L old before → n ≡ cap → old.about.limit ≡ limit
    → Goes n (message (length L) p) old new before after → Offered cap limit (L ++ p ∷ []) new after
offered_more n cap limit L old new before after p d same_cap same_limit gone = elim gone [
  | inl h ↦ subst (λ (rs : List ReceiptSide). Offered cap limit (L ++ p ∷ []) new rs) (sym h.1) (offered_given n cap limit L old new before p d h.0)
  | inr h ↦ subst (λ (rs : List ReceiptSide). Offered cap limit (L ++ p ∷ []) new rs) (sym h.3) (offered_refused n cap limit L old new before p h.0 h.1 d same_cap same_limit h.2)
]

-- what an offer leaves of the giver as it was
record Left (old new : GiverNow) : Type 0 where
  ring : new.ring ≡ old.ring
  about : new.about ≡ old.about
  closed : new.closed ≡ old.closed
  asked : new.asked ≡ old.asked
  told : new.told ≡ old.told

left_by : (n : ℕ) (m : Msg) (old new : GiverNow) (before after : List ReceiptSide) → Goes n m old new before after → Left old new
left_by n m old new before after gone = elim gone [
  | inl h ↦ record {
    ring = ap (λ (g : GiverNow). g.ring) h.0.given;
    about = ap (λ (g : GiverNow). g.about) h.0.given;
    closed = ap (λ (g : GiverNow). g.closed) h.0.given;
    asked = ap (λ (g : GiverNow). g.asked) h.0.given;
    told = ap (λ (g : GiverNow). g.told) h.0.given;
  }
  | inr h ↦ record {
    ring = ap (λ (g : GiverNow). g.ring) h.2.refused;
    about = ap (λ (g : GiverNow). g.about) h.2.refused;
    closed = ap (λ (g : GiverNow). g.closed) h.2.refused;
    asked = ap (λ (g : GiverNow). g.asked) h.2.refused;
    told = ap (λ (g : GiverNow). g.told) h.2.refused;
  }
]

-- it was offered a packet that it takes
pub rides_more : (infos : List StreamInfo) (given : List Packet) (asked : ℕ) (seat : Seat) (told : Option ℕ) (q p : Packet) (m : Msg) (old mid new : Sender) → Rides infos given asked seat told old
    → Some p ≡ choice seat.origin.streams.streams.items seat.slave.chains q → Hands m old mid → m ≡ message old.count p
    → new.lane ≡ mid.lane → new.giver ≡ mid.giver → new.receipts.items ≡ mid.receipts.items → new.choice ≡ mid.choice → new.cap ≡ mid.cap → new.drops ≡ mid.drops → new.failed ≡ mid.failed → new.count ≡ old.count + 1
    → Rides infos (given ++ q ∷ []) asked seat told new
rides_more infos given asked seat told q p m old mid new r e h is lane giver receipts choice_is cap drops failed count =
    let L = chosen seat given in
    let more : chosen seat (given ++ q ∷ []) ≡ L ++ p ∷ [] = chosen_one seat given q p e in
    let n = (arc_value old.lane).cap in
    let l = left_by n m old.giver mid.giver old.receipts.items mid.receipts.items h.gone in
    let here : m ≡ message (length L) p = is ∙ ap (λ (i : ℕ). message i p) r.count in
    let gone : Goes n (message (length L) p) old.giver mid.giver old.receipts.items mid.receipts.items
    = subst (λ (x : Msg). Goes n x old.giver mid.giver old.receipts.items mid.receipts.items) here h.gone in
    let offered = offered_more n seat.slave.fifo.queue_size seat.slave.fifo.queue_bytes L old.giver mid.giver old.receipts.items mid.receipts.items p r.offered r.lane.cap_is r.lane.limit gone in
    record {
      placed = rw (choice_is, h.choice) r.placed;
      threaded = r.threaded;
      lane = rw (lane, giver, h.lane, l.about) r.lane;
      offered = rw (giver, receipts, more) offered;
      count = rw more (omega (arith, count, r.count, length-append L (p ∷ [])));
      cap = cap ∙ h.cap ∙ r.cap;
      drops = drops ∙ h.drops ∙ r.drops;
      asked_is = rw giver (l.asked ∙ r.asked_is);
      told_is = rw giver (l.told ∙ r.told_is);
      knows = failed ∙ h.failed ∙ r.knows;
      within = r.within;
    }

-- it takes nothing of a packet
pub rides_same : (infos : List StreamInfo) (given : List Packet) (asked : ℕ) (seat : Seat) (told : Option ℕ) (q : Packet) (s : Sender) → Rides infos given asked seat told s
    → None ≡ choice seat.origin.streams.streams.items seat.slave.chains q → Rides infos (given ++ q ∷ []) asked seat told s
rides_same infos given asked seat told q s r e =
    let same : chosen seat (given ++ q ∷ []) ≡ chosen seat given = chosen_none seat given q e in
    record {
      placed = r.placed;
      threaded = r.threaded;
      lane = r.lane;
      offered = rw same r.offered;
      count = rw same r.count;
      cap = r.cap;
      drops = r.drops;
      asked_is = r.asked_is;
      told_is = r.told_is;
      knows = r.knows;
      within = r.within;
    }

-- what it keeps of a packet is no part of that
pub rides_as : (infos : List StreamInfo) (given : List Packet) (asked : ℕ) (seat : Seat) (told : Option ℕ) (old new : Sender) → Rides infos given asked seat told old
    → new.lane ≡ old.lane → new.giver ≡ old.giver → new.receipts.items ≡ old.receipts.items → new.choice ≡ old.choice → new.count ≡ old.count → new.cap ≡ old.cap → new.drops ≡ old.drops → new.failed ≡ old.failed
    → Rides infos given asked seat told new
rides_as infos given asked seat told old new r lane giver receipts choice_is count cap drops failed = record {
  placed = rw choice_is r.placed;
  threaded = r.threaded;
  lane = rw (lane, giver) r.lane;
  offered = rw (giver, receipts) r.offered;
  count = count ∙ r.count;
  cap = cap ∙ r.cap;
  drops = drops ∙ r.drops;
  asked_is = rw giver r.asked_is;
  told_is = rw giver r.told_is;
  knows = failed ∙ r.knows;
  within = r.within;
}

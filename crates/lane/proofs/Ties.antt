-- What ties the giver's fields to its view stays true.
use Rattle.std.proofs.Common.{◌≡◌, ◌≢◌, ℕ, zero, suc, ◌+◌, ◌-◌, ◌<◌, ◌≤◌, List, [], ◌∷◌, ◌++◌, map, length, drop, Some, Bool, true, false, sym, ap, ap₂, ◌∙◌, subst, arith, length-append, get_or}
use Rattle.std.specs.Prelude.{All, slice_get, sum_by, ◌==◌, ◌&&◌, ◌||◌, nat_lt}
use Rattle.std.specs.VecDeque.{deque_capacity}
use Rattle.std.proofs.lemmas.List.{map-append, drop-append-le, drop-map}
use Rattle.std.proofs.Math.Seq.{drop-nil}
use Rattle.std.proofs.lemmas.List.Elements.{All-append}
use Rattle.lane_core.specs.Machine.{is_full}
use Rattle.lane_core.specs.Machine as machine
use Rattle.lane.specs.declared.ends.Giver.TheInside.{Inside as GiverFields}
use Rattle.lane.specs.declared.msg.Msg.{Msg}
use Rattle.lane.specs.declared.msg.Purpose.{Purpose}
use Rattle.lane.specs.Ends.{giver_in}
use Rattle.lane.specs.Follows.{size_of, measure, next_index}
use Rattle.lane.specs.Total.{total}
use Rattle.lane.proofs.Light.{total_map}
use Rattle.lane.specs.Past.{Past, refused_in}
use Rattle.lane.specs.Sight.{Refusal, GiverView, giver}
use Rattle.lane.specs.Ring.{bounds, view_of}
use Rattle.lane.specs.Tied.{at_rest, Offers, Sized, GiverTied}

pub all_more : {T : Type 0} (P Q : T → Type 0) (xs : List T) → ((x : T) → P x → Q x) → All P xs → All Q xs
all_more P Q xs f h = λ k d l. f (get_or xs k d) (h k d l)

all_one : {T : Type 0} (P : T → Type 0) (y : T) → P y → All P (y ∷ [])
all_one P y p zero d l = p
all_one P y p (suc k) d l = absurd (omega arith)

all_snoc : {T : Type 0} (P : T → Type 0) (xs : List T) (y : T) → All P xs → P y → All P (xs ++ y ∷ [])
all_snoc P xs y h p = All-append P xs (y ∷ []) h (all_one P y p)

-- the last of a list, or one before it
last_or : {A : Type 0} (P : A → Type 0) (xs : List A) (y : A) → ((i : ℕ) (x : A) → slice_get xs i ≡ Some x → P x) → P y → (i : ℕ) (x : A) → slice_get (xs ++ y ∷ []) i ≡ Some x → P x
last_or P [] y h p zero x e = subst P (let s : y ≡ x = cc in s) p
last_or P [] y h p (suc i) x e = absurd (cc)
last_or P (z ∷ zs) y h p zero x e = h 0 x e
last_or P (z ∷ zs) y h p (suc i) x e = last_or P zs y (λ i x e. h (suc i) x e) p i x e

drop_drop : {A : Type 0} (xs : List A) (n m : ℕ) → n ≤ m → drop (m - n) (drop n xs) ≡ drop m xs
drop_drop xs zero m le = ap (λ k. drop k xs) (let e : m - 0 ≡ m = omega arith in e)
drop_drop xs (suc n) zero le = absurd (omega arith)
drop_drop [] (suc n) (suc m) le = drop-nil (suc m - suc n)
drop_drop (x ∷ xs) (suc n) (suc m) le = ap (λ k. drop k (drop n xs)) (let e : suc m - suc n ≡ m - n = omega arith in e) ∙ drop_drop xs n m (omega arith)

module _ (k : Purpose) (given : List Msg) (seen : ℕ) (rs : List (Refusal Msg)) (past : Past Msg) (h : Offers k given seen rs past) (head : ℕ) (more : seen ≤ head) where
  -- the giver sees that more were taken
  pub offers_seen : Offers k given head rs past
  offers_seen = record { given_is = h.given_is; refusals_are = h.refusals_are; rises = h.rises; below = h.below; heads = λ i r e. let l = h.heads i r e in omega arith; keeps_all = h.keeps_all }

  -- it is refused one more
  pub offers_refused : (x : Msg) (v : ℕ) (r : Refusal Msg) → next_index past ≤ x.index → r.item ≡ Some x → r.head ≡ head → k.drops ≡ true → Offers k given head (rs ++ r ∷ []) ((machine.offer x, machine.refused v) ∷ past)
  offers_refused x v r above item at drops = record {
    given_is = h.given_is;
    refusals_are = map-append (λ (r : Refusal Msg). r.item) rs (r ∷ []) ∙ (ap₂ (λ ys y. ys ++ y ∷ []) h.refusals_are item ∙ sym (map-append (λ (m : Msg). Some m) (refused_in past) (x ∷ [])));
    rises = (above, h.rises);
    below = all_more (λ (y : Msg). y.index < next_index past) (λ (y : Msg). y.index < x.index + 1) given (λ y l. omega arith) h.below;
    heads = last_or (λ (q : Refusal Msg). q.head ≤ head) rs r (λ i q e. let l = h.heads i q e in omega arith) (omega arith);
    keeps_all = λ e. let not : true ≡ false = sym drops ∙ e in absurd (cc);
  }

  -- it gives one more
  pub offers_given : (x : Msg) → next_index past ≤ x.index → Offers k (given ++ x ∷ []) head rs ((machine.offer x, machine.accepted) ∷ past)
  offers_given x above = record {
    given_is = ap (λ z. z ++ x ∷ []) h.given_is;
    refusals_are = h.refusals_are;
    rises = (above, h.rises);
    below = all_snoc (λ (y : Msg). y.index < x.index + 1) given x (all_more (λ (y : Msg). y.index < next_index past) (λ (y : Msg). y.index < x.index + 1) given (λ y l. omega arith) h.below) (omega arith);
    heads = λ i r e. let l = h.heads i r e in omega arith;
    keeps_all = h.keeps_all;
  }

module _ (slots capacity : ℕ) (sizes : List ℕ) (given : List Msg) (seen : ℕ) (h : Sized slots capacity sizes given seen) where
  pub sized_seen : (head : ℕ) (sizes' : List ℕ) (capacity' : ℕ) → seen ≤ head → head ≤ length given → length given ≤ head + slots → sizes' ≡ drop (head - seen) sizes → capacity' ≡ capacity → Sized slots capacity' sizes' given head
  sized_seen head sizes' capacity' more low near cut same = record {
    low = low;
    near = near;
    sizes_are = cut ∙ (ap (drop (head - seen)) h.sizes_are ∙ (drop-map size_of (head - seen) (drop seen given) ∙ ap (map size_of) (drop_drop given seen head more)));
    places = let l = h.places in omega arith;
    few = h.few;
  }

  pub sized_given : (x : Msg) (z : ℕ) (sizes' : List ℕ) (capacity' : ℕ) → z ≡ size_of x → length given ≢ seen + slots → sizes' ≡ sizes ++ z ∷ [] → capacity' ≡ capacity → Sized slots capacity' sizes' (given ++ x ∷ []) seen
  sized_given x z sizes' capacity' weight room grown same = let one : length (given ++ x ∷ []) ≡ length given + 1 = length-append given (x ∷ []) in let low = h.low in let near = h.near in record {
    low = omega arith;
    near = omega arith;
    sizes_are = grown ∙ (ap₂ (λ ys y. ys ++ y ∷ []) h.sizes_are weight ∙ (sym (map-append size_of (drop seen given) (x ∷ [])) ∙ ap (map size_of) (sym (drop-append-le seen given (x ∷ []) low))));
    places = let l = h.places in omega arith;
    few = h.few;
  }

-- the fields of a giver whose seat has this view
pub tie : (s : GiverFields) (v : GiverView Msg Purpose) → s.seat.me ≡ (view_of (giver v), []) → at_rest s.about.value v ≡ v → s.count ≡ length v.flow.given → s.head ≡ v.flow.seen → s.refused ≡ length v.refusals → s.closed ≡ v.closed → s.asked ≡ v.asked
    → s.told ≡ v.told → s.limit ≡ s.about.value.limit → s.drops ≡ s.about.value.drops → Sized s.seat.table_id.slots (deque_capacity s.sizes.held) s.sizes.held.items v.flow.given v.flow.seen
    → Offers s.about.value v.flow.given v.flow.seen v.refusals v.past → GiverTied s
tie s v e rest count head refused closed asked told limit drops sized offers = let k : Purpose = s.about.value in let at : v ≡ giver_in k s.seat.me.0.sight = sym (ap (λ m. giver_in k m.0.sight) e) in record {
  seated = e ∙ ap (λ (u : GiverView Msg Purpose). (view_of (giver u), [])) (sym rest ∙ ap (at_rest k) at);
  count_is = count ∙ ap (λ (u : GiverView Msg Purpose). length u.flow.given) at;
  head_is = head ∙ ap (λ (u : GiverView Msg Purpose). u.flow.seen) at;
  refused_is = refused ∙ ap (λ (u : GiverView Msg Purpose). length u.refusals) at;
  closed_is = closed ∙ ap (λ (u : GiverView Msg Purpose). u.closed) at;
  asked_is = asked ∙ ap (λ (u : GiverView Msg Purpose). u.asked) at;
  told_is = told ∙ ap (λ (u : GiverView Msg Purpose). u.told) at;
  limit_is = limit;
  drops_is = drops;
  sized = subst (λ (u : GiverView Msg Purpose). Sized s.seat.table_id.slots (deque_capacity s.sizes.held) s.sizes.held.items u.flow.given u.flow.seen) at sized;
  offers = subst (λ (u : GiverView Msg Purpose). Offers k u.flow.given u.flow.seen u.refusals u.past) at offers;
}

-- the code finds a lane full exactly where the machine does
pub decided : (k : Purpose) (given : List Msg) (head slots cap limit count all : ℕ) (x : Msg) (r : Bool) → r ≡ ((count == head + cap) || ((nat_lt 0 limit && nat_lt head count) && nat_lt limit all)) → count ≡ length given → slots ≡ cap → limit ≡ k.limit
    → all ≡ sum_by size_of (drop head given) + size_of x → r ≡ is_full size_of (bounds measure slots k) given head (size_of x)
decided k given head slots cap limit count all x r is counts places limits sums = is ∙ (λ i. (counts i == head + sym places i) || ((nat_lt 0 (limits i) && nat_lt head (counts i)) && nat_lt (limits i) (sums i)))

-- the bytes of the messages that wait
pub waiting_bytes : (slots capacity : ℕ) (sizes : List ℕ) (given : List Msg) (seen bytes : ℕ) → Sized slots capacity sizes given seen → bytes ≡ total sizes → bytes ≡ sum_by size_of (drop seen given)
waiting_bytes slots capacity sizes given seen bytes h is = is ∙ (ap total h.sizes_are ∙ total_map size_of (drop seen given))

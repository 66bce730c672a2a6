-- Each step keeps the rule.
use Rattle.std.proofs.Common.{◌≡◌, ℕ, suc, ◌+◌, ◌%◌, ◌^◌, ◌<◌, ◌≤◌, List, [], ◌∷◌, ◌++◌, map, length, set, replicate, sym, refl, ap, ◌∙◌, subst, arith, length-append, length-set, append_assoc, mod-lt, Option, Some, None, ⊎_elim, false}
use mathlib.Core.Logic.{dite}
use mathlib.Core.Option.{none, some}
use mathlib.Core.Option as maybe
use native.Mathlib.Decide.{ℕ_discrete}
use native.Mathlib.Nat.{add-mod_right}
use lib.ListN.{get_elem?, length-map, length-replicate}
use Rattle.atomic_table.proofs.Lists.{set_here, at_last, at_longer}
use Rattle.lane.specs.Sight.{Giving, Taking}
use Rattle.lane.specs.Ring.{Measure, bounds, idle, filling, resting, emptying, Kept}
use Rattle.lane_core.specs.Machine.{is_full}
use Rattle.lane_core.proofs.Full.{room_tells}
use Rattle.lane.proofs.Slots.{other_slot, blank, at_end, within_length, front_of, no_split, snoc_split, first_of, at_front}

abbrev Homes : Type 0 → Type 0
Homes T = List (maybe.Option (Option T))

module _ {T K : Type 0} (follows : K → List T → T → Type 0) (w : Measure T K) (n : ℕ) (k : K) where
  pub opens : 0 < n → Kept follows w n k (map some (replicate n None)) (idle k [] 0) (resting k [] 0)
  opens pos = record {
    some_slot = pos;
    size = length-map (replicate n None) some ∙ length-replicate n None;
    small = omega arith;
    abouts = (refl, refl);
    waiting = [];
    prefix = refl;
    within = omega arith;
    head_seen = omega arith;
    tail_seen = omega arith;
    full = λ j x e _. absurd (maybe.some-ne-none x (sym e));
    in_hand = λ x e. absurd (cc);
    empty = λ j _ lt. blank n (j % n) (mod-lt j pos);
    near = omega arith;
    room = λ z e. absurd (cc);
    in_order = λ front back x e. absurd (no_split front back x e);
  }

  -- the giver takes the slot after its last message
  pub takes_place : (c : K) (homes : Homes T) (given : List T) (seen : ℕ) (t : Taking T K) (z : ℕ) → Kept follows w n k homes (idle c given seen) t → is_full w.size (bounds w n k) given (length t.got) z ≡ false
      → (get_elem? homes (length given % n) ≡ some (some None)) × Kept follows w n k (set homes (length given % n) none) (filling z c given (length t.got)) t
  takes_place c homes given seen t z h has_room = let a : ℕ = length given in let b : ℕ = length t.got in let long : a ≡ b + length h.waiting = ap length h.prefix ∙ length-append t.got h.waiting in
      let fits : length h.waiting ≤ n = h.within in let ne = (room_tells n (w.limit k) a b _ has_room).0 in let free : a < b + n = omega arith in (
        h.empty a (omega arith) free,
        record {
          some_slot = h.some_slot;
          size = length-set homes (a % n) none ∙ h.size;
          small = h.small;
          abouts = h.abouts;
          waiting = h.waiting;
          prefix = h.prefix;
          within = h.within;
          head_seen = omega arith;
          tail_seen = h.tail_seen;
          full = λ j x e le. let l : j < a = within_length given j x e in let m : b ≤ j = omega arith in other_slot homes n a j none (λ q. omega arith) (omega arith) (omega arith) ∙ h.full j x e le;
          in_hand = h.in_hand;
          empty = λ j le lt. let more : a + 1 ≤ j = le in other_slot homes n a j none (λ q. omega arith) (omega arith) (omega arith) ∙ h.empty j (omega arith) lt;
          near = omega arith;
          room = λ y e. subst (λ (u : ℕ). is_full w.size (bounds w n k) given b u ≡ false) (let s : z ≡ y = cc in s) has_room;
          in_order = h.in_order;
        },
      )

  -- and gives it back with a message
  pub gives_item : (c : K) (homes : Homes T) (given : List T) (seen : ℕ) (t : Taking T K) (z : ℕ) (x : T) → Kept follows w n k homes (filling z c given seen) t → length given < 2 ^ 61 → follows k given x
      → Kept follows w n k (set homes (length given % n) (some (Some x))) (idle c (given ++ x ∷ []) seen) t
  gives_item c homes given seen t z x h small next = let a : ℕ = length given in let b : ℕ = length t.got in let q : ℕ = length h.waiting in let long : a ≡ b + q = ap length h.prefix ∙ length-append t.got h.waiting in
      let one : length (given ++ x ∷ []) ≡ a + 1 = length-append given (x ∷ []) in let near : a ≤ seen + n = h.near in let ne = (room_tells n (w.limit k) a seen _ (h.room z refl)).0 in let free : a < seen + n = omega arith in let sees : seen ≤ b = h.head_seen in let homes' : Homes T = set homes (a % n) (some (Some x)) in
      let here : get_elem? homes' (a % n) ≡ some (some (Some x)) = set_here homes (a % n) (some (Some x)) (subst (λ (z : ℕ). a % n < z) (sym h.size) (mod-lt a h.some_slot)) in
      record {
        some_slot = h.some_slot;
        size = length-set homes (a % n) (some (Some x)) ∙ h.size;
        small = omega arith;
        abouts = h.abouts;
        waiting = h.waiting ++ x ∷ [];
        prefix = ap (λ z. z ++ x ∷ []) h.prefix ∙ append_assoc t.got h.waiting (x ∷ []);
        within = let l = length-append h.waiting (x ∷ []) in omega arith;
        head_seen = h.head_seen;
        tail_seen = let l = h.tail_seen in omega arith;
        full = λ j y e le. dite (ℕ_discrete j a)
            (λ q. let same : some x ≡ some y = sym (at_last given x a refl) ∙ (ap (get_elem? (given ++ x ∷ [])) (sym q) ∙ e) in
            ap (λ (i : ℕ). get_elem? homes' (i % n)) q ∙ (here ∙ ap (λ z. some (some (Some z))) (maybe.some-injective x y same)))
            (λ ne. let was = at_end given x y j e ne in let l : j < a = within_length given j y was in let m : b ≤ j = omega arith in
            other_slot homes n a j (some (Some x)) (λ q. omega arith) (omega arith) (omega arith) ∙ h.full j y was le);
        in_hand = λ y e. at_longer given (x ∷ []) b y (h.in_hand y e);
        empty = λ j le lt. let more : a + 1 ≤ j = omega arith in other_slot homes n a j (some (Some x)) (λ q. omega arith) (omega arith) (omega arith) ∙ h.empty j more lt;
        near = omega arith;
        room = λ z e. absurd (cc);
        in_order = λ front back y e. ⊎_elim (λ (p : (given ≡ front) × (x ≡ y)). subst (λ (z : List T × T). follows k z.0 z.1) (λ i. (p.0 i, p.1 i)) next) (λ (p : (b : List T) × (given ≡ front ++ y ∷ b)). h.in_order front p.0 y p.1)
            (snoc_split given front back x y e);
      }

  -- the taker takes the slot of the first that waits
  pub takes_item : (c : K) (homes : Homes T) (g : Giving T K) (got : List T) (seen : ℕ) → Kept follows w n k homes g (resting c got seen) → length got < length g.given
      → (x : T) × follows k got x × (get_elem? homes (length got % n) ≡ some (some (Some x))) × Kept follows w n k (set homes (length got % n) none) g (emptying c got (length g.given) x)
  takes_item c homes g got seen h some_wait = let a : ℕ = length g.given in let b : ℕ = length got in let q : ℕ = length h.waiting in let long : a ≡ b + q = ap length h.prefix ∙ length-append got h.waiting in
      let first = first_of h.waiting (omega arith) in let x : T = first.0 in let rest : List T = first.1 in let cut : g.given ≡ got ++ x ∷ rest = h.prefix ∙ ap (λ z. got ++ z) first.2 in
      let next : get_elem? g.given b ≡ some x = ap (λ z. get_elem? z b) cut ∙ at_front got rest x in let fits : q ≤ n = h.within in (
        x,
        h.in_order got rest x cut,
        h.full b x next (omega arith),
        record {
          some_slot = h.some_slot;
          size = length-set homes (b % n) none ∙ h.size;
          small = h.small;
          abouts = h.abouts;
          waiting = h.waiting;
          prefix = h.prefix;
          within = h.within;
          head_seen = h.head_seen;
          tail_seen = omega arith;
          full = λ j y e le. let l : j < a = within_length g.given j y e in let m : b + 1 ≤ j = le in other_slot homes n b j none (λ q. omega arith) (omega arith) (omega arith) ∙ h.full j y e (omega arith);
          in_hand = λ y e. next ∙ ap some (let s : x ≡ y = cc in s);
          empty = λ j le lt. let m : a ≤ j = omega arith in other_slot homes n b j none (λ q. omega arith) (omega arith) (omega arith) ∙ h.empty j le lt;
          near = h.near;
          room = h.room;
          in_order = h.in_order;
        },
      )

  -- and gives it back empty
  pub returns_slot : (c : K) (homes : Homes T) (g : Giving T K) (got : List T) (seen : ℕ) (x : T) → Kept follows w n k homes g (emptying c got seen x)
      → Kept follows w n k (set homes (length got % n) (some None)) g (resting c (got ++ x ∷ []) seen)
  returns_slot c homes g got seen x h = let a : ℕ = length g.given in let b : ℕ = length got in let q : ℕ = length h.waiting in let long : a ≡ b + q = ap length h.prefix ∙ length-append got h.waiting in
      let next : get_elem? g.given b ≡ some x = h.in_hand x refl in let front = front_of got h.waiting x (ap (λ z. get_elem? z b) (sym h.prefix) ∙ next) in let rest : List T = front.0 in
      let shorter : q ≡ suc (length rest) = ap length front.1 in let fits : q ≤ n = h.within in let one : length (got ++ x ∷ []) ≡ b + 1 = length-append got (x ∷ []) in let homes' : Homes T = set homes (b % n) (some None) in
      let here : get_elem? homes' (b % n) ≡ some (some None) = set_here homes (b % n) (some None) (subst (λ (z : ℕ). b % n < z) (sym h.size) (mod-lt b h.some_slot)) in
      record {
        some_slot = h.some_slot;
        size = length-set homes (b % n) (some None) ∙ h.size;
        small = h.small;
        abouts = h.abouts;
        waiting = rest;
        prefix = h.prefix ∙ (ap (λ z. got ++ z) front.1 ∙ sym (append_assoc got (x ∷ []) rest));
        within = omega arith;
        head_seen = let l = h.head_seen in omega arith;
        tail_seen = h.tail_seen;
        full = λ j y e le. let l : j < a = within_length g.given j y e in let m : b + 1 ≤ j = omega arith in other_slot homes n b j (some None) (λ q. omega arith) (omega arith) (omega arith) ∙ h.full j y e m;
        in_hand = λ y e. absurd (cc);
        empty = λ j le lt. dite (ℕ_discrete j (b + n)) (λ q. ap (λ (i : ℕ). get_elem? homes' (i % n)) q ∙ (ap (get_elem? homes') (add-mod_right b n) ∙ here))
            (λ ne. let m : a ≤ j = omega arith in let l : j < b + n = omega arith in other_slot homes n b j (some None) (λ q. omega arith) (omega arith) l ∙ h.empty j le l);
        near = h.near;
        room = h.room;
        in_order = h.in_order;
      }

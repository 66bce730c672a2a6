-- A lane deals its packets: each is given or refused.
use Rattle.std.proofs.Common.{◌≡◌, ℕ, zero, suc, ◌+◌, ◌≤◌, ◌<◌, ◌⊎◌, inl, inr, Bool, true, false, ◌&&◌, ◌||◌, ◌==◌, nat_lt, if◌then◌else◌, List, [], ◌∷◌, ◌++◌, length, map, take, drop, slice_get, Some, refl, ap, sym, ◌∙◌, subst, arith, length-append}
use Rattle.std.specs.Prelude.{sum_by}
use Rattle.std.proofs.lemmas.Bool.Decides.{nat_tests}
use Rattle.std.proofs.Math.Nat.{eq-or-lt_of_le}
use Rattle.std.proofs.lemmas.List.{append-nil, drop-map, take-append-le, length-map}
use Rattle.std.proofs.lemmas.List.Sums.{sum_by-cons}
use Rattle.std.proofs.Math.Seq.{take-length}
use Rattle.std.proofs.lemmas.Option.{slice_get_within}
use Rattle.std.proofs.lemmas.Bool.{ltb-true, or_right, or_from}
use Rattle.std.proofs.Math.Bool.{or-false}
use Rattle.lane_core.specs.Machine.{is_full, waiting}
use Rattle.lane.specs.Follows.{size_of}
use Rattle.lane.specs.Sides.{ReceiptSide}
use Rattle.lane.specs.Sight.{Refusal}
use Rattle.lane.specs.declared.msg.Msg.{Msg}
use Rattle.rmx_media.specs.declared.packet.Packet.{Packet}
use Rattle.slave.specs.Given.{Given, Sent, Swept, Gives}
use Rattle.slave.specs.AccountsAll.{GivesAt}
use Rattle.slave.specs.LaneAccounts.{is_named, accepted_from, payload_bytes, IsFullFor, IsReceipt, AreReceipts, messages_from, PassedOn}
use Rattle.slave.specs.Handed.{message, receipt_of, HandsOver, LanesDeal}
use Rattle.slave.proofs.Past.{same_number, number_same, number_differs}

-- the packets of the messages
packets_of : (rs : List ReceiptSide) (n : ℕ) (L : List Packet) → accepted_from rs n L ≡ map (λ (m : Msg). m.packet) (messages_from rs n L)
packets_of rs n [] = refl
packets_of rs n (p ∷ L) = by (is_named rs n) (packets_of rs (n + 1) L)
  where
    by : (b : Bool) → accepted_from rs (n + 1) L ≡ map (λ (m : Msg). m.packet) (messages_from rs (n + 1) L)
        → (if b then accepted_from rs (n + 1) L else p ∷ accepted_from rs (n + 1) L) ≡ map (λ (m : Msg). m.packet) (if b then messages_from rs (n + 1) L else record { index = n; packet = p } ∷ messages_from rs (n + 1) L)
    by true e = e
    by false e = ap (λ (ps : List Packet). p ∷ ps) e

get_more : (L M : List Packet) (i : ℕ) (p : Packet) → slice_get L i ≡ Some p → slice_get (L ++ M) i ≡ Some p
get_more [] M i p e = absurd (cc e)
get_more (q ∷ L) M zero p e = e
get_more (q ∷ L) M (suc i) p e = get_more L M i p e

get_last : (L : List Packet) (p : Packet) → slice_get (L ++ p ∷ []) (length L) ≡ Some p
get_last [] p = refl
get_last (q ∷ L) p = get_last L p

apart_number : (a b : ℕ) → a < b → (a == b) ≡ false
apart_number a b lt = grind (arith, nat_tests)

-- the packet behind all is not refused yet
not_yet : (cap limit : ℕ) (L A : List Packet) (v i h : ℕ) (rs : List ReceiptSide) (n : ℕ) → AreReceipts cap limit L A v i h rs → length L ≤ n → is_named rs n ≡ false
not_yet cap limit L A v i h [] n k le = refl
not_yet cap limit L A v i h (r ∷ rs) n k le =
    let low = slice_get_within L r.index k.0.packet k.0.at in
    or_from (r.index == n) (is_named rs n) (apart_number r.index n (omega (arith, low, le))) (not_yet cap limit L A (v + 1) (r.index + 1) r.head rs n k.3 le)

named_push : (rs : List ReceiptSide) (r : ReceiptSide) (i : ℕ) → is_named (rs ++ r ∷ []) i ≡ (is_named rs i || (r.index == i))
named_push [] r i = by (r.index == i)
  where
    by : (b : Bool) → (b || false) ≡ b
    by true = refl
    by false = refl
named_push (q ∷ rs) r i = by (q.index == i) (is_named rs i) (r.index == i) (is_named (rs ++ r ∷ []) i) (named_push rs r i)
  where
    by : (a b c d : Bool) → d ≡ (b || c) → (a || d) ≡ ((a || b) || c)
    by true b c d e = refl
    by false b c d e = e

-- a receipt of a later packet changes nothing of those before
same_messages : (rs qs : List ReceiptSide) (n : ℕ) (L : List Packet) → ((i : ℕ) → i < n + length L → is_named qs i ≡ is_named rs i) → messages_from qs n L ≡ messages_from rs n L
same_messages rs qs n [] same = refl
same_messages rs qs n (p ∷ L) same =
    let here = same n (omega arith) in
    let rest = same_messages rs qs (n + 1) L (λ i lt. same i (omega (arith, lt))) in
    rw (here, rest) refl

messages_push : (rs : List ReceiptSide) (n : ℕ) (L : List Packet) (p : Packet) → is_named rs (n + length L) ≡ false
    → messages_from rs n (L ++ p ∷ []) ≡ messages_from rs n L ++ message (n + length L) p ∷ []
messages_push rs n [] p new =
    let e : n + 0 ≡ n = omega arith in
    let here : is_named rs n ≡ false = subst (λ (i : ℕ). is_named rs i ≡ false) e new in
    rw (here, e) refl
messages_push rs n (q ∷ L) p new =
    let e : n + suc (length L) ≡ (n + 1) + length L = omega arith in
    let rest = messages_push rs (n + 1) L p (subst (λ (i : ℕ). is_named rs i ≡ false) e new) in
    by (is_named rs n) (rest ∙ ap (λ (i : ℕ). messages_from rs (n + 1) L ++ message i p ∷ []) (sym e))
  where
    by : (b : Bool) → messages_from rs (n + 1) (L ++ p ∷ []) ≡ messages_from rs (n + 1) L ++ message (n + suc (length L)) p ∷ []
        → (if b then messages_from rs (n + 1) (L ++ p ∷ []) else message n q ∷ messages_from rs (n + 1) (L ++ p ∷ []))
        ≡ (if b then messages_from rs (n + 1) L else message n q ∷ messages_from rs (n + 1) L) ++ message (n + suc (length L)) p ∷ []
    by true e = e
    by false e = ap (λ (ms : List Msg). message n q ∷ ms) e

messages_left_out : (rs : List ReceiptSide) (n : ℕ) (L : List Packet) (p : Packet) → is_named rs (n + length L) ≡ true → messages_from rs n (L ++ p ∷ []) ≡ messages_from rs n L
messages_left_out rs n [] p new =
    let e : n + 0 ≡ n = omega arith in
    let here : is_named rs n ≡ true = subst (λ (i : ℕ). is_named rs i ≡ true) e new in
    rw here refl
messages_left_out rs n (q ∷ L) p new =
    let e : n + suc (length L) ≡ (n + 1) + length L = omega arith in
    rw (messages_left_out rs (n + 1) L p (subst (λ (i : ℕ). is_named rs i ≡ true) e new)) refl

-- receipts hold of more packets too
are_more : (cap limit : ℕ) (L M A B : List Packet) (v i h : ℕ) (rs : List ReceiptSide) → ((u : ℕ) (r : ReceiptSide) → slice_get rs u ≡ Some r → r.accepted ≤ length A)
    → AreReceipts cap limit L A v i h rs → AreReceipts cap limit (L ++ M) (A ++ B) v i h rs
are_more cap limit L M A B v i h [] few k = tt
are_more cap limit L M A B v i h (r ∷ rs) few k =
    let e = take-append-le r.accepted A B (few 0 r refl) in (
      record {
        number = k.0.number;
        packet = k.0.packet;
        at = get_more L M r.index k.0.packet k.0.at;
        before = k.0.before;
        bytes = k.0.bytes ∙ ap (λ (ps : List Packet). payload_bytes (drop r.head ps)) (sym e);
        full = k.0.full;
      },
      k.1,
      k.2,
      are_more cap limit L M A B (v + 1) (r.index + 1) r.head rs (λ u q x. few (suc u) q x) k.3,
    )

are_push : (cap limit : ℕ) (L A : List Packet) (v i h : ℕ) (rs : List ReceiptSide) (r : ReceiptSide) → AreReceipts cap limit L A v i h rs → IsReceipt cap limit L A (v + length rs) r
    → i ≤ r.index → h ≤ r.head → ((u : ℕ) (q : ReceiptSide) → slice_get rs u ≡ Some q → (q.index < r.index) × (q.head ≤ r.head)) → AreReceipts cap limit L A v i h (rs ++ r ∷ [])
are_push cap limit L A v i h [] r k new low head all =
    let e : v + 0 ≡ v = omega arith in
    (subst (λ (u : ℕ). IsReceipt cap limit L A u r) e new, low, head, tt)
are_push cap limit L A v i h (q ∷ rs) r k new low head all =
    let e : v + suc (length rs) ≡ (v + 1) + length rs = omega arith in
    let here = all 0 q refl in
    (k.0, k.1, k.2, are_push cap limit L A (v + 1) (q.index + 1) q.head rs r k.3 (subst (λ (u : ℕ). IsReceipt cap limit L A u r) e new) (omega (arith, here.0)) here.1 (λ u x y. all (suc u) x y))

index_within : (cap limit : ℕ) (L A : List Packet) (v i h : ℕ) (rs : List ReceiptSide) (u : ℕ) (q : ReceiptSide) → AreReceipts cap limit L A v i h rs → slice_get rs u ≡ Some q → q.index < length L
index_within cap limit L A v i h [] u q k e = absurd (cc e)
index_within cap limit L A v i h (r ∷ rs) zero q k e = (let same : r ≡ q = cc in subst (λ (x : ReceiptSide). x.index < length L) same (slice_get_within L r.index k.0.packet k.0.at))
index_within cap limit L A v i h (r ∷ rs) (suc u) q k e = index_within cap limit L A (v + 1) (r.index + 1) r.head rs u q k.3 e

heads_at : (rs : List ReceiptSide) (qs : List (Refusal Msg)) (u : ℕ) (r : ReceiptSide) → map (λ (x : ReceiptSide). x.head) rs ≡ map (λ (x : Refusal Msg). x.head) qs → slice_get rs u ≡ Some r
    → (q : Refusal Msg) × (slice_get qs u ≡ Some q) × (q.head ≡ r.head)
heads_at [] qs u r e at = absurd (cc at)
heads_at (x ∷ rs) [] u r e at = absurd (cc e)
heads_at (x ∷ rs) (y ∷ qs) zero r e at =
    let head : x.head ≡ y.head = cc in
    let same : x ≡ r = cc in
    (y, refl, sym head ∙ ap (λ (z : ReceiptSide). z.head) same)
heads_at (x ∷ rs) (y ∷ qs) (suc u) r e at =
    let tail : map (λ (x : ReceiptSide). x.head) rs ≡ map (λ (x : Refusal Msg). x.head) qs = cc in
    heads_at rs qs u r tail at

heads_push : (rs : List ReceiptSide) (qs : List (Refusal Msg)) (r : ReceiptSide) (q : Refusal Msg) → map (λ (x : ReceiptSide). x.head) rs ≡ map (λ (x : Refusal Msg). x.head) qs → r.head ≡ q.head
    → map (λ (x : ReceiptSide). x.head) (rs ++ r ∷ []) ≡ map (λ (x : Refusal Msg). x.head) (qs ++ q ∷ [])
heads_push [] [] r q e same = rw same refl
heads_push [] (y ∷ qs) r q e same = absurd (cc e)
heads_push (x ∷ rs) [] r q e same = absurd (cc e)
heads_push (x ∷ rs) (y ∷ qs) r q e same =
    let head : x.head ≡ y.head = cc in
    let tail : map (λ (x : ReceiptSide). x.head) rs ≡ map (λ (x : Refusal Msg). x.head) qs = cc in
    rw (head, heads_push rs qs r q tail same) refl

get_cases : (rs : List ReceiptSide) (r : ReceiptSide) (u : ℕ) (q : ReceiptSide) → slice_get (rs ++ r ∷ []) u ≡ Some q → (slice_get rs u ≡ Some q) ⊎ (q ≡ r)
get_cases [] r zero q e = (let same : r ≡ q = cc in inr (sym same))
get_cases [] r (suc u) q e = absurd (cc e)
get_cases (x ∷ rs) r zero q e = inl e
get_cases (x ∷ rs) r (suc u) q e = get_cases rs r u q e

full_bools : (a b c d : Bool) → (a || ((b && c) && d)) ≡ true → (a ≡ true) ⊎ ((b ≡ true) × (c ≡ true) × (d ≡ true))
full_bools true b c d e = inl refl
full_bools false true true true e = inr (refl, refl, refl)
full_bools false true true false e = absurd (cc e)
full_bools false true false d e = absurd (cc e)
full_bools false false c d e = absurd (cc e)

-- the lane was full in the words of the receipt
full_so : (cap limit : ℕ) (given : List Msg) (head : ℕ) (p : Packet) (r : ReceiptSide) → r.accepted ≡ length given → r.head ≡ head → r.bytes ≡ sum_by size_of (waiting given head)
    → is_full size_of (record { cap = cap; limit = limit }) given head (length p.payload) ≡ true → IsFullFor cap limit r p
full_so cap limit given head p r is_accepted is_head is_bytes e =
    elim (full_bools (length given == head + cap) (nat_lt 0 limit) (nat_lt head (length given)) (nat_lt limit (sum_by size_of (waiting given head) + length p.payload)) e) [
      | inl a ↦ inl (let x = same_number (length given) (head + cap) a in omega (arith, is_accepted, is_head, x))
      | inr b ↦ inr (
        ltb-true 0 limit b.0,
        (let x = ltb-true head (length given) b.1 in omega (arith, is_accepted, is_head, x)),
        (let x = ltb-true limit (sum_by size_of (waiting given head) + length p.payload) b.2 in omega (arith, is_bytes, x)),
      )
    ]

bytes_of : (ms : List Msg) → payload_bytes (map (λ (m : Msg). m.packet) ms) ≡ sum_by size_of ms
bytes_of [] = refl
bytes_of (m ∷ ms) =
    sum_by-cons (λ (p : Packet). length p.payload) m.packet (map (λ (x : Msg). x.packet) ms) ∙ ap (λ (k : ℕ). length m.packet.payload + k) (bytes_of ms)
    ∙ sym (sum_by-cons size_of m ms)

-- the bytes of those that waited
waiting_bytes : (given : List Msg) (A : List Packet) (head : ℕ) → A ≡ map (λ (m : Msg). m.packet) given → payload_bytes (drop head (take (length given) A)) ≡ sum_by size_of (waiting given head)
waiting_bytes given A head is =
    let size : length given ≡ length A = sym (ap length is ∙ length-map given (λ (m : Msg). m.packet)) in
    let all : take (length given) A ≡ A = ap (λ (k : ℕ). take k A) size ∙ take-length A in
    ap (λ (ps : List Packet). payload_bytes (drop head ps)) (all ∙ is) ∙ ap payload_bytes (drop-map (λ (m : Msg). m.packet) head given) ∙ bytes_of (drop head given)

map_push : (ms : List Msg) (m : Msg) → map (λ (x : Msg). x.packet) (ms ++ m ∷ []) ≡ map (λ (x : Msg). x.packet) ms ++ m.packet ∷ []
map_push [] m = refl
map_push (x ∷ ms) m = ap (λ (ps : List Packet). x.packet ∷ ps) (map_push ms m)

pub hands_over : HandsOver
hands_over = record {
  nothing = λ cap limit. record { given_is = refl; receipts = tt; heads = refl; count = refl; before = λ v r e. absurd (cc e) };
  given = λ cap limit L given refusals rs p k.
      (let new : is_named rs (0 + length L) ≡ false = not_yet cap limit L (accepted_from rs 0 L) 1 0 0 rs (0 + length L) k.receipts (omega arith) in
      let zero_more : 0 + length L ≡ length L = omega arith in
      let pushed = messages_push rs 0 L p new in
      let is : given ++ message (length L) p ∷ [] ≡ messages_from rs 0 (L ++ p ∷ []) =
      ap (λ (ms : List Msg). ms ++ message (length L) p ∷ []) k.given_is ∙ ap (λ (i : ℕ). messages_from rs 0 L ++ message i p ∷ []) (sym zero_more) ∙ sym pushed in
      let accepted : accepted_from rs 0 (L ++ p ∷ []) ≡ accepted_from rs 0 L ++ p ∷ [] =
      packets_of rs 0 (L ++ p ∷ []) ∙ ap (map (λ (m : Msg). m.packet)) pushed ∙ map_push (messages_from rs 0 L) (message (0 + length L) p) ∙ ap (λ (ps : List Packet). ps ++ p ∷ []) (sym (packets_of rs 0 L)) in
      let many : length (accepted_from rs 0 L) ≡ length given = ap length (packets_of rs 0 L) ∙ length-map (messages_from rs 0 L) (λ (m : Msg). m.packet) ∙ sym (ap length k.given_is) in
      let more = are_more cap limit L (p ∷ []) (accepted_from rs 0 L) (p ∷ []) 1 0 0 rs (λ u r e. (let x = k.before u r e in omega (arith, x, many))) k.receipts in
      let one_given = length-append given (message (length L) p ∷ []) in
      record {
        given_is = is;
        receipts = subst (λ (A : List Packet). AreReceipts cap limit (L ++ p ∷ []) A 1 0 0 rs) (sym accepted) more;
        heads = k.heads;
        count = omega (arith, k.count, one_given, length-append L (p ∷ []));
        before = λ v r e. (let x = k.before v r e in omega (arith, x, one_given));
      });
  refused = λ cap limit L given refusals rs p q k full heads.
      (let r = receipt_of (length L) given rs q.head in
      let qs = rs ++ r ∷ [] in
      let A = accepted_from rs 0 L in
      let here : is_named qs (0 + length L) ≡ true = named_push rs r (0 + length L) ∙ or_right (is_named rs (0 + length L)) (length L == 0 + length L) (number_same (length L) (0 + length L) (omega arith)) in
      let same : (i : ℕ) → i < 0 + length L → is_named qs i ≡ is_named rs i =
      λ i lt. named_push rs r i ∙ ap (λ (b : Bool). is_named rs i || b) (number_differs i (length L) (omega (arith, lt))) ∙ or-false (is_named rs i) in
      let kept : messages_from qs 0 (L ++ p ∷ []) ≡ messages_from rs 0 L = messages_left_out qs 0 L p here ∙ same_messages rs qs 0 L same in
      let accepted : accepted_from qs 0 (L ++ p ∷ []) ≡ A = packets_of qs 0 (L ++ p ∷ []) ∙ ap (map (λ (m : Msg). m.packet)) kept ∙ sym (packets_of rs 0 L) in
      let many : length A ≡ length given = ap length (packets_of rs 0 L) ∙ length-map (messages_from rs 0 L) (λ (m : Msg). m.packet) ∙ sym (ap length k.given_is) in
      let more : AreReceipts cap limit (L ++ p ∷ []) A 1 0 0 rs =
      subst (λ (B : List Packet). AreReceipts cap limit (L ++ p ∷ []) B 1 0 0 rs) (append-nil A)
      (are_more cap limit L (p ∷ []) A [] 1 0 0 rs (λ u x e. (let y = k.before u x e in omega (arith, y, many))) k.receipts) in
      let A_is : A ≡ map (λ (m : Msg). m.packet) given = packets_of rs 0 L ∙ ap (map (λ (m : Msg). m.packet)) (sym k.given_is) in
      let new : IsReceipt cap limit (L ++ p ∷ []) A (1 + length rs) r = record {
        number = omega arith;
        packet = p;
        at = get_last L p;
        before = omega (arith, k.count);
        bytes = sym (waiting_bytes given A q.head A_is);
        full = full_so cap limit given q.head p r refl refl refl full;
      } in
      record {
        given_is = k.given_is ∙ sym kept;
        receipts = subst (λ (B : List Packet). AreReceipts cap limit (L ++ p ∷ []) B 1 0 0 qs) (sym accepted)
            (are_push cap limit (L ++ p ∷ []) A 1 0 0 rs r more new (omega arith) (omega arith)
            (λ u x e. (index_within cap limit L A 1 0 0 rs u x k.receipts e, (let h = heads_at rs refusals u x k.heads e in let le = heads u h.0 h.1 in omega (arith, le, h.2)))));
        heads = heads_push rs refusals r q k.heads refl;
        count = omega (arith, k.count, length-append rs (r ∷ []), length-append L (p ∷ []));
        before = λ v x e. elim (get_cases rs r v x e) [ inl a ↦ k.before v x a | inr b ↦ rw b (omega arith) ];
      });
}

-- whether a message of that index with that packet is among these
abbrev HasMsg : List Msg → ℕ → Packet → Type 0
HasMsg [] i p = ⊥
HasMsg (m ∷ ms) i p = ((m.index ≡ i) × (m.packet ≡ p)) ⊎ HasMsg ms i p

messages_at : (rs : List ReceiptSide) (n : ℕ) (L : List Packet) (i : ℕ) (p : Packet) → HasMsg (messages_from rs n L) i p
    → (k : ℕ) × (i ≡ n + k) × (slice_get L k ≡ Some p) × (is_named rs i ≡ false)
messages_at rs n [] i p h = absurd h
messages_at rs n (q ∷ L) i p h = by (is_named rs n) refl (λ x. messages_at rs (n + 1) L i p x) h
  where
    later : ((k : ℕ) × (i ≡ (n + 1) + k) × (slice_get L k ≡ Some p) × (is_named rs i ≡ false)) → (k : ℕ) × (i ≡ n + k) × (slice_get (q ∷ L) k ≡ Some p) × (is_named rs i ≡ false)
    later x = (suc x.0, omega (arith, x.1), x.2, x.3)

    by : (b : Bool) → is_named rs n ≡ b → (HasMsg (messages_from rs (n + 1) L) i p → (k : ℕ) × (i ≡ (n + 1) + k) × (slice_get L k ≡ Some p) × (is_named rs i ≡ false))
        → HasMsg (if b then messages_from rs (n + 1) L else message n q ∷ messages_from rs (n + 1) L) i p → (k : ℕ) × (i ≡ n + k) × (slice_get (q ∷ L) k ≡ Some p) × (is_named rs i ≡ false)
    by true e more x = later (more x)
    by false e more (inr x) = later (more x)
    by false e more (inl x) = (0, omega (arith, x.0), rw x.1 refl, subst (λ (j : ℕ). is_named rs j ≡ false) x.0 e)

at_messages : (rs : List ReceiptSide) (n : ℕ) (L : List Packet) (i : ℕ) → n ≤ i → i < n + length L → is_named rs i ≡ false → (p : Packet) × HasMsg (messages_from rs n L) i p
at_messages rs n [] i le lt e = absurd (omega (arith, le, lt))
at_messages rs n (q ∷ L) i le lt e = elim (eq-or-lt_of_le le) [
  | inl same ↦ (let here : is_named rs n ≡ false = subst (λ (j : ℕ). is_named rs j ≡ false) (sym same) e in (q, rw here (inl (same, refl))))
  | inr more ↦ (let x = at_messages rs (n + 1) L i (omega (arith, more)) (omega (arith, lt)) e in (x.0, by (is_named rs n) x.0 x.1))
]
  where
    by : (b : Bool) (p : Packet) → HasMsg (messages_from rs (n + 1) L) i p → HasMsg (if b then messages_from rs (n + 1) L else message n q ∷ messages_from rs (n + 1) L) i p
    by true p x = x
    by false p x = inr x

gives_msg : (T : List Given) (ms : List Msg) (i : ℕ) (p : Packet) → PassedOn T ms → Gives T i p → HasMsg ms i p
gives_msg [] ms i p k g = absurd g
gives_msg (Sent j q ∷ T) [] i p k g = absurd k
gives_msg (Swept j v ∷ T) [] i p k g = absurd k
gives_msg (Sent j q ∷ T) (m ∷ ms) i p k (inl e) = inl (sym k.0 ∙ e.0, sym k.1 ∙ e.1)
gives_msg (Sent j q ∷ T) (m ∷ ms) i p k (inr g) = inr (gives_msg T ms i p k.2 g)
gives_msg (Swept j v ∷ T) (m ∷ ms) i p k g = inr (gives_msg T ms i p k.1 g)

at_msg : (T : List Given) (ms : List Msg) (i : ℕ) → PassedOn T ms → GivesAt T i → (p : Packet) × HasMsg ms i p
at_msg [] ms i k g = absurd g
at_msg (Sent j q ∷ T) [] i k g = absurd k
at_msg (Swept j v ∷ T) [] i k g = absurd k
at_msg (Sent j q ∷ T) (m ∷ ms) i k (inl e) = (m.packet, inl (sym k.0 ∙ e, refl))
at_msg (Sent j q ∷ T) (m ∷ ms) i k (inr g) = (let x = at_msg T ms i k.2 g in (x.0, inr x.1))
at_msg (Swept j v ∷ T) (m ∷ ms) i k (inl e) = (m.packet, inl (sym k.0 ∙ e, refl))
at_msg (Swept j v ∷ T) (m ∷ ms) i k (inr g) = (let x = at_msg T ms i k.1 g in (x.0, inr x.1))

msg_at : (T : List Given) (ms : List Msg) (i : ℕ) (p : Packet) → PassedOn T ms → HasMsg ms i p → GivesAt T i
msg_at [] [] i p k h = absurd h
msg_at [] (m ∷ ms) i p k h = absurd k
msg_at (Sent j q ∷ T) [] i p k h = absurd h
msg_at (Swept j v ∷ T) [] i p k h = absurd h
msg_at (Sent j q ∷ T) (m ∷ ms) i p k (inl e) = inl (k.0 ∙ e.0)
msg_at (Sent j q ∷ T) (m ∷ ms) i p k (inr h) = inr (msg_at T ms i p k.2 h)
msg_at (Swept j v ∷ T) (m ∷ ms) i p k (inl e) = inl (k.0 ∙ e.0)
msg_at (Swept j v ∷ T) (m ∷ ms) i p k (inr h) = inr (msg_at T ms i p k.1 h)

pub lanes_deal : LanesDeal
lanes_deal L given refusals T numbers n k overs saw passed stretches =
    let rs = n.receipts.items in
    let place : (i : ℕ) (p : Packet) → HasMsg given i p → (slice_get L i ≡ Some p) × (is_named rs i ≡ false) =
    λ i p h. (let x = messages_at rs 0 L i p (subst (λ (ms : List Msg). HasMsg ms i p) k.given_is h) in
    let e : x.0 ≡ i = omega (arith, x.1) in
    (subst (λ (j : ℕ). slice_get L j ≡ Some p) e x.2, x.3)) in
    let many : length rs ≡ length refusals = sym (length-map rs (λ (r : ReceiptSide). r.head)) ∙ ap length k.heads ∙ length-map refusals (λ (q : Refusal Msg). q.head) in
    record {
      each = λ i lt e. (let x = at_messages rs 0 L i (omega arith) (omega (arith, lt)) e in msg_at T given i x.0 passed (subst (λ (ms : List Msg). HasMsg ms i x.0) (sym k.given_is) x.1));
      apart = λ i g. (let x = at_msg T given i passed g in let y = place i x.0 x.1 in (slice_get_within L i x.0 y.0, y.1));
      packets = λ i p g. (place i p (gives_msg T given i p passed g)).0;
      receipts = (k.receipts, overs ∙ sym many);
      seen = λ j x at. (let s = saw j x at in
          let le = s.0 in
          (omega (arith, le, many), λ u r e q. (let h = heads_at rs refusals u r k.heads q in let low = s.1 u h.0 e h.1 in omega (arith, low, h.2))));
      stretches = stretches;
      passed = subst (λ (ms : List Msg). PassedOn T ms) k.given_is passed;
    }

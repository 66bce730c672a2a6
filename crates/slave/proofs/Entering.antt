-- Runs with the refusals between them.
use Rattle.std.proofs.Common.{◌≡◌, ℕ, zero, suc, ◌+◌, ◌≤◌, ◌<◌, ◌⊎◌, inl, inr, Bool, true, false, not, ◌==◌, nat_lt, if◌then◌else◌, List, [], ◌∷◌, ◌++◌, length, map, refl, ap, sym, ◌∙◌, subst, arith}
use Rattle.std.specs.Prelude.{filter}
use Rattle.std.proofs.Math.Nat.{eq-or-lt_of_le}
use Rattle.std.proofs.lemmas.List.{append-nil}
use Rattle.std.proofs.lemmas.List.Elements.{filter-append}
use Rattle.std.proofs.lemmas.Bool.{or_cases, or_right, ltb-true, ltb-false}
use Rattle.std.proofs.lemmas.Option.{slice_get_within}
use Rattle.fifo_core.specs.declared.types.Fate.{Fate}
use Rattle.fifo_core.specs.declared.types.Fate.TheVariants as fate
use Rattle.lane.specs.Sides.{ReceiptSide}
use Rattle.rmx_media.specs.declared.packet.Packet.{Packet}
use Rattle.slave.specs.declared.records.Run.{Run}
use Rattle.slave.specs.Runs.{spread, expand, InOrder, Differ}
use Rattle.slave.specs.Accounts.{Has}
use Rattle.slave.specs.Entered.{below, behind, refusal, entered}
use Rattle.slave.specs.LaneAccounts.{Names, is_named, unrefused, AreReceipts}
use Rattle.slave.proofs.Lists.{expand_append}
use Rattle.slave.proofs.Past.{same_number, number_same}
use Rattle.slave.proofs.Covers.{has_left, has_right, has_cases}

-- numbers and indices of the receipts rise
abbrev pub Rising : (number index : ℕ) → List ReceiptSide → Type 0
Rising v n [] = Unit {0}
Rising v n (r ∷ rs) = (v ≤ r.number) × (n ≤ r.index) × Rising (r.number + 1) (r.index + 1) rs

rising_low : (u v m n : ℕ) (rs : List ReceiptSide) → u ≤ v → m ≤ n → Rising v n rs → Rising u m rs
rising_low u v m n [] a b k = tt
rising_low u v m n (r ∷ rs) a b k = (omega (arith, a, k.0), omega (arith, b, k.1), k.2)

pub are_rising : (cap limit : ℕ) (L accepted : List Packet) (v n h : ℕ) (rs : List ReceiptSide) → AreReceipts cap limit L accepted v n h rs → Rising v n rs
are_rising cap limit L accepted v n h [] k = tt
are_rising cap limit L accepted v n h (r ∷ rs) k =
    let e = k.0.number in
    (omega (arith, e), k.1, rw e (are_rising cap limit L accepted (v + 1) (r.index + 1) r.head rs k.3))

pub rising_names : (v n : ℕ) (rs : List ReceiptSide) (u i : ℕ) → Rising v n rs → Names rs u i → (v ≤ u) × (n ≤ i)
rising_names v n [] u i k x = absurd x
rising_names v n (r ∷ rs) u i k (inl e) = (omega (arith, k.0, e.0), omega (arith, k.1, e.1))
rising_names v n (r ∷ rs) u i k (inr x) = (let y = rising_names (r.number + 1) (r.index + 1) rs u i k.2 x in (omega (arith, k.0, y.0), omega (arith, k.1, y.1)))

rising_behind : (v n m : ℕ) (rs : List ReceiptSide) → Rising v n rs → Rising v m (behind m rs)
rising_behind v n m [] k = tt
rising_behind v n m (r ∷ rs) k = by (nat_lt r.index m) refl (rising_low v (r.number + 1) m m (behind m rs) (omega (arith, k.0)) (omega arith) (rising_behind (r.number + 1) (r.index + 1) m rs k.2))
  where
    by : (b : Bool) → nat_lt r.index m ≡ b → Rising v m (behind m rs) → Rising v m (if b then behind m rs else r ∷ rs)
    by true e more = more
    by false e more = (k.0, ltb-false r.index m e, k.2)

rising_below : (v n m : ℕ) (rs : List ReceiptSide) → Rising v n rs → Rising v n (below m rs)
rising_below v n m [] k = tt
rising_below v n m (r ∷ rs) k = by (nat_lt r.index m) (rising_below (r.number + 1) (r.index + 1) m rs k.2)
  where
    by : (b : Bool) → Rising (r.number + 1) (r.index + 1) (below m rs) → Rising v n (if b then r ∷ below m rs else [])
    by true more = (k.0, k.1, more)
    by false more = tt

names_below : (m : ℕ) (rs : List ReceiptSide) (v i : ℕ) → Names (below m rs) v i → Names rs v i × (i < m)
names_below m [] v i x = absurd x
names_below m (r ∷ rs) v i x = by (nat_lt r.index m) refl (names_below m rs v i) x
  where
    by : (b : Bool) → nat_lt r.index m ≡ b → (Names (below m rs) v i → Names rs v i × (i < m)) → Names (if b then r ∷ below m rs else []) v i → Names (r ∷ rs) v i × (i < m)
    by true e more (inl y) = (inl y, (let z = ltb-true r.index m e in omega (arith, z, y.1)))
    by true e more (inr y) = (let z = more y in (inr z.0, z.1))
    by false e more y = absurd y

names_behind : (m : ℕ) (rs : List ReceiptSide) (v i : ℕ) → Names (behind m rs) v i → Names rs v i
names_behind m [] v i x = x
names_behind m (r ∷ rs) v i x = by (nat_lt r.index m) (names_behind m rs v i) x
  where
    by : (b : Bool) → (Names (behind m rs) v i → Names rs v i) → Names (if b then behind m rs else r ∷ rs) v i → Names (r ∷ rs) v i
    by true more y = inr (more y)
    by false more y = y

names_cases : (m : ℕ) (rs : List ReceiptSide) (v i : ℕ) → Names rs v i → Names (below m rs) v i ⊎ Names (behind m rs) v i
names_cases m [] v i x = absurd x
names_cases m (r ∷ rs) v i x = by (nat_lt r.index m) (names_cases m rs v i) x
  where
    by : (b : Bool) → (Names rs v i → Names (below m rs) v i ⊎ Names (behind m rs) v i) → Names (r ∷ rs) v i
        → Names (if b then r ∷ below m rs else []) v i ⊎ Names (if b then behind m rs else r ∷ rs) v i
    by true more (inl y) = inl (inl y)
    by true more (inr y) = elim (more y) [ inl a ↦ inl (inr a) | inr b ↦ inr b ]
    by false more y = inr y

pub names_named : (rs : List ReceiptSide) (v i : ℕ) → Names rs v i → is_named rs i ≡ true
names_named [] v i x = absurd x
names_named (r ∷ rs) v i (inl e) = rw (number_same r.index i e.1) refl
names_named (r ∷ rs) v i (inr x) = or_right (r.index == i) (is_named rs i) (names_named rs v i x)

pub named_names : (rs : List ReceiptSide) (i : ℕ) → is_named rs i ≡ true → (v : ℕ) × Names rs v i
named_names [] i e = absurd (cc e)
named_names (r ∷ rs) i e = elim (or_cases (r.index == i) (is_named rs i) e) [
  | inl a ↦ (r.number, inl (refl, same_number r.index i a))
  | inr b ↦ (let x = named_names rs i b in (x.0, inr x.1))
]

has_refusals : (rs : List ReceiptSide) (v i : ℕ) → Names rs v i → Has (expand (map refusal rs)) i (fate.Refused v)
has_refusals [] v i x = absurd x
has_refusals (r ∷ rs) v i (inl e) = inl (e.1, ap fate.Refused e.0)
has_refusals (r ∷ rs) v i (inr x) = inr (has_refusals rs v i x)

refusals_has : (rs : List ReceiptSide) (i : ℕ) (f : Fate) → Has (expand (map refusal rs)) i f → (v : ℕ) × (f ≡ fate.Refused v) × Names rs v i
refusals_has [] i f x = absurd x
refusals_has (r ∷ rs) i f (inl e) = (r.number, sym e.1, inl (refl, e.0))
refusals_has (r ∷ rs) i f (inr x) = (let y = refusals_has rs i f x in (y.0, y.1, inr y.2))

spread_at : (first count : ℕ) (f : Fate) (i : ℕ) → first ≤ i → i < first + count → Has (spread first count f) i f
spread_at first zero f i le lt = absurd (omega (arith, le, lt))
spread_at first (suc c) f i le lt = elim (eq-or-lt_of_le le) [
  | inl e ↦ inl (e, refl)
  | inr more ↦ inr (spread_at (first + 1) c f i (omega (arith, more)) (omega (arith, lt)))
]

-- the fates are those of the runs and of the refusals
pub entered_has : (xs : List Run) (rs : List ReceiptSide) (i : ℕ) (f : Fate) → Has (expand (entered xs rs)) i f
    → Has (expand xs) i f ⊎ ((v : ℕ) × (f ≡ fate.Refused v) × Names rs v i)
entered_has [] rs i f h = inr (refusals_has rs i f h)
entered_has (x ∷ xs) rs i f h =
    let q = behind x.first rs in
    let rest = behind (x.first + x.count) q in
    let split : Has (expand (map refusal (below x.first rs)) ++ expand (x ∷ entered xs rest)) i f = subst (λ (fs : List (ℕ × Fate)). Has fs i f) (expand_append (map refusal (below x.first rs)) (x ∷ entered xs rest)) h in
    elim (has_cases (expand (map refusal (below x.first rs))) (expand (x ∷ entered xs rest)) i f split) [
      | inl a ↦ (let y = refusals_has (below x.first rs) i f a in inr (y.0, y.1, (names_below x.first rs y.0 i y.2).0))
      | inr b ↦ elim (has_cases (spread x.first x.count x.fate) (expand (entered xs rest)) i f b) [
        | inl c ↦ inl (has_left (spread x.first x.count x.fate) (expand xs) i f c)
        | inr d ↦ elim (entered_has xs rest i f d) [
          | inl c ↦ inl (has_right (spread x.first x.count x.fate) (expand xs) i f c)
          | inr y ↦ inr (y.0, y.1, names_behind x.first rs y.0 i (names_behind (x.first + x.count) q y.0 i y.2))
        ]
      ]
    ]

in_back : (x : Run) (xs : List Run) (ps : List Run) (i : ℕ) (f : Fate) → Has (expand (x ∷ xs)) i f → Has (expand (ps ++ x ∷ xs)) i f
in_back x xs ps i f h = subst (λ (fs : List (ℕ × Fate)). Has fs i f) (sym (expand_append ps (x ∷ xs))) (has_right (expand ps) (expand (x ∷ xs)) i f h)

pub has_entered : (xs : List Run) (rs : List ReceiptSide) (i : ℕ) (f : Fate) → Has (expand xs) i f → Has (expand (entered xs rs)) i f
has_entered [] rs i f h = absurd h
has_entered (x ∷ xs) rs i f h =
    let rest = behind (x.first + x.count) (behind x.first rs) in
    in_back x (entered xs rest) (map refusal (below x.first rs)) i f
    (elim (has_cases (spread x.first x.count x.fate) (expand xs) i f h) [
      | inl c ↦ has_left (spread x.first x.count x.fate) (expand (entered xs rest)) i f c
      | inr d ↦ has_right (spread x.first x.count x.fate) (expand (entered xs rest)) i f (has_entered xs rest i f d)
    ])

-- each refusal is entered, or a run covers its packet
pub named_entered : (n end v m : ℕ) (xs : List Run) (rs : List ReceiptSide) (u i : ℕ) → InOrder n end xs → Rising v m rs → Names rs u i
    → Has (expand (entered xs rs)) i (fate.Refused u) ⊎ ((f : Fate) × Has (expand xs) i f)
named_entered n end v m [] rs u i o k x = inl (has_refusals rs u i x)
named_entered n end v m (y ∷ xs) rs u i o k x =
    let q = behind y.first rs in
    let rest = behind (y.first + y.count) q in
    let later = rising_behind v m y.first rs k in
    elim (names_cases y.first rs u i x) [
      | inl a ↦ inl (subst (λ (fs : List (ℕ × Fate)). Has fs i (fate.Refused u)) (sym (expand_append (map refusal (below y.first rs)) (y ∷ entered xs rest)))
          (has_left (expand (map refusal (below y.first rs))) (expand (y ∷ entered xs rest)) i (fate.Refused u) (has_refusals (below y.first rs) u i a)))
      | inr b ↦ elim (names_cases (y.first + y.count) q u i b) [
        | inl c ↦ (let z = names_below (y.first + y.count) q u i c in
            inr (y.fate, has_left (spread y.first y.count y.fate) (expand xs) i y.fate (spread_at y.first y.count y.fate i (rising_names v y.first q u i later z.0).1 z.1)))
        | inr d ↦ elim (named_entered (y.first + y.count) end v (y.first + y.count) xs rest u i o.2 (rising_behind v y.first (y.first + y.count) q later) d) [
          | inl e ↦ inl (in_back y (entered xs rest) (map refusal (below y.first rs)) i (fate.Refused u) (has_right (spread y.first y.count y.fate) (expand (entered xs rest)) i (fate.Refused u) e))
          | inr e ↦ inr (e.0, has_right (spread y.first y.count y.fate) (expand xs) i e.0 e.1)
        ]
      ]
    ]

-- the order of the runs
order_low : (n m end : ℕ) (rs : List Run) → n ≤ m → InOrder m end rs → InOrder n end rs
order_low n m end [] le k = omega (arith, le, k)
order_low n m end (r ∷ rs) le k = (omega (arith, le, k.0), k.1, k.2)

refusals_then : (v n i m end : ℕ) (rs : List ReceiptSide) (xs : List Run) → Rising v i rs → n ≤ i → n ≤ m → ((u j : ℕ) → Names rs u j → j < m) → InOrder m end xs → InOrder n end (map refusal rs ++ xs)
refusals_then v n i m end [] xs k le lm all o = order_low n m end xs lm o
refusals_then v n i m end (r ∷ rs) xs k le lm all o =
    let lt = all r.number r.index (inl (refl, refl)) in (
      omega (arith, le, k.1),
      omega arith,
      refusals_then (r.number + 1) (r.index + 1) (r.index + 1) m end rs xs k.2 (omega arith) (omega (arith, lt)) (λ u j x. all u j (inr x)) o,
    )

pub entered_order : (n end v : ℕ) (xs : List Run) (rs : List ReceiptSide) → InOrder n end xs → Rising v n rs → ((u j : ℕ) → Names rs u j → j < end) → InOrder n end (entered xs rs)
entered_order n end v [] rs o k all =
    subst (InOrder n end) (append-nil (map refusal rs)) (refusals_then v n n end end rs [] k (omega arith) o all (omega arith))
entered_order n end v (x ∷ xs) rs o k all =
    let q = behind x.first rs in
    let rest = behind (x.first + x.count) q in
    refusals_then v n n x.first end (below x.first rs) (x ∷ entered xs rest) (rising_below v n x.first rs k) (omega arith) o.0
    (λ u j y. (names_below x.first rs u j y).1) (
      omega arith,
      o.1,
      entered_order (x.first + x.count) end v xs rest o.2 (rising_behind v x.first (x.first + x.count) q (rising_behind v n x.first rs k))
          (λ u j y. all u j (names_behind x.first rs u j (names_behind (x.first + x.count) q u j y))),
    )

-- a run differs from the one behind it, where no index lies between
abbrev Apart : Run → List Run → Type 0
Apart r [] = Unit {0}
Apart r (s ∷ ss) = r.first + r.count ≡ s.first → r.fate ≡ s.fate → ⊥

differ_cons : (r : Run) (xs : List Run) → Apart r xs → Differ xs → Differ (r ∷ xs)
differ_cons r [] a d = tt
differ_cons r (x ∷ xs) a d = (a, d)

differ_head : (r : Run) (xs : List Run) → Differ (r ∷ xs) → Apart r xs × Differ xs
differ_head r [] d = (tt, tt)
differ_head r (x ∷ xs) d = (d.0, d.1)

abbrev FirstUnrefused : List Run → Type 0
FirstUnrefused [] = Unit {0}
FirstUnrefused (x ∷ xs) = (v : ℕ) → x.fate ≡ fate.Refused v → ⊥

same_refusal : {u v : ℕ} → fate.Refused u ≡ fate.Refused v → u ≡ v
same_refusal e = cc

refused_differ : (v n : ℕ) (rs : List ReceiptSide) (xs : List Run) → Rising v n rs → FirstUnrefused xs → Differ xs → Differ (map refusal rs ++ xs)
refused_differ v n [] xs k a d = d
refused_differ v n (r ∷ rs) xs k a d = differ_cons (refusal r) (map refusal rs ++ xs) (by rs xs k a) (refused_differ (r.number + 1) (r.index + 1) rs xs k.2 a d)
  where
    by : (rs : List ReceiptSide) (xs : List Run) → Rising v n (r ∷ rs) → FirstUnrefused xs → Apart (refusal r) (map refusal rs ++ xs)
    by [] [] k a = tt
    by [] (x ∷ xs) k a = λ next same. a r.number (sym same)
    by (s ∷ ss) xs k a = λ next same. (let e = same_refusal same in omega (arith, e, k.2.0))

apart_then : (x : Run) (rs : List ReceiptSide) (xs : List Run) → ((v : ℕ) → x.fate ≡ fate.Refused v → ⊥) → Apart x xs → Apart x (map refusal rs ++ xs)
apart_then x [] xs a k = k
apart_then x (r ∷ rs) xs a k = λ next same. a r.number same

pub entered_differ : (n end v m : ℕ) (xs : List Run) (rs : List ReceiptSide) → InOrder n end xs → Differ xs → ((i u : ℕ) → Has (expand xs) i (fate.Refused u) → ⊥) → Rising v m rs
    → Differ (entered xs rs)
entered_differ n end v m [] rs o d none k = subst Differ (append-nil (map refusal rs)) (refused_differ v m rs [] k tt tt)
entered_differ n end v m (x ∷ xs) rs o d none k =
    let q = behind x.first rs in
    let rest = behind (x.first + x.count) q in
    let unrefused_x : (u : ℕ) → x.fate ≡ fate.Refused u → ⊥ = λ u e. none x.first u (has_left (spread x.first x.count x.fate) (expand xs) x.first (fate.Refused u)
    (subst (λ (f : Fate). Has (spread x.first x.count x.fate) x.first f) e (spread_at x.first x.count x.fate x.first (omega arith) (omega (arith, o.1))))) in
    let h = differ_head x xs d in
    let later = rising_behind v x.first (x.first + x.count) q (rising_behind v m x.first rs k) in
    refused_differ v m (below x.first rs) (x ∷ entered xs rest) (rising_below v m x.first rs k) unrefused_x
    (differ_cons x (entered xs rest) (by x xs rest unrefused_x h.0)
    (entered_differ (x.first + x.count) end v (x.first + x.count) xs rest o.2 h.1 (λ i u y. none i u (has_right (spread x.first x.count x.fate) (expand xs) i (fate.Refused u) y)) later))
  where
    by : (x : Run) (xs : List Run) (rest : List ReceiptSide) → ((u : ℕ) → x.fate ≡ fate.Refused u → ⊥) → Apart x xs → Apart x (entered xs rest)
    by x [] rest a k = subst (Apart x) (append-nil (map refusal rest)) (apart_then x rest [] a tt)
    by x (y ∷ ys) rest a k = apart_then x (below y.first rest) (y ∷ entered ys (behind (y.first + y.count) (behind y.first rest))) a k

-- where all these are refused, none is left
pub none_left : (rs : List ReceiptSide) (xs : List (ℕ × Fate)) → ((i : ℕ) (f : Fate) → Has xs i f → is_named rs i ≡ true) → unrefused rs xs ≡ []
none_left rs [] all = refl
none_left rs (x ∷ xs) all = rw (all x.0 x.1 (inl (refl, refl))) (none_left rs xs (λ i f h. all i f (inr h)))

-- the refusals change nothing of the fates of other packets
pub entered_unrefused : (all : List ReceiptSide) (xs : List Run) (rs : List ReceiptSide) → ((v i : ℕ) → Names rs v i → is_named all i ≡ true)
    → unrefused all (expand (entered xs rs)) ≡ unrefused all (expand xs)
entered_unrefused all [] rs named = none_left all (expand (map refusal rs)) (λ i f h. (let y = refusals_has rs i f h in named y.0 i y.2))
entered_unrefused all (x ∷ xs) rs named =
    let q = behind x.first rs in
    let rest = behind (x.first + x.count) q in
    let keep : ℕ × Fate → Bool = λ (y : ℕ × Fate). not (is_named all y.0) in
    let front = map refusal (below x.first rs) in
    let none : filter keep (expand front) ≡ [] =
    none_left all (expand front) (λ i f h. (let y = refusals_has (below x.first rs) i f h in named y.0 i (names_below x.first rs y.0 i y.2).0)) in
    let more : filter keep (expand (entered xs rest)) ≡ filter keep (expand xs) =
    entered_unrefused all xs rest (λ v i y. named v i (names_behind x.first rs v i (names_behind (x.first + x.count) q v i y))) in
    ap (filter keep) (expand_append front (x ∷ entered xs rest)) ∙ filter-append keep (expand front) (expand (x ∷ entered xs rest))
    ∙ ap (λ (ys : List (ℕ × Fate)). ys ++ filter keep (expand (x ∷ entered xs rest))) none
    ∙ filter-append keep (spread x.first x.count x.fate) (expand (entered xs rest))
    ∙ ap (λ (ys : List (ℕ × Fate)). filter keep (spread x.first x.count x.fate) ++ ys) more
    ∙ sym (filter-append keep (spread x.first x.count x.fate) (expand xs))

pub entered_none : (xs : List Run) → entered xs [] ≡ xs
entered_none [] = refl
entered_none (x ∷ xs) = ap (λ (ys : List Run). x ∷ ys) (entered_none xs)

pub entered_empty : (xs : List Run) (rs : List ReceiptSide) → rs ≡ [] → xs ≡ entered xs rs
entered_empty xs rs e = sym (ap (entered xs) e ∙ entered_none xs)

pub is_empty_so : (rs qs : List ReceiptSide) → rs ≡ qs → (b : Bool) → b ≡ true → b ≡ (length rs == 0) → qs ≡ []
is_empty_so [] qs e b t is = sym e
is_empty_so (r ∷ rs) qs e b t is = (let none : suc (length rs) ≡ 0 = same_number (suc (length rs)) 0 (sym is ∙ t) in absurd (omega (arith, none)))

pub receipts_within : (cap limit : ℕ) (L accepted : List Packet) (v n h : ℕ) (rs : List ReceiptSide) (u i : ℕ) → AreReceipts cap limit L accepted v n h rs → Names rs u i → i < length L
receipts_within cap limit L accepted v n h [] u i k x = absurd x
receipts_within cap limit L accepted v n h (r ∷ rs) u i k (inl e) = (let y = slice_get_within L r.index k.0.packet k.0.at in omega (arith, y, e.1))
receipts_within cap limit L accepted v n h (r ∷ rs) u i k (inr x) = receipts_within cap limit L accepted (v + 1) (r.index + 1) r.head rs u i k.3 x

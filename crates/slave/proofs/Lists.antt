-- Lists by their last item, and runs.
use Rattle.std.proofs.Common.{◌≡◌, ℕ, zero, suc, ◌+◌, ◌-◌, ◌≤◌, ◌⊎◌, inl, inr, Bool, true, false, ◌&&◌, if◌then◌else◌, List, [], ◌∷◌, ◌++◌, refl, ap, sym, ◌∙◌, arith, append_assoc, add-zero, zero-add}
use Rattle.std.proofs.lemmas.List.{append-nil}
use Rattle.fifo_core.specs.declared.types.Fate.{Fate}
use Rattle.fifo_core.specs.declared.types.Fate.TheVariants as fate
use Rattle.slave.specs.declared.records.Run.{Run}
use Rattle.slave.specs.Runs.{spread, expand, is_no_memory, gap_count, gap_after, pushed, GoesOn, Joins, InOrder, Differ, AreInOrder}

-- two lists with a last item are equal only where both parts are
pub same_ends : {A : Type 0} (xs ys : List A) (x y : A) → xs ++ x ∷ [] ≡ ys ++ y ∷ [] → (xs ≡ ys) × (x ≡ y)
same_ends [] [] x y e = (refl, cc)
same_ends [] (b ∷ []) x y e = absurd (cc e)
same_ends [] (b ∷ c ∷ ys) x y e = absurd (cc e)
same_ends (a ∷ []) [] x y e = absurd (cc e)
same_ends (a ∷ c ∷ xs) [] x y e = absurd (cc e)
same_ends (a ∷ xs) (b ∷ ys) x y e =
    let head : a ≡ b = cc in
    let tail : xs ++ x ∷ [] ≡ ys ++ y ∷ [] = cc in
    let k = same_ends xs ys x y tail in
    (rw (head, k.0) refl, k.1)

pub expand_append : (rs ss : List Run) → expand (rs ++ ss) ≡ expand rs ++ expand ss
expand_append [] ss = refl
expand_append (r ∷ rs) ss = rw (expand_append rs ss) (sym (append_assoc (spread r.first r.count r.fate) (expand rs) (expand ss)))

pub spread_more : (i n : ℕ) (f : Fate) → spread i (suc n) f ≡ spread i n f ++ (i + n, f) ∷ []
spread_more i zero f = rw add-zero refl
spread_more i (suc n) f =
    let e : (i + 1) + n ≡ i + suc n = omega arith in
    ap (λ (xs : List (ℕ × Fate)). (i, f) ∷ xs) (rw (← e) (spread_more (i + 1) n f))

spread_split : (i n m : ℕ) (f : Fate) → spread i (n + m) f ≡ spread i n f ++ spread (i + n) m f
spread_split i zero m f = rw (zero-add, add-zero) refl
spread_split i (suc n) m f =
    let e : suc n + m ≡ suc (n + m) = omega arith in
    let d : (i + 1) + n ≡ i + suc n = omega arith in
    rw e (ap (λ (xs : List (ℕ × Fate)). (i, f) ∷ xs) (rw (← d) (spread_split (i + 1) n m f)))

-- the last run has the last fate
pub last_run : (n e : ℕ) (rs : List Run) → InOrder n e rs → (rs ≡ [])
    ⊎ ((front : List Run) × (r : Run) × (xs : List (ℕ × Fate)) × (k : ℕ) × (rs ≡ front ++ r ∷ []) × (r.count ≡ suc k) × (expand rs ≡ xs ++ (r.first + k, r.fate) ∷ []))
last_run n e [] o = inl refl
last_run n e (r ∷ rs) o = elim (last_run (r.first + r.count) e rs o.2) [
  | inl none ↦ inr (one_run r r.count refl o.1 rs none)
  | inr k ↦ inr (
    r ∷ k.0,
    k.1,
    spread r.first r.count r.fate ++ k.2,
    k.3,
    ap (λ (qs : List Run). r ∷ qs) k.4,
    k.5,
    ap (λ (ys : List (ℕ × Fate)). spread r.first r.count r.fate ++ ys) k.6 ∙ sym (append_assoc (spread r.first r.count r.fate) k.2 _),
  )
]
  where
    one_run : (r : Run) (c : ℕ) → c ≡ r.count → 1 ≤ r.count → (rs : List Run) → rs ≡ []
        → (front : List Run) × (q : Run) × (xs : List (ℕ × Fate)) × (k : ℕ) × (r ∷ rs ≡ front ++ q ∷ []) × (q.count ≡ suc k) × (expand (r ∷ rs) ≡ xs ++ (q.first + k, q.fate) ∷ [])
    one_run r zero e le rs none = absurd (omega (arith, e, le))
    one_run r (suc k) e le rs none =
        ([], r, spread r.first k r.fate, k, rw none refl, sym e, rw (none, ← e, append-nil) (spread_more r.first k r.fate))

gap_push : (xs : List (ℕ × Fate)) (x : ℕ × Fate) (i : ℕ) (f : Fate) → gap_after (xs ++ x ∷ []) i f ≡ spread (x.0 + 1) (gap_count x.1 f (x.0 + 1) i) f
gap_push [] x i f = refl
gap_push (y ∷ []) x i f = refl
gap_push (y ∷ z ∷ xs) x i f = gap_push (z ∷ xs) x i f

pub no_memory_is : (f : Fate) → is_no_memory f ≡ true → f ≡ fate.NoMemory
no_memory_is (fate.Written s) e = absurd (cc e)
no_memory_is (fate.Refused v) e = absurd (cc e)
no_memory_is (fate.Flushed v) e = absurd (cc e)
no_memory_is fate.KeyWait e = absurd (cc e)
no_memory_is (fate.Lost n) e = absurd (cc e)
no_memory_is (fate.AfterFailure n) e = absurd (cc e)
no_memory_is fate.NoMemory e = refl

pub no_gap : (b : Bool) (d : ℕ) → d ≡ 0 → (if b then d else 0) ≡ 0
no_gap true d e = e
no_gap false d e = refl

-- a run that goes on leaves no packet out
gap_within : (r : Run) (i : ℕ) (f : Fate) → r.fate ≡ f → GoesOn r i f → gap_count r.fate f (r.first + r.count) i ≡ i - (r.first + r.count)
gap_within r i f same (inl next) =
    let d : i - (r.first + r.count) ≡ 0 = omega (arith, next) in
    no_gap (is_no_memory r.fate && is_no_memory f) (i - (r.first + r.count)) d ∙ sym d
gap_within r i f same (inr k) = rw (same, k.0) refl

-- one that doesn't goes on nowhere
gap_apart : (b c : Bool) (r : Run) (i : ℕ) (f : Fate) → b ≡ is_no_memory r.fate → c ≡ is_no_memory f → r.first + r.count ≤ i
    → (r.fate ≡ f → GoesOn r i f → ⊥) → (if b && c then i - (r.first + r.count) else 0) ≡ 0
gap_apart true true r i f before now le apart =
    let x = no_memory_is r.fate (sym before) in
    let y = no_memory_is f (sym now) in
    absurd (apart (x ∙ sym y) (inr (y, le)))
gap_apart true false r i f before now le apart = refl
gap_apart false c r i f before now le apart = refl

in_order_end : (n i : ℕ) (front : List Run) (r : Run) → InOrder n i (front ++ r ∷ []) → (r.first + r.count ≤ i) × (1 ≤ r.count)
in_order_end n i [] r k = (k.2, k.1)
in_order_end n i (q ∷ front) r k = in_order_end (q.first + q.count) i front r k.2

-- a run of its own
pub expand_push : (rs : List Run) (i : ℕ) (f : Fate) → expand (rs ++ record { fate = f; first = i; count = 1 } ∷ []) ≡ expand rs ++ (i, f) ∷ []
expand_push rs i f = expand_append rs _

-- what stands behind the last run
last_gap : (front : List Run) (r : Run) (i : ℕ) (f : Fate) → InOrder 0 i (front ++ r ∷ [])
    → gap_after (expand (front ++ r ∷ [])) i f ≡ spread (r.first + r.count) (gap_count r.fate f (r.first + r.count) i) f
last_gap front r i f order = by r.count refl
  where
    by : (c : ℕ) → c ≡ r.count → gap_after (expand (front ++ r ∷ [])) i f ≡ spread (r.first + r.count) (gap_count r.fate f (r.first + r.count) i) f
    by zero e = (let some = (in_order_end 0 i front r order).1 in absurd (omega (arith, some, e)))
    by (suc k) e =
        let ends : expand (front ++ r ∷ []) ≡ (expand front ++ spread r.first k r.fate) ++ (r.first + k, r.fate) ∷ [] =
        rw (expand_append front (r ∷ []), append-nil, ← e, spread_more r.first k r.fate) (sym (append_assoc (expand front) (spread r.first k r.fate) _)) in
        let d : (r.first + k) + 1 ≡ r.first + r.count = omega (arith, e) in
        rw ends (gap_push (expand front ++ spread r.first k r.fate) (r.first + k, r.fate) i f ∙ rw d refl)

pub pushed_push : (rs front : List Run) (r : Run) (i : ℕ) (f : Fate) → rs ≡ front ++ r ∷ [] → AreInOrder i rs → (Joins rs i f → ⊥)
    → expand (rs ++ record { fate = f; first = i; count = 1 } ∷ []) ≡ pushed (expand rs) i f
pushed_push rs front r i f split k apart =
    let order : InOrder 0 i (front ++ r ∷ []) = rw split at k.0 in
    let le = (in_order_end 0 i front r order).0 in
    let none : gap_count r.fate f (r.first + r.count) i ≡ 0 =
    gap_apart (is_no_memory r.fate) (is_no_memory f) r i f refl refl le (λ same goes. apart (front, r, split, same, goes)) in
    let gap : gap_after (expand rs) i f ≡ [] = rw split (last_gap front r i f order ∙ rw none refl) in
    expand_push rs i f ∙ rw (gap, append-nil) refl

-- the last run goes on
pub expand_join : (old new front : List Run) (r : Run) (i : ℕ) (f : Fate) → old ≡ front ++ r ∷ [] → r.fate ≡ f → GoesOn r i f → AreInOrder i old
    → new ≡ front ++ record { fate = f; first = r.first; count = i - r.first + 1 } ∷ [] → expand new ≡ pushed (expand old) i f
expand_join old new front r i f is_old is_fate goes order is_new =
    let o : InOrder 0 i (front ++ r ∷ []) = rw is_old at order.0 in
    let le = (in_order_end 0 i front r o).0 in
    let d = i - (r.first + r.count) in
    let size : i - r.first + 1 ≡ r.count + suc d = omega (arith, le) in
    let at : (r.first + r.count) + d ≡ i = omega (arith, le) in
    let gap : gap_after (expand old) i f ≡ spread (r.first + r.count) d f = rw is_old (last_gap front r i f o ∙ rw (gap_within r i f is_fate goes) refl) in
    let whole : spread r.first (i - r.first + 1) f ≡ spread r.first r.count f ++ (spread (r.first + r.count) d f ++ (i, f) ∷ []) =
    rw size (spread_split r.first r.count (suc d) f ∙ rw (spread_more (r.first + r.count) d f, at) refl) in
    let before : expand old ≡ expand front ++ spread r.first r.count f = rw (is_old, expand_append front (r ∷ []), append-nil, is_fate) refl in
    let after : expand new ≡ expand front ++ spread r.first (i - r.first + 1) f = rw (is_new, expand_append front (record { fate = f; first = r.first; count = i - r.first + 1 } ∷ []), append-nil) refl in
    after ∙ rw (whole, gap, before) (simp append_assoc)

order_push : (n i : ℕ) (rs : List Run) (r : Run) → InOrder n i rs → r.first ≡ i → r.count ≡ 1 → InOrder n (i + 1) (rs ++ r ∷ [])
order_push n i [] r k first count = (omega (arith, k, first), omega (arith, count), omega (arith, first, count))
order_push n i (q ∷ rs) r k first count = (k.0, k.1, order_push (q.first + q.count) i rs r k.2 first count)

order_join : (n i : ℕ) (front : List Run) (r s : Run) → InOrder n i (front ++ r ∷ []) → s.first + s.count ≡ i + 1 → s.first ≡ r.first → 1 ≤ s.count
    → InOrder n (i + 1) (front ++ s ∷ [])
order_join n i [] r s k next first count = (omega (arith, k.0, first), count, omega (arith, next))
order_join n i (q ∷ front) r s k next first count = (k.0, k.1, order_join (q.first + q.count) i front r s k.2 next first count)

differ_push : (rs : List Run) (i : ℕ) (r : Run) → Differ rs → r.first ≡ i → (Joins rs i r.fate → ⊥) → Differ (rs ++ r ∷ [])
differ_push [] i r d first apart = tt
differ_push (q ∷ []) i r d first apart = (λ next same. apart ([], q, refl, same, inl (next ∙ first)), tt)
differ_push (q ∷ s ∷ rs) i r d first apart =
    (d.0, differ_push (s ∷ rs) i r d.1 first (λ j. apart (q ∷ j.0, j.1, ap (λ (xs : List Run). q ∷ xs) j.2, j.3, j.4)))

differ_join : (front : List Run) (r s : Run) → Differ (front ++ r ∷ []) → s.first ≡ r.first → s.fate ≡ r.fate → Differ (front ++ s ∷ [])
differ_join [] r s d first same = tt
differ_join (q ∷ []) r s d first same = (λ next other. d.0 (next ∙ first) (other ∙ same), tt)
differ_join (q ∷ t ∷ front) r s d first same = (d.0, differ_join (t ∷ front) r s d.1 first same)

-- the runs stay in order
pub ordered_push : (rs new : List Run) (i : ℕ) (f : Fate) → new ≡ rs ++ record { fate = f; first = i; count = 1 } ∷ [] → (Joins rs i f → ⊥) → AreInOrder i rs → AreInOrder (i + 1) new
ordered_push rs new i f is apart k = rw is (order_push 0 i rs _ k.0 refl refl, differ_push rs i _ k.1 refl apart)

pub ordered_join : (old new front : List Run) (r : Run) (i : ℕ) (f : Fate) → old ≡ front ++ r ∷ [] → r.fate ≡ f → AreInOrder i old
    → new ≡ front ++ record { fate = f; first = r.first; count = i - r.first + 1 } ∷ [] → AreInOrder (i + 1) new
ordered_join old new front r i f is_old is_fate k is_new =
    let order : InOrder 0 i (front ++ r ∷ []) = rw is_old at k.0 in
    let differ : Differ (front ++ r ∷ []) = rw is_old at k.1 in
    let le = (in_order_end 0 i front r order).0 in
    rw is_new (order_join 0 i front r _ order (omega (arith, le)) refl (omega arith), differ_join front r _ differ refl (sym is_fate))

-- a run of packets without memory goes on with every later one
pub joins_later : (rs : List Run) (n i : ℕ) → Joins rs n fate.NoMemory → n ≤ i → Joins rs i fate.NoMemory
joins_later rs n i j le = (j.0, j.1, j.2, j.3, inr (refl, behind j.1 j.4))
  where
    behind : (r : Run) → GoesOn r n fate.NoMemory → r.first + r.count ≤ i
    behind r (inl e) = omega (arith, e, le)
    behind r (inr k) = omega (arith, k.1, le)

-- runs in order are so below a later end
later_end : (n i j : ℕ) (rs : List Run) → InOrder n i rs → i ≤ j → InOrder n j rs
later_end n i j [] k le = omega (arith, k, le)
later_end n i j (r ∷ rs) k le = (k.0, k.1, later_end (r.first + r.count) i j rs k.2 le)

pub order_later : (i j : ℕ) (rs : List Run) → AreInOrder i rs → i ≤ j → AreInOrder j rs
order_later i j rs k le = (later_end 0 i j rs k.0 le, k.1)

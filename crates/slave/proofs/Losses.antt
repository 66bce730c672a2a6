-- How many packets a lane's overflows cost.
use Rattle.std.proofs.Common.{◌≡◌, ℕ, zero, suc, ◌+◌, ◌*◌, ◌≤◌, ◌<◌, ◌⊎◌, inl, inr, Bool, true, false, not, ◌&&◌, ◌==◌, nat_lt, if◌then◌else◌, List, [], ◌∷◌, ◌++◌, length, refl, ap, sym, ◌∙◌, subst, arith}
use Rattle.std.specs.Prelude.{count_by}
use Rattle.std.proofs.lemmas.Bool.Decides.{nat_tests}
use Rattle.std.proofs.lemmas.List.Sums.{sum_by-cons, sum_by-append, count_by-le-length}
use Rattle.std.proofs.Math.Nat.{mul-suc, suc-mul}
use Rattle.std.proofs.lemmas.Bool.{false_from_ne_true}
use Rattle.fifo_core.specs.declared.types.Fate.{Fate}
use Rattle.fifo_core.specs.declared.types.Fate.TheVariants as fate
use Rattle.lane.specs.Sides.{ReceiptSide}
use Rattle.rmx_media.specs.declared.packet.Packet.{Packet}
use Rattle.slave.specs.Runs.{expand}
use Rattle.slave.specs.Accounts.{Has}
use Rattle.slave.specs.LaneAccounts.{Names, is_named, unrefused, AreReceipts, Stretch, is_refused, is_flushed, LossIsBounded}
use Rattle.slave.proofs.Covers.{Above, above_has, order_above}
use Rattle.slave.proofs.Past.{same_number}
use Rattle.slave.proofs.Entering.{Rising, are_rising, rising_names, named_names}

-- the fates that pass a test
abbrev count : (Fate → Bool) → List (ℕ × Fate) → ℕ
count p xs = count_by (λ (x : ℕ × Fate). p x.1) xs

count_cons : (p : Fate → Bool) (x : ℕ × Fate) (xs : List (ℕ × Fate)) → count p (x ∷ xs) ≡ (if p x.1 then 1 else 0) + count p xs
count_cons p x xs = sum_by-cons (λ (y : ℕ × Fate). if p y.1 then 1 else 0) x xs

count_append : (p : Fate → Bool) (xs ys : List (ℕ × Fate)) → count p (xs ++ ys) ≡ count p xs + count p ys
count_append p xs ys = sum_by-append (λ (y : ℕ × Fate). if p y.1 then 1 else 0) xs ys

count_zero : (p : Fate → Bool) (xs : List (ℕ × Fate)) → ((i : ℕ) (f : Fate) → Has xs i f → p f ≡ false) → count p xs ≡ 0
count_zero p [] all = refl
count_zero p (x ∷ xs) all =
    let here = all x.0 x.1 (inl (refl, refl)) in
    let rest = count_zero p xs (λ i f h. all i f (inr h)) in
    count_cons p x xs ∙ rw (here, rest) refl

at_most : (b c : Bool) → (b ≡ true → c ≡ true) → (if b then 1 else 0) ≤ (if c then 1 else 0)
at_most true true k = omega arith
at_most true false k = (let x : false ≡ true = k refl in absurd (cc x))
at_most false true k = omega arith
at_most false false k = omega arith

count_more : (p q : Fate → Bool) (xs : List (ℕ × Fate)) → ((i : ℕ) (f : Fate) → Has xs i f → p f ≡ true → q f ≡ true) → count p xs ≤ count q xs
count_more p q [] all = omega arith
count_more p q (x ∷ xs) all =
    let here = at_most (p x.1) (q x.1) (all x.0 x.1 (inl (refl, refl))) in
    let rest = count_more p q xs (λ i f h. all i f (inr h)) in
    omega (arith, count_cons p x xs, count_cons q x xs, here, rest)

count_sum : (p q r : Fate → Bool) (xs : List (ℕ × Fate)) → ((f : Fate) → (if p f then 1 else 0) ≡ (if q f then 1 else 0) + (if r f then 1 else 0)) → count p xs ≡ count q xs + count r xs
count_sum p q r [] each = refl
count_sum p q r (x ∷ xs) each =
    let here = each x.1 in
    let rest = count_sum p q r xs each in
    omega (arith, count_cons p x xs, count_cons q x xs, count_cons r x xs, here, rest)

-- of packets with one index there is at most one
count_once : (p : Fate → Bool) (n i : ℕ) (xs : List (ℕ × Fate)) → Above n xs → ((j : ℕ) (f : Fate) → Has xs j f → p f ≡ true → j ≡ i) → count p xs ≤ 1
count_once p n i [] k all = omega arith
count_once p n i (x ∷ xs) k all = by (p x.1) refl (count_once p (x.0 + 1) i xs k.1 (λ j f h. all j f (inr h)))
  where
    is_not : (b : Bool) → (b ≡ true → ⊥) → b ≡ false
    is_not true f = absurd (f refl)
    is_not false f = refl

    by : (b : Bool) → p x.1 ≡ b → count p xs ≤ 1 → count p (x ∷ xs) ≤ 1
    by true e more =
        let here = all x.0 x.1 (inl (refl, refl)) e in
        let rest = count_zero p xs (λ j f h. is_not (p f) (λ t. (let there = all j f (inr h) t in let low = above_has (x.0 + 1) xs j f k.1 h in omega (arith, here, there, low)))) in
        let one : count p (x ∷ xs) ≡ 1 + count p xs = count_cons p x xs ∙ rw e refl in
        omega (arith, one, rest)
    by false e more = (let none : count p (x ∷ xs) ≡ 0 + count p xs = count_cons p x xs ∙ rw e refl in omega (arith, none, more))

-- what is not refused is counted among the others
count_kept : (p : Fate → Bool) (rs : List ReceiptSide) (xs : List (ℕ × Fate)) → ((i : ℕ) (f : Fate) → Has xs i f → p f ≡ true → is_named rs i ≡ false) → count p xs ≤ count p (unrefused rs xs)
count_kept p rs [] all = omega arith
count_kept p rs (x ∷ xs) all = by (is_named rs x.0) (p x.1) refl refl (count_kept p rs xs (λ i f h. all i f (inr h)))
  where
    by : (b c : Bool) → is_named rs x.0 ≡ b → p x.1 ≡ c → count p xs ≤ count p (unrefused rs xs)
        → count p (x ∷ xs) ≤ count p (if not b then x ∷ unrefused rs xs else unrefused rs xs)
    by false c e t more = omega (arith, count_cons p x xs, count_cons p x (unrefused rs xs), more)
    by true true e t more = (let none : true ≡ false = sym e ∙ all x.0 x.1 (inl (refl, refl)) t in absurd (cc none))
    by true false e t more = (let none : count p (x ∷ xs) ≡ 0 + count p xs = count_cons p x xs ∙ rw t refl in omega (arith, none, more))

abbrev up_to : ℕ → ℕ → Bool
up_to m k = nat_lt 0 k && nat_lt k (m + 1)

step_bools : (k m : ℕ) (a b c d : Bool) → nat_lt 0 k ≡ a → nat_lt k (suc m + 1) ≡ b → nat_lt k (m + 1) ≡ c → (k == suc m) ≡ d
    → (if a && b then 1 else 0) ≡ (if a && c then 1 else 0) + (if d then 1 else 0)
step_bools k m true true true true p q r s = absurd (grind (arith, nat_tests))
step_bools k m true true true false p q r s = refl
step_bools k m true true false true p q r s = refl
step_bools k m true true false false p q r s = absurd (grind (arith, nat_tests))
step_bools k m true false true d p q r s = absurd (grind (arith, nat_tests))
step_bools k m true false false true p q r s = absurd (grind (arith, nat_tests))
step_bools k m true false false false p q r s = refl
step_bools k m false b c true p q r s = absurd (grind (arith, nat_tests))
step_bools k m false b c false p q r s = refl

none_below : (k : ℕ) → up_to 0 k ≡ false
none_below k = grind (arith, nat_tests)

-- where of each number there are at most so many, there are at most so many times the numbers
count_numbers : (number : Fate → ℕ) (most : ℕ) (xs : List (ℕ × Fate)) → ((v : ℕ) → count (λ f. number f == suc v) xs ≤ most) → (m : ℕ) → count (λ f. up_to m (number f)) xs ≤ most * m
count_numbers number most xs each zero = (let none = count_zero (λ f. up_to 0 (number f)) xs (λ i f h. none_below (number f)) in omega (arith, none))
count_numbers number most xs each (suc m) =
    let before = count_numbers number most xs each m in
    let here = each m in
    let step = count_sum (λ f. up_to (suc m) (number f)) (λ f. up_to m (number f)) (λ f. number f == suc m) xs
    (λ f. step_bools (number f) m (nat_lt 0 (number f)) (nat_lt (number f) (suc m + 1)) (nat_lt (number f) (m + 1)) (number f == suc m) refl refl refl refl) in
    omega (arith, before, here, step, mul-suc most m)

abbrev flush_number : Fate → ℕ
flush_number (fate.Flushed v) = v
flush_number _ = 0

abbrev refusal_number : Fate → ℕ
refusal_number (fate.Refused v) = v
refusal_number _ = 0

is_flush : (f : Fate) (v : ℕ) → (flush_number f == suc v) ≡ true → f ≡ fate.Flushed (suc v)
is_flush (fate.Flushed u) v e = ap fate.Flushed (same_number u (suc v) e)
is_flush (fate.Written s) v e = (let x = same_number 0 (suc v) e in absurd (omega (arith, x)))
is_flush (fate.Refused u) v e = (let x = same_number 0 (suc v) e in absurd (omega (arith, x)))
is_flush fate.KeyWait v e = (let x = same_number 0 (suc v) e in absurd (omega (arith, x)))
is_flush (fate.Lost u) v e = (let x = same_number 0 (suc v) e in absurd (omega (arith, x)))
is_flush (fate.AfterFailure u) v e = (let x = same_number 0 (suc v) e in absurd (omega (arith, x)))
is_flush fate.NoMemory v e = (let x = same_number 0 (suc v) e in absurd (omega (arith, x)))

is_refusal : (f : Fate) (v : ℕ) → (refusal_number f == suc v) ≡ true → f ≡ fate.Refused (suc v)
is_refusal (fate.Refused u) v e = ap fate.Refused (same_number u (suc v) e)
is_refusal (fate.Written s) v e = (let x = same_number 0 (suc v) e in absurd (omega (arith, x)))
is_refusal (fate.Flushed u) v e = (let x = same_number 0 (suc v) e in absurd (omega (arith, x)))
is_refusal fate.KeyWait v e = (let x = same_number 0 (suc v) e in absurd (omega (arith, x)))
is_refusal (fate.Lost u) v e = (let x = same_number 0 (suc v) e in absurd (omega (arith, x)))
is_refusal (fate.AfterFailure u) v e = (let x = same_number 0 (suc v) e in absurd (omega (arith, x)))
is_refusal fate.NoMemory v e = (let x = same_number 0 (suc v) e in absurd (omega (arith, x)))

-- a fate with that number, or none
search_for : (number : Fate → ℕ) (v : ℕ) (xs : List (ℕ × Fate)) → ((i : ℕ) (f : Fate) → Has xs i f → (number f == suc v) ≡ false) ⊎ ((i : ℕ) × (f : Fate) × Has xs i f × ((number f == suc v) ≡ true))
search_for number v [] = inl (λ i f h. absurd h)
search_for number v (x ∷ xs) = by (number x.1 == suc v) refl (search_for number v xs)
  where
    by : (b : Bool) → (number x.1 == suc v) ≡ b → ((i : ℕ) (f : Fate) → Has xs i f → (number f == suc v) ≡ false) ⊎ ((i : ℕ) × (f : Fate) × Has xs i f × ((number f == suc v) ≡ true))
        → ((i : ℕ) (f : Fate) → Has (x ∷ xs) i f → (number f == suc v) ≡ false) ⊎ ((i : ℕ) × (f : Fate) × Has (x ∷ xs) i f × ((number f == suc v) ≡ true))
    by true e more = inr (x.0, x.1, inl (refl, refl), e)
    by false e (inr y) = inr (y.0, y.1, inr y.2, y.3)
    by false e (inl all) = inl none
      where
        none : (i : ℕ) (f : Fate) → Has (x ∷ xs) i f → (number f == suc v) ≡ false
        none i f (inl h) = subst (λ (g : Fate). (number g == suc v) ≡ false) h.1 e
        none i f (inr h) = all i f h

not_at : (f : Fate) (v : ℕ) → (f ≡ fate.Flushed (suc v) → ⊥) → (flush_number f == suc v) ≡ false
not_at f v other = by (flush_number f == suc v) refl
  where
    by : (b : Bool) → (flush_number f == suc v) ≡ b → (flush_number f == suc v) ≡ false
    by true e = absurd (other (is_flush f v e))
    by false e = e

-- of one stretch there are at most cap
stretch_count : (cap v : ℕ) (rs : List ReceiptSide) (xs : List (ℕ × Fate)) → Stretch cap (suc v) rs xs → count (λ f. flush_number f == suc v) xs ≤ cap
stretch_count cap v rs xs s =
    let p : Fate → Bool = λ f. flush_number f == suc v in
    let front = count_zero p s.front (λ i f h. not_at f v (λ e. (let x = s.before i (suc v) (subst (Has s.front i) e h) in omega (arith, x)))) in
    let back = count_zero p s.back (λ i f h. not_at f v (λ e. (let x = s.behind i (suc v) (subst (Has s.back i) e h) in omega (arith, x)))) in
    let mid = count_by-le-length (λ (x : ℕ × Fate). p x.1) s.flushed in
    let all : count p xs ≡ count p s.front + (count p s.flushed + count p s.back) =
    ap (count p) s.split ∙ count_append p s.front (s.flushed ++ s.back) ∙ ap (λ (k : ℕ). count p s.front + k) (count_append p s.flushed s.back) in
    omega (arith, all, front, back, mid, s.few)

names_once : (v n : ℕ) (rs : List ReceiptSide) (u i j : ℕ) → Rising v n rs → Names rs u i → Names rs u j → i ≡ j
names_once v n [] u i j k a b = absurd a
names_once v n (r ∷ rs) u i j k (inl a) (inl b) = sym a.1 ∙ b.1
names_once v n (r ∷ rs) u i j k (inl a) (inr b) = (let x = (rising_names (r.number + 1) (r.index + 1) rs u j k.2 b).0 in absurd (omega (arith, a.0, x)))
names_once v n (r ∷ rs) u i j k (inr a) (inl b) = (let x = (rising_names (r.number + 1) (r.index + 1) rs u i k.2 a).0 in absurd (omega (arith, b.0, x)))
names_once v n (r ∷ rs) u i j k (inr a) (inr b) = names_once (r.number + 1) (r.index + 1) rs u i j k.2 a b

names_number : (cap limit : ℕ) (L accepted : List Packet) (v n h : ℕ) (rs : List ReceiptSide) (u i : ℕ) → AreReceipts cap limit L accepted v n h rs → Names rs u i → (v ≤ u) × (u < v + length rs)
names_number cap limit L accepted v n h [] u i k x = absurd x
names_number cap limit L accepted v n h (r ∷ rs) u i k (inl e) = (let y = k.0.number in (omega (arith, y, e.0), omega (arith, y, e.0)))
names_number cap limit L accepted v n h (r ∷ rs) u i k (inr x) = (let y = names_number cap limit L accepted (v + 1) (r.index + 1) r.head rs u i k.3 x in (omega (arith, y.0), omega (arith, y.1)))

within_numbers : (k m : ℕ) → 1 ≤ k → k ≤ m → up_to m k ≡ true
within_numbers k m low high = grind (arith, nat_tests)

flushed_is : (f : Fate) → is_flushed f ≡ true → (v : ℕ) × (f ≡ fate.Flushed v)
flushed_is (fate.Flushed v) e = (v, refl)
flushed_is (fate.Written s) e = absurd (cc e)
flushed_is (fate.Refused u) e = absurd (cc e)
flushed_is fate.KeyWait e = absurd (cc e)
flushed_is (fate.Lost u) e = absurd (cc e)
flushed_is (fate.AfterFailure u) e = absurd (cc e)
flushed_is fate.NoMemory e = absurd (cc e)

refused_is : (f : Fate) → is_refused f ≡ true → (v : ℕ) × (f ≡ fate.Refused v)
refused_is (fate.Refused v) e = (v, refl)
refused_is (fate.Written s) e = absurd (cc e)
refused_is (fate.Flushed u) e = absurd (cc e)
refused_is fate.KeyWait e = absurd (cc e)
refused_is (fate.Lost u) e = absurd (cc e)
refused_is (fate.AfterFailure u) e = absurd (cc e)
refused_is fate.NoMemory e = absurd (cc e)

unrefused_has : (rs : List ReceiptSide) (xs : List (ℕ × Fate)) (i : ℕ) (f : Fate) → Has (unrefused rs xs) i f → Has xs i f
unrefused_has rs [] i f h = h
unrefused_has rs (x ∷ xs) i f h = by (is_named rs x.0) (unrefused_has rs xs i f) h
  where
    by : (b : Bool) → (Has (unrefused rs xs) i f → Has xs i f) → Has (if not b then x ∷ unrefused rs xs else unrefused rs xs) i f → Has (x ∷ xs) i f
    by false more (inl e) = inl e
    by false more (inr y) = inr (more y)
    by true more y = inr (more y)

pub loss_bounded : LossIsBounded
loss_bounded g o L n e k =
    let rs = n.receipts.items in
    let fs = expand e.fates in
    let us = unrefused rs fs in
    let total = length rs in
    let above = order_above 0 (length L) e.fates k.order.0 in
    let rising = are_rising n.cap n.counts.limit L _ 1 0 0 rs k.receipts.0 in
    -- one refusal a receipt
    let each_refused : (v : ℕ) → count (λ f. refusal_number f == suc v) fs ≤ 1 =
    λ v. elim (search_for refusal_number v fs) [
      | inl none ↦ (let z = count_zero (λ f. refusal_number f == suc v) fs none in omega (arith, z))
      | inr x ↦ count_once (λ f. refusal_number f == suc v) 0 x.0 fs above
          (λ j f h t. names_once 1 0 rs (suc v) j x.0 rising (k.refused j (suc v) (subst (Has fs j) (is_refusal f v t) h)) (k.refused x.0 (suc v) (subst (Has fs x.0) (is_refusal x.1 v x.3) x.2)))
    ] in
    let refusals = count_numbers refusal_number 1 fs each_refused total in
    let are_refused : count is_refused fs ≤ count (λ f. up_to total (refusal_number f)) fs =
    count_more is_refused (λ f. up_to total (refusal_number f)) fs
    (λ i f h t. (let r = refused_is f t in
    let m = names_number n.cap n.counts.limit L _ 1 0 0 rs r.0 i k.receipts.0 (k.refused i r.0 (subst (Has fs i) r.1 h)) in
    subst (λ (x : Fate). up_to total (refusal_number x) ≡ true) (sym r.1) (within_numbers r.0 total m.0 (omega (arith, m.1))))) in
    -- and a stretch
    let each_flushed : (v : ℕ) → count (λ f. flush_number f == suc v) us ≤ n.cap =
    λ v. elim (search_for flush_number v us) [
      | inl none ↦ (let z = count_zero (λ f. flush_number f == suc v) us none in omega (arith, z))
      | inr x ↦ stretch_count n.cap v rs us (k.flushed x.0 (suc v) (unrefused_has rs fs x.0 (fate.Flushed (suc v)) (subst (Has us x.0) (is_flush x.1 v x.3) x.2))).2
    ] in
    let flushes = count_numbers flush_number n.cap us each_flushed total in
    let are_kept : count is_flushed fs ≤ count is_flushed us =
    count_kept is_flushed rs fs (λ i f h t. false_from_ne_true (is_named rs i) (λ named. (let r = flushed_is f t in
    let v = named_names rs i named in
    let there = subst (Has fs i) r.1 h in
    elim (k.entered i v.0 v.1) [
      | inl y ↦ (let z = k.once i (fate.Refused v.0) (fate.Flushed r.0) y there in cc z)
      | inr y ↦ (let z = y.1 (fate.Flushed r.0) there in cc z)
    ]))) in
    let are_flushed : count is_flushed us ≤ count (λ f. up_to total (flush_number f)) us =
    count_more is_flushed (λ f. up_to total (flush_number f)) us
    (λ i f h t. (let r = flushed_is f t in
    let m = k.flushed i r.0 (unrefused_has rs fs i (fate.Flushed r.0) (subst (Has us i) r.1 h)) in
    subst (λ (x : Fate). up_to total (flush_number x) ≡ true) (sym r.1) (within_numbers r.0 total m.0 (omega (arith, m.1, k.receipts.1))))) in
    let more : n.cap + 1 ≡ suc n.cap = omega arith in
    rw more (omega (arith, refusals, are_refused, flushes, are_kept, are_flushed, suc-mul n.cap total))

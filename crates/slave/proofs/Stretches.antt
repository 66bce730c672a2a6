-- Stretches of flushed packets, among what was given and among the fates.
use Rattle.std.proofs.Common.{◌≡◌, ℕ, suc, ◌+◌, ◌≤◌, ◌<◌, ◌⊎◌, inl, inr, Bool, true, false, not, List, [], ◌∷◌, ◌++◌, length, map, slice_get, Some, refl, ap, sym, ◌∙◌, subst, arith, append_assoc}
use Rattle.std.specs.Prelude.{filter}
use Rattle.std.proofs.lemmas.List.{append-nil}
use Rattle.std.proofs.lemmas.List.Elements.{filter-append}
use Rattle.fifo_core.specs.declared.types.Fate.{Fate}
use Rattle.fifo_core.specs.declared.types.Fate.TheVariants as fate
use Rattle.fifo_core.specs.History.{Begun, Tried, Fated, Want, History, fates_of}
use Rattle.fifo_core.specs.State.{Rises}
use Rattle.lane.specs.Sides.{ReceiptSide}
use Rattle.rmx_media.specs.declared.packet.Packet.{Packet}
use Rattle.slave.specs.Given.{Given, Sent, Swept, index_of, Gives}
use Rattle.slave.specs.Runs.{gap_after}
use Rattle.slave.specs.Table.{covered, indices}
use Rattle.slave.specs.Accounts.{Has}
use Rattle.slave.specs.AccountsAll.{GivesAt, SweptAt, MayFlush}
use Rattle.slave.specs.LaneAccounts.{is_named, unrefused, Stretch, SweptStretch}
use Rattle.slave.proofs.Past.{has_split, has_front}
use Rattle.slave.proofs.Covers.{Above, Climbs, above_front, above_back, above_has, above_before, climbs_low, has_left, has_right, has_cases, fates_covered, gap_has, has_index}
use Rattle.slave.proofs.Entering.{none_left}

-- where the gaps are those of refused packets, the fates of the others are those of the history
pub unrefused_fates : (rs : List ReceiptSide) (h : History) (n : ℕ) → Above 0 (covered h) → Rises h n
    → ((j : ℕ) → j < n → (is_named rs j ≡ true) ⊎ ((f : Fate) × Has (fates_of h) j f))
    → ((i : ℕ) (f : Fate) → Has (fates_of h) i f → is_named rs i ≡ false) → unrefused rs (covered h) ≡ fates_of h
unrefused_fates rs [] n a r gaps kept = refl
unrefused_fates rs (Begun x ∷ h) n a r gaps kept = unrefused_fates rs h n a r gaps kept
unrefused_fates rs (Tried s i facts x ∷ h) n a r gaps kept = unrefused_fates rs h n a r gaps kept
unrefused_fates rs (Want ∷ h) n a r gaps kept = unrefused_fates rs h n a r gaps kept
unrefused_fates rs (Fated i f ∷ h) n a r gaps kept =
    let gap = gap_after (covered h) i f in
    let keep : ℕ × Fate → Bool = λ (x : ℕ × Fate). not (is_named rs x.0) in
    let front = above_front 0 (covered h ++ gap) ((i, f) ∷ []) a in
    let here : is_named rs i ≡ false = kept i f (has_right (fates_of h) ((i, f) ∷ []) i f (inl (refl, refl))) in
    let before : unrefused rs (covered h) ≡ fates_of h =
    unrefused_fates rs h i (above_front 0 (covered h) gap front) r.1
    (λ j lt. elim (gaps j (omega (arith, lt, r.0))) [
      | inl e ↦ inl e
      | inr x ↦ elim (has_split (fates_of h) (i, f) j x.0 x.1) [ inl y ↦ inr (x.0, y) | inr y ↦ absurd (omega (arith, y.0, lt)) ]
    ])
    (λ j u x. kept j u (has_front (fates_of h) (i, f) j u x)) in
    let none : filter keep gap ≡ [] =
    none_left rs gap (λ j u x. (let g = gap_has (covered h) i f j u x in
    elim (gaps j (omega (arith, g.1, r.0))) [
      | inl e ↦ e
      | inr y ↦ elim (has_split (fates_of h) (i, f) j y.0 y.1) [
        | inl z ↦ absurd (let lt = above_before 0 (covered h) gap j j y.0 u front (fates_covered h j y.0 z) x in omega (arith, lt))
        | inr z ↦ absurd (omega (arith, z.0, g.1))
      ]
    ])) in
    let last : filter keep ((i, f) ∷ []) ≡ (i, f) ∷ [] = rw here refl in
    filter-append keep (covered h ++ gap) ((i, f) ∷ [])
    ∙ ap (λ (ys : List (ℕ × Fate)). ys ++ filter keep ((i, f) ∷ [])) (filter-append keep (covered h) gap)
    ∙ ap (λ (ys : List (ℕ × Fate)). (filter keep (covered h) ++ ys) ++ filter keep ((i, f) ∷ [])) none
    ∙ ap (λ (ys : List (ℕ × Fate)). ys ++ filter keep ((i, f) ∷ [])) (append-nil (filter keep (covered h)) ∙ before)
    ∙ ap (λ (ys : List (ℕ × Fate)). fates_of h ++ ys) last

-- what was given in two parts
at_back : (A B : List Given) (i : ℕ) → GivesAt B i → GivesAt (A ++ B) i
at_back [] B i g = g
at_back (t ∷ A) B i g = inr (at_back A B i g)

parts_apart : (n : ℕ) (A B : List Given) (i : ℕ) → Climbs n (A ++ B) → GivesAt A i → GivesAt B i → ⊥
parts_apart n [] B i k a b = a
parts_apart n (t ∷ A) B i k (inl e) b = (let x = climbs_low (index_of t + 1) (A ++ B) i k.1 (at_back A B i b) in omega (arith, e, x))
parts_apart n (t ∷ A) B i k (inr a) b = parts_apart (index_of t + 1) A B i k.1 a b

swept_at : (T : List Given) (i v : ℕ) → SweptAt T i v → GivesAt T i
swept_at [] i v s = absurd s
swept_at (Sent j p ∷ T) i v s = inr (swept_at T i v s)
swept_at (Swept j n ∷ T) i v (inl e) = inl e.0
swept_at (Swept j n ∷ T) i v (inr s) = inr (swept_at T i v s)

pub swept_cases : (A B : List Given) (i v : ℕ) → SweptAt (A ++ B) i v → SweptAt A i v ⊎ SweptAt B i v
swept_cases [] B i v s = inr s
swept_cases (Sent j p ∷ A) B i v s = swept_cases A B i v s
swept_cases (Swept j n ∷ A) B i v (inl e) = inl (inl e)
swept_cases (Swept j n ∷ A) B i v (inr s) = elim (swept_cases A B i v s) [ inl a ↦ inl (inr a) | inr b ↦ inr b ]

swept_left : (A B : List Given) (i v : ℕ) → SweptAt A i v → SweptAt (A ++ B) i v
swept_left [] B i v s = absurd s
swept_left (Sent j p ∷ A) B i v s = swept_left A B i v s
swept_left (Swept j n ∷ A) B i v (inl e) = inl e
swept_left (Swept j n ∷ A) B i v (inr s) = inr (swept_left A B i v s)

swept_right : (A B : List Given) (i v : ℕ) → SweptAt B i v → SweptAt (A ++ B) i v
swept_right [] B i v s = s
swept_right (Sent j p ∷ A) B i v s = swept_right A B i v s
swept_right (Swept j n ∷ A) B i v s = inr (swept_right A B i v s)

pub given_cases : (T : List Given) (i : ℕ) → GivesAt T i → ((p : Packet) × Gives T i p) ⊎ ((v : ℕ) × SweptAt T i v)
given_cases [] i g = absurd g
given_cases (Sent j p ∷ T) i (inl e) = inl (p, inl (e, refl))
given_cases (Sent j p ∷ T) i (inr g) = elim (given_cases T i g) [ inl a ↦ inl (a.0, inr a.1) | inr b ↦ inr b ]
given_cases (Swept j n ∷ T) i (inl e) = inr (n, inl (e, refl))
given_cases (Swept j n ∷ T) i (inr g) = elim (given_cases T i g) [ inl a ↦ inl a | inr b ↦ inr (b.0, inr b.1) ]

-- the fates of two parts of what was given
parts : (A B : List Given) (xs : List (ℕ × Fate)) → indices xs ≡ map index_of (A ++ B)
    → (ys : List (ℕ × Fate)) × (zs : List (ℕ × Fate)) × (xs ≡ ys ++ zs) × (indices ys ≡ map index_of A) × (indices zs ≡ map index_of B) × (length ys ≡ length A)
parts [] B xs e = ([], xs, refl, refl, e, refl)
parts (t ∷ A) B [] e = absurd (cc e)
parts (t ∷ A) B (x ∷ xs) e =
    let head : x.0 ≡ index_of t = cc in
    let tail : indices xs ≡ map index_of (A ++ B) = cc in
    let k = parts A B xs tail in
    (x ∷ k.0, k.1, ap (λ (ws : List (ℕ × Fate)). x ∷ ws) k.2, rw (head, k.3) refl, k.4, ap suc k.5)

no_flush : (v i u : ℕ) (f : Fate) → MayFlush v f → (f ≡ fate.Flushed v → ⊥) → f ≡ fate.Flushed u → ⊥
no_flush v i u f (inl e) other same = other e
no_flush v i u f (inr (inl e)) other same = (let x : fate.AfterFailure e.0 ≡ fate.Flushed u = sym e.1 ∙ same in cc x)
no_flush v i u f (inr (inr e)) other same = (let x : fate.NoMemory ≡ fate.Flushed u = sym e ∙ same in cc x)

-- in a stretch those that were not spared come last
cut : (v n : ℕ) (xs : List (ℕ × Fate)) → Above n xs → ((i : ℕ) (f : Fate) → Has xs i f → MayFlush v f)
    → ((i j : ℕ) (f g : Fate) → i < j → Has xs i f → Has xs j g → (f ≡ fate.Flushed v → ⊥) → g ≡ fate.Flushed v → ⊥)
    → (ys : List (ℕ × Fate)) × (zs : List (ℕ × Fate)) × (xs ≡ ys ++ zs) × ((i : ℕ) (f : Fate) → Has ys i f → f ≡ fate.Flushed v) × ((i u : ℕ) → Has zs i (fate.Flushed u) → ⊥) × (length ys ≤ length xs)
cut v n [] a may stays = ([], [], refl, λ i f h. absurd h, λ i u h. h, omega arith)
cut v n (x ∷ xs) a may stays = elim (may x.0 x.1 (inl (refl, refl))) [
  | inl e ↦ (let k = cut v (x.0 + 1) xs a.1 (λ i f h. may i f (inr h)) (λ i j f g lt p q. stays i j f g lt (inr p) (inr q)) in
      (x ∷ k.0, k.1, ap (λ (ws : List (ℕ × Fate)). x ∷ ws) k.2, all k.0 e k.3, k.4, omega (arith, k.5)))
  | inr e ↦ (let other : x.1 ≡ fate.Flushed v → ⊥ = λ same. no_flush v x.0 v x.1 (inr e) (λ s. unlike x.1 e s) same in
      ([], x ∷ xs, refl, λ i f h. absurd h, none other, omega arith))
]
  where
    unlike : (f : Fate) → ((m : ℕ) × (f ≡ fate.AfterFailure m)) ⊎ (f ≡ fate.NoMemory) → f ≡ fate.Flushed v → ⊥
    unlike f (inl e) same = (let y : fate.AfterFailure e.0 ≡ fate.Flushed v = sym e.1 ∙ same in cc y)
    unlike f (inr e) same = (let y : fate.NoMemory ≡ fate.Flushed v = sym e ∙ same in cc y)

    all : (ys : List (ℕ × Fate)) → x.1 ≡ fate.Flushed v → ((i : ℕ) (f : Fate) → Has ys i f → f ≡ fate.Flushed v) → (i : ℕ) (f : Fate) → Has (x ∷ ys) i f → f ≡ fate.Flushed v
    all ys e more i f (inl h) = sym h.1 ∙ e
    all ys e more i f (inr h) = more i f h

    flushed_number : (u : ℕ) → MayFlush v (fate.Flushed u) → u ≡ v
    flushed_number u (inl e) = (let y : u ≡ v = cc in y)
    flushed_number u (inr (inl e)) = (let y = e.1 in absurd (cc y))
    flushed_number u (inr (inr e)) = absurd (cc e)

    none : (x.1 ≡ fate.Flushed v → ⊥) → (i u : ℕ) → Has (x ∷ xs) i (fate.Flushed u) → ⊥
    none other i u (inl h) = (let y = flushed_number u (may i (fate.Flushed u) (inl h)) in other (h.1 ∙ ap fate.Flushed y))
    none other i u (inr h) = (let y = flushed_number u (may i (fate.Flushed u) (inr h)) in
        let lt = above_has (x.0 + 1) xs i (fate.Flushed u) a.1 h in
        stays x.0 i x.1 (fate.Flushed u) (omega (arith, lt)) (inl (refl, refl)) (inr h) other (ap fate.Flushed y))

-- a stretch of what was given is one of the fates
pub stretch_of : (cap v : ℕ) (numbers : List (ℕ × ℕ)) (rs : List ReceiptSide) (T : List Given) (W : List (ℕ × Fate)) → Climbs 0 T → Above 0 W → indices W ≡ map index_of T
    → ((i u : ℕ) → Has W i (fate.Flushed u) → SweptAt T i u)
    → ((i u : ℕ) (f : Fate) → SweptAt T i u → Has W i f → MayFlush u f)
    → ((i j u : ℕ) (f g : Fate) → i < j → Has W i f → Has W j g → MayFlush u f → (f ≡ fate.Flushed u → ⊥) → g ≡ fate.Flushed u → ⊥)
    → ((j : ℕ) (x : ℕ × ℕ) → slice_get numbers j ≡ Some x → (u : ℕ) (r : ReceiptSide) → x.0 ≡ u + 1 → slice_get rs u ≡ Some r → r.head ≤ x.1)
    → SweptStretch cap numbers v T → Stretch cap v rs W
stretch_of cap v numbers rs T W climbs above same flushed may stays seen s =
    let A = s.front in
    let M = s.swept in
    let B = s.back in
    let climbing : Climbs 0 (A ++ (M ++ B)) = subst (Climbs 0) s.split climbs in
    let one = parts A (M ++ B) W (same ∙ ap (map index_of) s.split) in
    let two = parts M B one.1 one.4 in
    let mid = two.0 in
    let end = two.1 in
    let in_w : (i : ℕ) (f : Fate) → Has (one.0 ++ one.1) i f → Has W i f = λ i f h. subst (λ (xs : List (ℕ × Fate)). Has xs i f) (sym one.2) h in
    let in_mid : (i : ℕ) (f : Fate) → Has mid i f → Has W i f =
    λ i f h. in_w i f (has_right one.0 one.1 i f (subst (λ (xs : List (ℕ × Fate)). Has xs i f) (sym two.2) (has_left mid end i f h))) in
    let in_end : (i : ℕ) (f : Fate) → Has end i f → Has W i f =
    λ i f h. in_w i f (has_right one.0 one.1 i f (subst (λ (xs : List (ℕ × Fate)). Has xs i f) (sym two.2) (has_right mid end i f h))) in
    let at : (i u : ℕ) → SweptAt T i u → SweptAt (A ++ (M ++ B)) i u = λ i u x. subst (λ (ts : List Given). SweptAt ts i u) s.split x in
    let mid_swept : (i : ℕ) (f : Fate) → Has mid i f → SweptAt T i v =
    λ i f h. (let u = by M i (has_index mid M i f two.3 h) s.only in
    let v_is = s.all i u.0 u.1 in
    subst (λ (ts : List Given). SweptAt ts i v) (sym s.split) (swept_right A (M ++ B) i v (swept_left M B i v (subst (SweptAt M i) v_is u.1)))) in
    let above_rest : Above 0 one.1 = above_back 0 one.0 one.1 (subst (Above 0) one.2 above) in
    let c = cut v 0 mid (above_front 0 mid end (subst (Above 0) two.2 above_rest))
    (λ i f h. may i v f (mid_swept i f h) (in_mid i f h))
    (λ i j f g lt p q other is. stays i j v f g lt (in_mid i f p) (in_mid j g q) (may i v f (mid_swept i f p) (in_mid i f p)) other is) in
    record {
      front = one.0;
      flushed = c.0;
      back = c.1 ++ end;
      split = one.2 ∙ ap (λ (xs : List (ℕ × Fate)). one.0 ++ xs) (two.2 ∙ ap (λ (xs : List (ℕ × Fate)). xs ++ end) c.2 ∙ append_assoc c.0 c.1 end);
      few = omega (arith, c.5, two.5, s.few);
      all = c.3;
      before = λ i u h. elim (swept_cases A (M ++ B) i u (at i u (flushed i u (in_w i (fate.Flushed u) (has_left one.0 one.1 i (fate.Flushed u) h))))) [
        | inl x ↦ s.before i u x
        | inr x ↦ absurd (parts_apart 0 A (M ++ B) i climbing (has_index one.0 A i (fate.Flushed u) one.3 h) (swept_at (M ++ B) i u x))
      ];
      behind = λ i u h. elim (has_cases c.1 end i (fate.Flushed u) h) [
        | inl x ↦ absurd (c.4 i u x)
        | inr x ↦ (let g = has_index end B i (fate.Flushed u) two.4 x in
            elim (swept_cases A (M ++ B) i u (at i u (flushed i u (in_end i (fate.Flushed u) x)))) [
              | inl y ↦ absurd (parts_apart 0 A (M ++ B) i climbing (swept_at A i u y) (at_back M B i g))
              | inr y ↦ elim (swept_cases M B i u y) [
                | inl z ↦ absurd (parts_apart (later A 0) M B i (climbs_back 0 A (M ++ B) climbing) (swept_at M i u z) g)
                | inr z ↦ s.behind i u z
              ]
            ])
      ];
      head = λ u r e g. (let x = seen s.place (v, length A) s.seen u r e g in omega (arith, x, one.5));
    }
  where
    by : (M : List Given) (i : ℕ) → GivesAt M i → ((i : ℕ) (p : Packet) → Gives M i p → ⊥) → (u : ℕ) × SweptAt M i u
    by M i g only = elim (given_cases M i g) [ inl a ↦ absurd (only i a.0 a.1) | inr b ↦ b ]

    later : List Given → ℕ → ℕ
    later [] n = n
    later (t ∷ ts) n = later ts (index_of t + 1)

    climbs_back : (n : ℕ) (A B : List Given) → Climbs n (A ++ B) → Climbs (later A n) B
    climbs_back n [] B k = k
    climbs_back n (t ∷ A) B k = climbs_back (index_of t + 1) A B k.1

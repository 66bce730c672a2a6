-- Fates in order of their indices, and what was given in that order.
use Rattle.std.proofs.Common.{◌≡◌, ℕ, zero, suc, ◌+◌, ◌-◌, ◌≤◌, ◌<◌, ◌⊎◌, inl, inr, Bool, true, false, ◌&&◌, if◌then◌else◌, List, [], ◌∷◌, ◌++◌, map, refl, sym, ◌∙◌, subst, arith}
use Rattle.std.proofs.lemmas.Bool.{and_parts}
use Rattle.fifo_core.specs.declared.types.PacketFacts.{PacketFacts}
use Rattle.fifo_core.specs.declared.types.Fate.{Fate}
use Rattle.fifo_core.specs.declared.types.Fate.TheVariants as fate
use Rattle.fifo_core.specs.History.{Begun, Tried, Fated, Want, History, fates_of}
use Rattle.fifo_core.specs.State.{Rises}
use Rattle.fifo_core.specs.Follows.{Comes, Flushes}
use Rattle.fifo_core.specs.Causes.{HasTurn, InTurn, turn_index}
use Rattle.rmx_media.specs.declared.packet.Packet.{Packet}
use Rattle.slave.specs.declared.records.Run.{Run}
use Rattle.slave.specs.Origin.{Origin, facts_of}
use Rattle.slave.specs.Given.{Given, Sent, Swept, index_of, turn_of, Gives}
use Rattle.slave.specs.Runs.{spread, expand, is_no_memory, gap_count, gap_after, InOrder}
use Rattle.slave.specs.Table.{covered, indices}
use Rattle.slave.specs.Accounts.{Has}
use Rattle.slave.specs.AccountsAll.{GivesAt, SweptAt}
use Rattle.slave.proofs.Lists.{no_memory_is}
use Rattle.slave.proofs.Past.{has_split, has_front, rises_within}

pub has_left : (xs ys : List (ℕ × Fate)) (i : ℕ) (f : Fate) → Has xs i f → Has (xs ++ ys) i f
has_left [] ys i f h = absurd h
has_left (x ∷ xs) ys i f (inl e) = inl e
has_left (x ∷ xs) ys i f (inr h) = inr (has_left xs ys i f h)

pub has_right : (xs ys : List (ℕ × Fate)) (i : ℕ) (f : Fate) → Has ys i f → Has (xs ++ ys) i f
has_right [] ys i f h = h
has_right (x ∷ xs) ys i f h = inr (has_right xs ys i f h)

pub has_cases : (xs ys : List (ℕ × Fate)) (i : ℕ) (f : Fate) → Has (xs ++ ys) i f → Has xs i f ⊎ Has ys i f
has_cases [] ys i f h = inr h
has_cases (x ∷ xs) ys i f (inl e) = inl (inl e)
has_cases (x ∷ xs) ys i f (inr h) = elim (has_cases xs ys i f h) [ inl a ↦ inl (inr a) | inr b ↦ inr b ]

-- the indices rise, from n on
abbrev pub Above : ℕ → List (ℕ × Fate) → Type 0
Above n [] = Unit {0}
Above n (x ∷ xs) = (n ≤ x.0) × Above (x.0 + 1) xs

pub above_low : (n m : ℕ) (xs : List (ℕ × Fate)) → n ≤ m → Above m xs → Above n xs
above_low n m [] le k = tt
above_low n m (x ∷ xs) le k = (omega (arith, le, k.0), k.1)

spread_above : (first count : ℕ) (f : Fate) (n : ℕ) (rest : List (ℕ × Fate)) → n ≤ first → Above (first + count) rest → Above n (spread first count f ++ rest)
spread_above first zero f n rest le k = above_low n (first + zero) rest (omega (arith, le)) k
spread_above first (suc c) f n rest le k =
    let e : first + suc c ≡ (first + 1) + c = omega arith in
    (le, spread_above (first + 1) c f (first + 1) rest (omega arith) (subst (λ (m : ℕ). Above m rest) e k))

-- runs in order have fates in order
pub order_above : (n end : ℕ) (rs : List Run) → InOrder n end rs → Above n (expand rs)
order_above n end [] k = tt
order_above n end (r ∷ rs) k = spread_above r.first r.count r.fate n (expand rs) k.0 (order_above (r.first + r.count) end rs k.2)

pub above_front : (n : ℕ) (xs ys : List (ℕ × Fate)) → Above n (xs ++ ys) → Above n xs
above_front n [] ys k = tt
above_front n (x ∷ xs) ys k = (k.0, above_front (x.0 + 1) xs ys k.1)

pub above_back : (n : ℕ) (xs ys : List (ℕ × Fate)) → Above n (xs ++ ys) → Above n ys
above_back n [] ys k = k
above_back n (x ∷ xs) ys k = above_low n (x.0 + 1) ys (omega (arith, k.0)) (above_back (x.0 + 1) xs ys k.1)

pub above_has : (n : ℕ) (xs : List (ℕ × Fate)) (i : ℕ) (f : Fate) → Above n xs → Has xs i f → n ≤ i
above_has n [] i f k h = absurd h
above_has n (x ∷ xs) i f k (inl e) = omega (arith, k.0, e.0)
above_has n (x ∷ xs) i f k (inr h) = (let r = above_has (x.0 + 1) xs i f k.1 h in omega (arith, k.0, r))

pub above_once : (n : ℕ) (xs : List (ℕ × Fate)) (i : ℕ) (f g : Fate) → Above n xs → Has xs i f → Has xs i g → f ≡ g
above_once n [] i f g k a b = absurd a
above_once n (x ∷ xs) i f g k (inl a) (inl b) = sym a.1 ∙ b.1
above_once n (x ∷ xs) i f g k (inl a) (inr b) = (let r = above_has (x.0 + 1) xs i g k.1 b in absurd (omega (arith, a.0, r)))
above_once n (x ∷ xs) i f g k (inr a) (inl b) = (let r = above_has (x.0 + 1) xs i f k.1 a in absurd (omega (arith, b.0, r)))
above_once n (x ∷ xs) i f g k (inr a) (inr b) = above_once (x.0 + 1) xs i f g k.1 a b

-- what comes before has a lower index
pub above_before : (n : ℕ) (xs ys : List (ℕ × Fate)) (i j : ℕ) (f g : Fate) → Above n (xs ++ ys) → Has xs i f → Has ys j g → i < j
above_before n [] ys i j f g k a b = absurd a
above_before n (x ∷ xs) ys i j f g k (inl a) b = (let r = above_has (x.0 + 1) (xs ++ ys) j g k.1 (has_right xs ys j g b) in omega (arith, a.0, r))
above_before n (x ∷ xs) ys i j f g k (inr a) b = above_before (x.0 + 1) xs ys i j f g k.1 a b

above_push : (n : ℕ) (xs : List (ℕ × Fate)) (y : ℕ × Fate) → Above n xs → n ≤ y.0 → ((i : ℕ) (f : Fate) → Has xs i f → i < y.0) → Above n (xs ++ y ∷ [])
above_push n [] y k le below = (le, tt)
above_push n (x ∷ xs) y k le below =
    let b = below x.0 x.1 (inl (refl, refl)) in
    (k.0, above_push (x.0 + 1) xs y k.1 (omega (arith, b)) (λ i f h. below i f (inr h)))

pub rises_above : (h : History) (n : ℕ) → Rises h n → Above 0 (fates_of h)
rises_above [] n r = tt
rises_above (Begun a ∷ h) n r = rises_above h n r
rises_above (Tried s i facts a ∷ h) n r = rises_above h n r
rises_above (Want ∷ h) n r = rises_above h n r
rises_above (Fated i f ∷ h) n r = above_push 0 (fates_of h) (i, f) (rises_above h i r.1) (omega arith) (λ j g x. rises_within h i j g r.1 x)

-- a history whose fates are in order with the gaps between them
pub covered_rises : (h : History) (n : ℕ) → Above 0 (covered h) → ((i : ℕ) (f : Fate) → Has (covered h) i f → i < n) → Rises h n
covered_rises [] n k below = tt
covered_rises (Begun a ∷ h) n k below = covered_rises h n k below
covered_rises (Tried s i facts a ∷ h) n k below = covered_rises h n k below
covered_rises (Want ∷ h) n k below = covered_rises h n k below
covered_rises (Fated i f ∷ h) n k below =
    let before = covered h ++ gap_after (covered h) i f in (
      below i f (has_right before ((i, f) ∷ []) i f (inl (refl, refl))),
      covered_rises h i (above_front 0 (covered h) (gap_after (covered h) i f) (above_front 0 before ((i, f) ∷ []) k))
          (λ j g x. above_before 0 before ((i, f) ∷ []) j i g f k (has_left (covered h) (gap_after (covered h) i f) j g x) (inl (refl, refl))),
    )

spread_has : (first count : ℕ) (g : Fate) (i : ℕ) (f : Fate) → Has (spread first count g) i f → (f ≡ g) × (first ≤ i) × (i < first + count)
spread_has first zero g i f h = absurd h
spread_has first (suc c) g i f (inl e) = (sym e.1, omega (arith, e.0), omega (arith, e.0))
spread_has first (suc c) g i f (inr h) = (let r = spread_has (first + 1) c g i f h in (r.0, omega (arith, r.1), omega (arith, r.2)))

gap_some : (b : Bool) (a d i : ℕ) → a ≤ i → i < a + (if b then d else 0) → (b ≡ true) × (i < a + d)
gap_some true a d i le lt = (refl, lt)
gap_some false a d i le lt = absurd (omega (arith, le, lt))

-- what lies in a gap has no memory, like something before it
pub gap_has : (xs : List (ℕ × Fate)) (n : ℕ) (g : Fate) (i : ℕ) (f : Fate) → Has (gap_after xs n g) i f → (f ≡ fate.NoMemory) × (i < n) × ((j : ℕ) × (j < i) × Has xs j fate.NoMemory)
gap_has [] n g i f h = absurd h
gap_has (x ∷ []) n g i f h =
    let s = spread_has (x.0 + 1) (gap_count x.1 g (x.0 + 1) n) g i f h in
    let c = gap_some (is_no_memory x.1 && is_no_memory g) (x.0 + 1) (n - (x.0 + 1)) i s.1 s.2 in
    let b = and_parts (is_no_memory x.1) (is_no_memory g) c.0 in
    (s.0 ∙ no_memory_is g b.1, omega (arith, c.1, s.1), (x.0, omega (arith, s.1), inl (refl, no_memory_is x.1 b.0)))
gap_has (x ∷ y ∷ ys) n g i f h = (let r = gap_has (y ∷ ys) n g i f h in (r.0, r.1, (r.2.0, r.2.1, inr r.2.2)))

pub fates_covered : (h : History) (i : ℕ) (f : Fate) → Has (fates_of h) i f → Has (covered h) i f
fates_covered [] i f x = x
fates_covered (Begun a ∷ h) i f x = fates_covered h i f x
fates_covered (Tried s j facts a ∷ h) i f x = fates_covered h i f x
fates_covered (Want ∷ h) i f x = fates_covered h i f x
fates_covered (Fated j g ∷ h) i f x = elim (has_split (fates_of h) (j, g) i f x) [
  | inl a ↦ has_left (covered h ++ gap_after (covered h) j g) ((j, g) ∷ []) i f (has_left (covered h) (gap_after (covered h) j g) i f (fates_covered h i f a))
  | inr b ↦ has_right (covered h ++ gap_after (covered h) j g) ((j, g) ∷ []) i f (inl b)
]

-- what isn't a fate of the history lies in a gap, behind a packet without memory
pub covered_cases : (h : History) (i : ℕ) (f : Fate) → Has (covered h) i f
    → Has (fates_of h) i f ⊎ ((f ≡ fate.NoMemory) × ((k : ℕ) × (k ≤ i) × Has (fates_of h) k fate.NoMemory))
covered_cases [] i f x = absurd x
covered_cases (Begun a ∷ h) i f x = covered_cases h i f x
covered_cases (Tried s j facts a ∷ h) i f x = covered_cases h i f x
covered_cases (Want ∷ h) i f x = covered_cases h i f x
covered_cases (Fated j g ∷ h) i f x = elim (has_split (covered h ++ gap_after (covered h) j g) (j, g) i f x) [
  | inr b ↦ inl (has_right (fates_of h) ((j, g) ∷ []) i f (inl b))
  | inl c ↦ elim (has_cases (covered h) (gap_after (covered h) j g) i f c) [
    | inl a ↦ elim (covered_cases h i f a) [
      | inl b ↦ inl (has_front (fates_of h) (j, g) i f b)
      | inr d ↦ inr (d.0, (d.1.0, d.1.1, has_front (fates_of h) (j, g) d.1.0 fate.NoMemory d.1.2))
    ]
    | inr a ↦ (let r = gap_has (covered h) j g i f a in
        elim (covered_cases h r.2.0 fate.NoMemory r.2.2) [
          | inl b ↦ inr (r.0, (r.2.0, omega (arith, r.2.1), has_front (fates_of h) (j, g) r.2.0 fate.NoMemory b))
          | inr d ↦ inr (r.0, (d.1.0, omega (arith, d.1.1, r.2.1), has_front (fates_of h) (j, g) d.1.0 fate.NoMemory d.1.2))
        ])
  ]
]

-- what was given, in order of its indices
abbrev pub Climbs : ℕ → List Given → Type 0
Climbs n [] = Unit {0}
Climbs n (t ∷ ts) = (n ≤ index_of t) × Climbs (index_of t + 1) ts

pub climbs_with : (n : ℕ) (fs : List (ℕ × Fate)) (T : List Given) → indices fs ≡ map index_of T → Above n fs → Climbs n T
climbs_with n [] [] e k = tt
climbs_with n [] (t ∷ T) e k = absurd (cc e)
climbs_with n (x ∷ fs) [] e k = absurd (cc e)
climbs_with n (x ∷ fs) (t ∷ T) e k =
    let head : x.0 ≡ index_of t = cc in
    let tail : indices fs ≡ map index_of T = cc in
    (omega (arith, head, k.0), rw (← head) (climbs_with (x.0 + 1) fs T tail k.1))

turn_at : (out : Origin) (t : Given) → turn_index (turn_of out t) ≡ index_of t
turn_at out (Sent i p) = refl
turn_at out (Swept i v) = refl

pub climbs_turn : (out : Origin) (n : ℕ) (T : List Given) → Climbs n T → InTurn n (map (turn_of out) T)
climbs_turn out n [] k = tt
climbs_turn out n (t ∷ T) k = rw (turn_at out t) (k.0, climbs_turn out (index_of t + 1) T k.1)

pub gives_at : (T : List Given) (i : ℕ) (p : Packet) → Gives T i p → GivesAt T i
gives_at [] i p g = absurd g
gives_at (Sent j q ∷ T) i p (inl e) = inl e.0
gives_at (Sent j q ∷ T) i p (inr g) = inr (gives_at T i p g)
gives_at (Swept j n ∷ T) i p g = inr (gives_at T i p g)

pub swept_gives : (T : List Given) (i v : ℕ) → SweptAt T i v → GivesAt T i
swept_gives [] i v g = absurd g
swept_gives (Sent j q ∷ T) i v g = inr (swept_gives T i v g)
swept_gives (Swept j n ∷ T) i v (inl e) = inl e.0
swept_gives (Swept j n ∷ T) i v (inr g) = inr (swept_gives T i v g)

pub climbs_low : (n : ℕ) (T : List Given) (i : ℕ) → Climbs n T → GivesAt T i → n ≤ i
climbs_low n [] i k g = absurd g
climbs_low n (t ∷ T) i k (inl e) = omega (arith, k.0, e)
climbs_low n (t ∷ T) i k (inr g) = (let r = climbs_low (index_of t + 1) T i k.1 g in omega (arith, k.0, r))

pub gives_once : (n : ℕ) (T : List Given) (i : ℕ) (p q : Packet) → Climbs n T → Gives T i p → Gives T i q → p ≡ q
gives_once n [] i p q k a b = absurd a
gives_once n (Sent j r ∷ T) i p q k (inl a) (inl b) = sym a.1 ∙ b.1
gives_once n (Sent j r ∷ T) i p q k (inl a) (inr b) = (let x = climbs_low (j + 1) T i k.1 (gives_at T i q b) in absurd (omega (arith, a.0, x)))
gives_once n (Sent j r ∷ T) i p q k (inr a) (inl b) = (let x = climbs_low (j + 1) T i k.1 (gives_at T i p a) in absurd (omega (arith, b.0, x)))
gives_once n (Sent j r ∷ T) i p q k (inr a) (inr b) = gives_once (j + 1) T i p q k.1 a b
gives_once n (Swept j v ∷ T) i p q k a b = gives_once (j + 1) T i p q k.1 a b

pub swept_once : (n : ℕ) (T : List Given) (i u v : ℕ) → Climbs n T → SweptAt T i u → SweptAt T i v → u ≡ v
swept_once n [] i u v k a b = absurd a
swept_once n (Sent j r ∷ T) i u v k a b = swept_once (j + 1) T i u v k.1 a b
swept_once n (Swept j m ∷ T) i u v k (inl a) (inl b) = sym a.1 ∙ b.1
swept_once n (Swept j m ∷ T) i u v k (inl a) (inr b) = (let x = climbs_low (j + 1) T i k.1 (swept_gives T i v b) in absurd (omega (arith, a.0, x)))
swept_once n (Swept j m ∷ T) i u v k (inr a) (inl b) = (let x = climbs_low (j + 1) T i k.1 (swept_gives T i u a) in absurd (omega (arith, b.0, x)))
swept_once n (Swept j m ∷ T) i u v k (inr a) (inr b) = swept_once (j + 1) T i u v k.1 a b

-- what is flushed isn't written
pub swept_apart : (n : ℕ) (T : List Given) (i v : ℕ) (p : Packet) → Climbs n T → SweptAt T i v → Gives T i p → ⊥
swept_apart n [] i v p k a b = a
swept_apart n (Sent j r ∷ T) i v p k a (inl b) = (let x = climbs_low (j + 1) T i k.1 (swept_gives T i v a) in omega (arith, b.0, x))
swept_apart n (Sent j r ∷ T) i v p k a (inr b) = swept_apart (j + 1) T i v p k.1 a b
swept_apart n (Swept j m ∷ T) i v p k (inl a) b = (let x = climbs_low (j + 1) T i k.1 (gives_at T i p b) in omega (arith, a.0, x))
swept_apart n (Swept j m ∷ T) i v p k (inr a) b = swept_apart (j + 1) T i v p k.1 a b

-- the turn of what was given
pub comes_given : (out : Origin) (T : List Given) (i : ℕ) (facts : PacketFacts) → HasTurn (map (turn_of out) T) (Comes i facts)
    → (p : Packet) × Gives T i p × (facts ≡ facts_of out p)
comes_given out [] i facts h = absurd h
comes_given out (Sent j p ∷ T) i facts (inl e) =
    let a : j ≡ i = cc in
    let b : facts_of out p ≡ facts = cc in
    (p, inl (a, refl), sym b)
comes_given out (Sent j p ∷ T) i facts (inr h) = (let k = comes_given out T i facts h in (k.0, inr k.1, k.2))
comes_given out (Swept j v ∷ T) i facts (inl e) = absurd (cc e)
comes_given out (Swept j v ∷ T) i facts (inr h) = comes_given out T i facts h

pub flushes_given : (out : Origin) (T : List Given) (i v : ℕ) → HasTurn (map (turn_of out) T) (Flushes i v) → SweptAt T i v
flushes_given out [] i v h = absurd h
flushes_given out (Sent j p ∷ T) i v (inl e) = absurd (cc e)
flushes_given out (Sent j p ∷ T) i v (inr h) = flushes_given out T i v h
flushes_given out (Swept j n ∷ T) i v (inl e) =
    let a : j ≡ i = cc in
    let b : n ≡ v = cc in
    inl (a, b)
flushes_given out (Swept j n ∷ T) i v (inr h) = inr (flushes_given out T i v h)

-- fates and what was given have the same indices
pub index_has : (fs : List (ℕ × Fate)) (T : List Given) (i : ℕ) → indices fs ≡ map index_of T → GivesAt T i → (f : Fate) × Has fs i f
index_has fs [] i e g = absurd g
index_has [] (t ∷ T) i e g = absurd (cc e)
index_has (x ∷ fs) (t ∷ T) i e (inl a) = (let head : x.0 ≡ index_of t = cc in (x.1, inl (head ∙ a, refl)))
index_has (x ∷ fs) (t ∷ T) i e (inr g) = (let tail : indices fs ≡ map index_of T = cc in let r = index_has fs T i tail g in (r.0, inr r.1))

pub has_index : (fs : List (ℕ × Fate)) (T : List Given) (i : ℕ) (f : Fate) → indices fs ≡ map index_of T → Has fs i f → GivesAt T i
has_index [] T i f e h = absurd h
has_index (x ∷ fs) [] i f e h = absurd (cc e)
has_index (x ∷ fs) (t ∷ T) i f e (inl a) = (let head : x.0 ≡ index_of t = cc in inl (sym head ∙ a.0))
has_index (x ∷ fs) (t ∷ T) i f e (inr h) = (let tail : indices fs ≡ map index_of T = cc in inr (has_index fs T i f tail h))

-- the runs have indices below their end
pub order_within : (n end : ℕ) (rs : List Run) (i : ℕ) (f : Fate) → InOrder n end rs → Has (expand rs) i f → i < end
order_within n end [] i f k h = absurd h
order_within n end (r ∷ rs) i f k h = elim (has_cases (spread r.first r.count r.fate) (expand rs) i f h) [
  | inl a ↦ (let s = spread_has r.first r.count r.fate i f a in let m = order_end (r.first + r.count) end rs k.2 in omega (arith, s.2, m))
  | inr b ↦ order_within (r.first + r.count) end rs i f k.2 b
]
  where
    order_end : (n end : ℕ) (rs : List Run) → InOrder n end rs → n ≤ end
    order_end n end [] k = k
    order_end n end (r ∷ rs) k = (let m = order_end (r.first + r.count) end rs k.2 in omega (arith, k.0, m))

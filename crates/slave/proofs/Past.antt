-- What came before a fate, in a history of packets that came one after another.
use Rattle.std.proofs.Common.{◌≡◌, ℕ, zero, suc, ◌+◌, ◌≤◌, ◌<◌, ◌⊎◌, inl, inr, Bool, true, false, ◌&&◌, ◌==◌, if◌then◌else◌, List, [], ◌∷◌, ◌++◌, length, slice_get, Option, Some, None, ℤ, refl, ap, sym, ◌∙◌, arith, length-append}
use Rattle.std.proofs.lemmas.Bool.Decides.{nat_tests}
use Rattle.std.proofs.Math.Nat.{eq-or-lt_of_le}
use Rattle.std.proofs.lemmas.Bool.{or_cases, or_right, and_parts}
use Rattle.fifo_core.specs.declared.types.FifoOptions.{FifoOptions}
use Rattle.fifo_core.specs.declared.types.PacketFacts.{PacketFacts}
use Rattle.fifo_core.specs.declared.types.Answer.{Answer}
use Rattle.fifo_core.specs.declared.types.Answer.TheVariants as answer
use Rattle.fifo_core.specs.declared.types.Fate.{Fate}
use Rattle.fifo_core.specs.declared.types.Fate.TheVariants as fate
use Rattle.fifo_core.specs.History.{Begun, Tried, Fated, Want, History, fates_of, is_written, is_written_fate, notes, since}
use Rattle.fifo_core.specs.State.{Rises}
use Rattle.fifo_core.specs.Follows.{Turn, Comes}
use Rattle.fifo_core.specs.Causes.{Caused, HasTurn, InTurn}
use Rattle.rmx_media.specs.declared.packet.Packet.{Packet}
use Rattle.slave.specs.declared.records.FaultAt.TheVariants.{Begin, Put}
use Rattle.slave.specs.declared.records.FaultNote.{FaultNote}
use Rattle.slave.specs.Origin.{Origin}
use Rattle.slave.specs.Table.{turns_from, Indexed, NotesTell}
use Rattle.slave.specs.Accounts.{Has}

pub in_turn : (out : Origin) (n : ℕ) (L : List Packet) → InTurn n (turns_from out n L)
in_turn out n [] = tt
in_turn out n (p ∷ L) = (omega arith, in_turn out (n + 1) L)

pub has_split : (xs : List (ℕ × Fate)) (y : ℕ × Fate) (i : ℕ) (f : Fate) → Has (xs ++ y ∷ []) i f → Has xs i f ⊎ ((y.0 ≡ i) × (y.1 ≡ f))
has_split [] y i f (inl e) = inr e
has_split [] y i f (inr n) = absurd n
has_split (x ∷ xs) y i f (inl e) = inl (inl e)
has_split (x ∷ xs) y i f (inr h) = elim (has_split xs y i f h) [ inl a ↦ inl (inr a) | inr b ↦ inr b ]

pub has_front : (xs : List (ℕ × Fate)) (y : ℕ × Fate) (i : ℕ) (f : Fate) → Has xs i f → Has (xs ++ y ∷ []) i f
has_front (x ∷ xs) y i f (inl e) = inl e
has_front (x ∷ xs) y i f (inr h) = inr (has_front xs y i f h)
has_front [] y i f h = absurd h

has_end : (xs : List (ℕ × Fate)) (i : ℕ) (f : Fate) → Has (xs ++ (i, f) ∷ []) i f
has_end [] i f = inl (refl, refl)
has_end (x ∷ xs) i f = inr (has_end xs i f)

-- the fates of packets without a gap
pub indexed_within : (n : ℕ) (xs : List (ℕ × Fate)) (i : ℕ) (f : Fate) → Indexed n xs → Has xs i f → (n ≤ i) × (i < n + length xs)
indexed_within n [] i f k h = absurd h
indexed_within n (x ∷ xs) i f k (inl e) = (omega (arith, k.0, e.0), omega (arith, k.0, e.0))
indexed_within n (x ∷ xs) i f k (inr h) = let r = indexed_within (n + 1) xs i f k.1 h in (omega (arith, r.0), omega (arith, r.1))

pub indexed_has : (n : ℕ) (xs : List (ℕ × Fate)) (i : ℕ) → Indexed n xs → n ≤ i → i < n + length xs → (f : Fate) × Has xs i f
indexed_has n [] i k le lt = absurd (omega (arith, le, lt))
indexed_has n (x ∷ xs) i k le lt = elim (eq-or-lt_of_le le) [
  | inl e ↦ (x.1, inl (k.0 ∙ e, refl))
  | inr more ↦ (let r = indexed_has (n + 1) xs i k.1 (omega (arith, more)) (omega (arith, lt)) in (r.0, inr r.1))
]

pub indexed_once : (n : ℕ) (xs : List (ℕ × Fate)) (i : ℕ) (f g : Fate) → Indexed n xs → Has xs i f → Has xs i g → f ≡ g
indexed_once n [] i f g k a b = absurd a
indexed_once n (x ∷ xs) i f g k (inl a) (inl b) = sym a.1 ∙ b.1
indexed_once n (x ∷ xs) i f g k (inl a) (inr b) = let r = indexed_within (n + 1) xs i g k.1 b in absurd (omega (arith, k.0, a.0, r.0))
indexed_once n (x ∷ xs) i f g k (inr a) (inl b) = let r = indexed_within (n + 1) xs i f k.1 a in absurd (omega (arith, k.0, b.0, r.0))
indexed_once n (x ∷ xs) i f g k (inr a) (inr b) = indexed_once (n + 1) xs i f g k.1 a b

pub indexed_front : (n : ℕ) (xs : List (ℕ × Fate)) (y : ℕ × Fate) → Indexed n (xs ++ y ∷ []) → Indexed n xs × (y.0 ≡ n + length xs)
indexed_front n [] y k = (tt, omega (arith, k.0))
indexed_front n (x ∷ xs) y k = let r = indexed_front (n + 1) xs y k.1 in ((k.0, r.0), omega (arith, r.1))

pub indexed_rises : (h : History) → Indexed 0 (fates_of h) → Rises h (length (fates_of h))
indexed_rises [] k = tt
indexed_rises (Begun a ∷ h) k = indexed_rises h k
indexed_rises (Tried s i facts a ∷ h) k = indexed_rises h k
indexed_rises (Want ∷ h) k = indexed_rises h k
indexed_rises (Fated i f ∷ h) k =
    let r = indexed_front 0 (fates_of h) (i, f) k in
    let size : i ≡ length (fates_of h) = omega (arith, r.1) in
    let more = length-append (fates_of h) ((i, f) ∷ []) in
    (omega (arith, size, more), rw size (indexed_rises h r.0))

-- each fate has an index below the end
pub rises_within : (h : History) (n i : ℕ) (f : Fate) → Rises h n → Has (fates_of h) i f → i < n
rises_within [] n i f r x = absurd x
rises_within (Begun a ∷ h) n i f r x = rises_within h n i f r x
rises_within (Tried s j facts a ∷ h) n i f r x = rises_within h n i f r x
rises_within (Want ∷ h) n i f r x = rises_within h n i f r x
rises_within (Fated j u ∷ h) n i f r x = elim (has_split (fates_of h) (j, u) i f x) [
  | inl a ↦ (let b = rises_within h j i f r.1 a in omega (arith, b, r.0))
  | inr b ↦ omega (arith, b.0, r.0)
]

pub same_number : (i j : ℕ) → (i == j) ≡ true → i ≡ j
same_number i j e = grind (arith, nat_tests)

pub number_same : (i j : ℕ) → i ≡ j → (i == j) ≡ true
number_same i j e = grind (arith, nat_tests)

pub number_differs : (i j : ℕ) → i < j → (j == i) ≡ false
number_differs i j lt = grind (arith, nat_tests)

written_fate : (s : ℕ) (f : Fate) → is_written_fate s f ≡ true → f ≡ fate.Written s
written_fate s (fate.Written t) e = ap fate.Written (same_number t s e)
written_fate s (fate.Refused t) e = absurd (cc e)
written_fate s (fate.Flushed t) e = absurd (cc e)
written_fate s fate.KeyWait e = absurd (cc e)
written_fate s (fate.Lost t) e = absurd (cc e)
written_fate s (fate.AfterFailure t) e = absurd (cc e)
written_fate s fate.NoMemory e = absurd (cc e)

-- what the history has as written has that fate
pub written_has : (h : History) (i s : ℕ) → is_written h i s ≡ true → Has (fates_of h) i (fate.Written s)
written_has [] i s e = absurd (cc e)
written_has (Begun a ∷ h) i s e = written_has h i s e
written_has (Tried t j facts a ∷ h) i s e = written_has h i s e
written_has (Want ∷ h) i s e = written_has h i s e
written_has (Fated j f ∷ h) i s e = elim (or_cases ((j == i) && is_written_fate s f) (is_written h i s) e) [
  | inl a ↦ (let b = and_parts (j == i) (is_written_fate s f) a in
      let x : j ≡ i = same_number j i b.0 in
      let y : f ≡ fate.Written s = written_fate s f b.1 in
      rw (x, y) (has_end (fates_of h) i (fate.Written s)))
  | inr c ↦ has_front (fates_of h) (j, f) i (fate.Written s) (written_has h i s c)
]

-- and the other way
pub has_written : (h : History) (i s : ℕ) → Has (fates_of h) i (fate.Written s) → is_written h i s ≡ true
has_written [] i s k = absurd k
has_written (Begun a ∷ h) i s k = has_written h i s k
has_written (Tried t j facts a ∷ h) i s k = has_written h i s k
has_written (Want ∷ h) i s k = has_written h i s k
has_written (Fated j f ∷ h) i s k = elim (has_split (fates_of h) (j, f) i (fate.Written s) k) [
  | inl a ↦ or_right ((j == i) && is_written_fate s f) (is_written h i s) (has_written h i s a)
  | inr b ↦ (let x : (j == i) ≡ true = number_same j i b.0 in
      let z : (s == s) ≡ true = number_same s s refl in
      let y : is_written_fate s f ≡ true = rw (b.1, z) refl in
      rw (x, y) refl)
]

-- the packet that was tried at note f; session 0's begin has none
abbrev pub noted : History → ℕ → Option ℕ
noted [] f = None
noted (Begun a ∷ h) f = None
noted (Tried s i facts answer.Fault ∷ h) f = if notes h == f then Some i else noted h f
noted (Tried s i facts answer.Done ∷ h) f = noted h f
noted (Tried s i facts answer.NoMemory ∷ h) f = noted h f
noted (Fated i u ∷ h) f = noted h f
noted (Want ∷ h) f = noted h f

-- a choice by a test
pub test_cases : (b : Bool) (i j : ℕ) (m : Option ℕ) → (if b then Some i else m) ≡ Some j → ((b ≡ true) × (i ≡ j)) ⊎ (m ≡ Some j)
test_cases true i j m e = (let x : i ≡ j = cc in inl (refl, x))
test_cases false i j m e = inr e

noted_below : (h : History) (f j : ℕ) → noted h f ≡ Some j → f < notes h
noted_below [] f j e = absurd (cc e)
noted_below (Begun a ∷ h) f j e = absurd (cc e)
noted_below (Tried s i facts answer.Fault ∷ h) f j e = elim (test_cases (notes h == f) i j (noted h f) e) [
  | inl a ↦ (let x = same_number (notes h) f a.0 in omega (arith, x))
  | inr m ↦ (let x = noted_below h f j m in omega (arith, x))
]
noted_below (Tried s i facts answer.Done ∷ h) f j e = noted_below h f j e
noted_below (Tried s i facts answer.NoMemory ∷ h) f j e = noted_below h f j e
noted_below (Fated i u ∷ h) f j e = noted_below h f j e
noted_below (Want ∷ h) f j e = noted_below h f j e

-- a later entry leaves the packets of the notes before
pub noted_tried : (s i : ℕ) (facts : PacketFacts) (a : Answer) (h : History) (f j : ℕ) → noted h f ≡ Some j → noted (Tried s i facts a ∷ h) f ≡ Some j
noted_tried s i facts answer.Done h f j e = e
noted_tried s i facts answer.Fault h f j e = rw (number_differs f (notes h) (noted_below h f j e)) e
noted_tried s i facts answer.NoMemory h f j e = e

-- there are as many notes as the history has faults
pub notes_count : (h : History) (ns : List FaultNote) → NotesTell h ns → length ns ≡ notes h
notes_count [] ns t = rw t refl
notes_count (Begun answer.Done ∷ h) ns t = notes_count h ns t
notes_count (Begun answer.Fault ∷ h) ns t =
    let front = t.0 in
    let n = notes_count h front t.5 in
    rw t.2 (omega (arith, length-append front (t.1 ∷ []), n))
notes_count (Begun answer.NoMemory ∷ h) ns t = notes_count h ns t
notes_count (Tried s i facts answer.Done ∷ h) ns t = notes_count h ns t
notes_count (Tried s i facts answer.Fault ∷ h) ns t =
    let front = t.0 in
    let n = notes_count h front t.5 in
    rw t.2 (omega (arith, length-append front (t.1 ∷ []), n))
notes_count (Tried s i facts answer.NoMemory ∷ h) ns t = notes_count h ns t
notes_count (Fated i f ∷ h) ns t = notes_count h ns t
notes_count (Want ∷ h) ns t = notes_count h ns t

pub get_front : (xs ys : List FaultNote) (i : ℕ) (n : FaultNote) → slice_get xs i ≡ Some n → slice_get (xs ++ ys) i ≡ Some n
get_front [] ys i n e = absurd (cc e)
get_front (x ∷ xs) ys zero n e = e
get_front (x ∷ xs) ys (suc i) n e = get_front xs ys i n e

get_end : (xs : List FaultNote) (n : FaultNote) → slice_get (xs ++ n ∷ []) (length xs) ≡ Some n
get_end [] n = refl
get_end (x ∷ xs) n = get_end xs n

-- the note of a packet that was tried
pub note_at_fault : (h : History) (ns : List FaultNote) (f j : ℕ) → NotesTell h ns → noted h f ≡ Some j
    → (n : FaultNote) × (slice_get ns f ≡ Some n) × ((n.at ≡ Put j) ⊎ (n.at ≡ Begin))
note_at_fault [] ns f j t e = absurd (cc e)
note_at_fault (Begun a ∷ h) ns f j t e = absurd (cc e)
note_at_fault (Tried s i facts answer.Done ∷ h) ns f j t e = note_at_fault h ns f j t e
note_at_fault (Tried s i facts answer.NoMemory ∷ h) ns f j t e = note_at_fault h ns f j t e
note_at_fault (Fated i u ∷ h) ns f j t e = note_at_fault h ns f j t e
note_at_fault (Want ∷ h) ns f j t e = note_at_fault h ns f j t e
note_at_fault (Tried s i facts answer.Fault ∷ h) ns f j t e = elim (test_cases (notes h == f) i j (noted h f) e) [
  | inl a ↦ (let place : length t.0 ≡ f = notes_count h t.0 t.5 ∙ same_number (notes h) f a.0 in
      let here : slice_get ns f ≡ Some t.1 = rw (t.2, ← place) (get_end t.0 t.1) in
      (t.1, here, elim t.4 [ inl put ↦ inl (put ∙ ap Put a.1) | inr begin ↦ inr begin.0 ]))
  | inr m ↦ (let k = note_at_fault h t.0 f j t.5 m in (k.0, rw t.2 (get_front t.0 (t.1 ∷ []) f k.0 k.1), k.2))
]

-- the last fault's packet, by its time
pub last_fault : (o : FifoOptions) (ts : List Turn) (h : History) (d : ℤ) → Caused o ts h → since h ≡ Some d
    → (j : ℕ) × (facts : PacketFacts) × HasTurn ts (Comes j facts) × (facts.dts ≡ d) × ((f : ℕ) → f + 1 ≡ notes h → noted h f ≡ Some j)
last_fault o ts [] d c e = absurd (cc e)
last_fault o ts (Begun answer.Done ∷ h) d c e = let x : since h ≡ None = rw c refl in let y : None ≡ Some d = sym x ∙ e in absurd (cc y)
last_fault o ts (Begun answer.Fault ∷ h) d c e = absurd (cc e)
last_fault o ts (Begun answer.NoMemory ∷ h) d c e = let x : since h ≡ None = rw c refl in let y : None ≡ Some d = sym x ∙ e in absurd (cc y)
last_fault o ts (Tried s i facts answer.Done ∷ h) d c e = last_fault o ts h d c.1 e
last_fault o ts (Tried s i facts answer.Fault ∷ h) d c e =
    let same : facts.dts ≡ d = cc in
    (i, facts, c.0.0, same, λ f n. rw (number_same (notes h) f (omega (arith, n))) refl)
last_fault o ts (Tried s i facts answer.NoMemory ∷ h) d c e = last_fault o ts h d c.1 e
last_fault o ts (Fated i f ∷ h) d c e = last_fault o ts h d c.1 e
last_fault o ts (Want ∷ h) d c e = last_fault o ts h d c e

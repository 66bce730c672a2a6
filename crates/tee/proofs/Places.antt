-- Three lists, place by place, and loops over them.
use Rattle.std.proofs.Common.{◌≡◌, ℕ, zero, suc, ◌<◌, ◌+◌, List, [], ◌∷◌, ◌++◌, length, get_or, set, add-one, refl, ap, arith}
use Rattle.tee.specs.Each.{Each3, Between3}

module _ {A B C : Type 0} (P Q : A → B → C → Type 0) where
  -- a place among the first
  abbrev pub Somewhere : (A → B → C → Type 0) → C → Type 0
  Somewhere R c = (a : A) × (b : B) × R a b c

  pub all_at : (us : List A) (bs : List B) (cs : List C) (k : ℕ) (d : C) → Each3 P us bs cs → k < length cs → Somewhere P (get_or cs k d)
  all_at [] [] [] k d e lt = absurd (omega arith)
  all_at [] [] (c ∷ cs) k d e lt = absurd e
  all_at [] (b ∷ bs) cs k d e lt = absurd e
  all_at (a ∷ us) [] cs k d e lt = absurd e
  all_at (a ∷ us) (b ∷ bs) [] k d e lt = absurd e
  all_at (a ∷ us) (b ∷ bs) (c ∷ cs) zero d e lt = (a, b, e.0)
  all_at (a ∷ us) (b ∷ bs) (c ∷ cs) (suc k) d e lt = all_at us bs cs k d e.1 (omega arith)

  -- the next place still has P
  pub next_at : (us : List A) (bs : List B) (cs : List C) (k : ℕ) (d : C) → Between3 P Q k us bs cs → k < length cs → Somewhere P (get_or cs k d)
  next_at us bs cs zero d e lt = all_at us bs cs zero d e lt
  next_at [] [] [] (suc k) d e lt = absurd (omega arith)
  next_at [] [] (c ∷ cs) (suc k) d e lt = absurd e
  next_at [] (b ∷ bs) cs (suc k) d e lt = absurd e
  next_at (a ∷ us) [] cs (suc k) d e lt = absurd e
  next_at (a ∷ us) (b ∷ bs) [] (suc k) d e lt = absurd e
  next_at (a ∷ us) (b ∷ bs) (c ∷ cs) (suc k) d e lt = next_at us bs cs k d e.1 (omega arith)

  -- and then it has Q
  pub next_set : (us : List A) (bs : List B) (cs : List C) (k : ℕ) (d new : C) → Between3 P Q k us bs cs → k < length cs
      → ((a : A) (b : B) → P a b (get_or cs k d) → Q a b new) → Between3 P Q (suc k) us bs (set cs k new)
  next_set [] [] [] k d new e lt f = absurd (omega arith)
  next_set [] [] (c ∷ cs) zero d new e lt f = absurd e
  next_set [] [] (c ∷ cs) (suc k) d new e lt f = absurd e
  next_set [] (b ∷ bs) cs zero d new e lt f = absurd e
  next_set [] (b ∷ bs) cs (suc k) d new e lt f = absurd e
  next_set (a ∷ us) [] cs zero d new e lt f = absurd e
  next_set (a ∷ us) [] cs (suc k) d new e lt f = absurd e
  next_set (a ∷ us) (b ∷ bs) [] k d new e lt f = absurd (omega arith)
  next_set (a ∷ us) (b ∷ bs) (c ∷ cs) zero d new e lt f = (f a b e.0, e.1)
  next_set (a ∷ us) (b ∷ bs) (c ∷ cs) (suc k) d new e lt f = (e.0, next_set us bs cs k d new e.1 (omega arith) f)

  pub set_next : (us : List A) (bs : List B) (cs : List C) (k : ℕ) (d new : C) → Between3 P Q k us bs cs → k < length cs
      → ((a : A) (b : B) → P a b (get_or cs k d) → Q a b new) → Between3 P Q (k + 1) us bs (set cs k new)
  set_next us bs cs k d new e lt f = rw add-one (next_set us bs cs k d new e lt f)

  pub all_done : (us : List A) (bs : List B) (cs : List C) (k : ℕ) → Between3 P Q k us bs cs → k ≡ length cs → Each3 Q us bs cs
  all_done [] [] [] k e same = tt
  all_done [] [] (c ∷ cs) zero e same = absurd e
  all_done [] [] (c ∷ cs) (suc k) e same = absurd e
  all_done [] (b ∷ bs) cs zero e same = absurd e
  all_done [] (b ∷ bs) cs (suc k) e same = absurd e
  all_done (a ∷ us) [] cs zero e same = absurd e
  all_done (a ∷ us) [] cs (suc k) e same = absurd e
  all_done (a ∷ us) (b ∷ bs) [] zero e same = absurd e
  all_done (a ∷ us) (b ∷ bs) [] (suc k) e same = absurd e
  all_done (a ∷ us) (b ∷ bs) (c ∷ cs) zero e same = absurd (omega arith)
  all_done (a ∷ us) (b ∷ bs) (c ∷ cs) (suc k) e same = (e.0, all_done us bs cs k e.1 (omega arith))

-- one place may change
pub each_set : {A B C : Type 0} (P : A → B → C → Type 0) (us : List A) (bs : List B) (cs : List C) (k : ℕ) (d new : C) → Each3 P us bs cs → k < length cs
    → ((a : A) (b : B) → P a b (get_or cs k d) → P a b new) → Each3 P us bs (set cs k new)
each_set P [] [] [] k d new e lt f = absurd (omega arith)
each_set P [] [] (c ∷ cs) k d new e lt f = absurd e
each_set P [] (b ∷ bs) cs k d new e lt f = absurd e
each_set P (a ∷ us) [] cs k d new e lt f = absurd e
each_set P (a ∷ us) (b ∷ bs) [] k d new e lt f = absurd e
each_set P (a ∷ us) (b ∷ bs) (c ∷ cs) zero d new e lt f = (f a b e.0, e.1)
each_set P (a ∷ us) (b ∷ bs) (c ∷ cs) (suc k) d new e lt f = (e.0, each_set P us bs cs k d new e.1 (omega arith) f)

module _ {A B C : Type 0} (P : A → B → C → Type 0) where
  -- one more place
  pub each_snoc : (us : List A) (bs : List B) (cs : List C) (a : A) (b : B) (c : C) → Each3 P us bs cs → P a b c → Each3 P (us ++ a ∷ []) (bs ++ b ∷ []) (cs ++ c ∷ [])
  each_snoc [] [] [] a b c e p = (p, tt)
  each_snoc [] [] (z ∷ cs) a b c e p = absurd e
  each_snoc [] (y ∷ bs) cs a b c e p = absurd e
  each_snoc (x ∷ us) [] cs a b c e p = absurd e
  each_snoc (x ∷ us) (y ∷ bs) [] a b c e p = absurd e
  each_snoc (x ∷ us) (y ∷ bs) (z ∷ cs) a b c e p = (e.0, each_snoc us bs cs a b c e.1 p)

-- the last place, and those before it
pub record Last {A B C : Type 0} (P : A → B → C → Type 0) (us : List A) (bs : List B) (cs : List C) (c : C) : Type 0 where
  pub firsts : List A
  pub seconds : List B
  pub a : A
  pub b : B
  pub firsts_are : us ≡ firsts ++ a ∷ []
  pub seconds_are : bs ≡ seconds ++ b ∷ []
  pub front : Each3 P firsts seconds cs
  pub last : P a b c

one_last : {A B C : Type 0} (P : A → B → C → Type 0) (a : A) (b : B) (us : List A) (bs : List B) (c : C) → P a b c → Each3 P us bs [] → Last P (a ∷ us) (b ∷ bs) [] c
one_last P a b [] [] c p e = record { firsts = []; seconds = []; a = a; b = b; firsts_are = refl; seconds_are = refl; front = tt; last = p }
one_last P a b [] (y ∷ bs) c p e = absurd e
one_last P a b (x ∷ us) [] c p e = absurd e
one_last P a b (x ∷ us) (y ∷ bs) c p e = absurd e

pub each_unsnoc : {A B C : Type 0} (P : A → B → C → Type 0) (us : List A) (bs : List B) (cs : List C) (c : C) → Each3 P us bs (cs ++ c ∷ []) → Last P us bs cs c
each_unsnoc P [] [] [] c e = absurd e
each_unsnoc P [] [] (x ∷ cs) c e = absurd e
each_unsnoc P [] (b ∷ bs) [] c e = absurd e
each_unsnoc P [] (b ∷ bs) (x ∷ cs) c e = absurd e
each_unsnoc P (a ∷ us) [] [] c e = absurd e
each_unsnoc P (a ∷ us) [] (x ∷ cs) c e = absurd e
each_unsnoc P (a ∷ us) (b ∷ bs) [] c e = one_last P a b us bs c e.0 e.1
each_unsnoc {A} {B} P (a ∷ us) (b ∷ bs) (x ∷ cs) c e =
    let r = each_unsnoc P us bs cs c e.1 in
    record {
      firsts = a ∷ r.firsts;
      seconds = b ∷ r.seconds;
      a = r.a;
      b = r.b;
      firsts_are = ap (λ (xs : List A). a ∷ xs) r.firsts_are;
      seconds_are = ap (λ (ys : List B). b ∷ ys) r.seconds_are;
      front = (e.0, r.front);
      last = r.last;
    }

-- where each place has a new second for its third, there is a list of these
pub record Renewed {A B C D : Type 0} (Q : A → D → C → Type 0) (R : A → B → D → Type 0) (us : List A) (bs : List B) (cs : List C) : Type 0 where
  pub list : List D
  pub each : Each3 Q us list cs
  pub from : Each3 R us bs list

pub each_renewed : {A B C D : Type 0} (Q : A → D → C → Type 0) (R : A → B → D → Type 0) (us : List A) (bs : List B) (cs : List C)
    → Each3 (λ a b c. (d : D) × Q a d c × R a b d) us bs cs → Renewed Q R us bs cs
each_renewed Q R [] [] [] e = record { list = []; each = tt; from = tt }
each_renewed Q R [] [] (c ∷ cs) e = absurd e
each_renewed Q R [] (b ∷ bs) cs e = absurd e
each_renewed Q R (a ∷ us) [] cs e = absurd e
each_renewed Q R (a ∷ us) (b ∷ bs) [] e = absurd e
each_renewed Q R (a ∷ us) (b ∷ bs) (c ∷ cs) e =
    let r = each_renewed Q R us bs cs e.1 in
    record { list = e.0.0 ∷ r.list; each = (e.0.1, r.each); from = (e.0.2, r.from) }

-- one relation behind another
pub each_then : {A B C D : Type 0} (P : A → B → C → Type 0) (R : A → C → D → Type 0) (Q : A → B → D → Type 0) (f : (a : A) (b : B) (c : C) (d : D) → P a b c → R a c d → Q a b d)
    (us : List A) (bs : List B) (cs : List C) (ds : List D) → Each3 P us bs cs → Each3 R us cs ds → Each3 Q us bs ds
each_then P R Q f [] [] [] [] e z = tt
each_then P R Q f [] [] [] (d ∷ ds) e z = absurd z
each_then P R Q f [] [] (c ∷ cs) ds e z = absurd e
each_then P R Q f [] (b ∷ bs) cs ds e z = absurd e
each_then P R Q f (a ∷ us) [] cs ds e z = absurd e
each_then P R Q f (a ∷ us) (b ∷ bs) [] ds e z = absurd e
each_then P R Q f (a ∷ us) (b ∷ bs) (c ∷ cs) [] e z = absurd z
each_then P R Q f (a ∷ us) (b ∷ bs) (c ∷ cs) (d ∷ ds) e z = (f a b c d e.0 z.0, each_then P R Q f us bs cs ds e.1 z.1)

pub each_length : {A B C : Type 0} (P : A → B → C → Type 0) (us : List A) (bs : List B) (cs : List C) → Each3 P us bs cs → length us ≡ length cs
each_length P [] [] [] e = refl
each_length P [] [] (c ∷ cs) e = absurd e
each_length P [] (b ∷ bs) cs e = absurd e
each_length P (a ∷ us) [] cs e = absurd e
each_length P (a ∷ us) (b ∷ bs) [] e = absurd e
each_length P (a ∷ us) (b ∷ bs) (c ∷ cs) e = omega (arith, each_length P us bs cs e.1)

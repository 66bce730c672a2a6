-- Writes to a sink, one after another.
use Rattle.std.proofs.Common.{◌≡◌, ℕ, ◌+◌, ◌-◌, ◌≤◌, ◌<◌, ◌⊎◌, inl, inr, List, [], ◌∷◌, ◌++◌, length, take, ap, ◌∙◌, sym, refl, subst, arith, length-append, append_assoc, Option, Some, None, Result, Ok, Err}
use Rattle.std.proofs.lemmas.List.{take-append-le, append-nil}
use Rattle.std.proofs.Math.Seq.{take-append-add}
use Rattle.std.proofs.lemmas.Bool.{cases_lt}
use Rattle.std.specs.Prelude.{zero, suc, IfSome, IsSomeAnd, IsErr}
use Rattle.rmx_edge.specs.Count.{most}
use Rattle.rmx_edge.specs.Inputs.{OnViews}
use Rattle.rmx_edge.specs.Sink.{SinkState, AddsBytes, Puts}
use Rattle.rmx_edge.specs.declared.inputs.Failed.{Failed}
use Rattle.rmx_edge.proofs.Run.{rose_later}

abbrev pub Answer : Type 0
Answer = Result (Unit {0}) Failed

-- all of a, and then b or a part of it
adds_then : (a b : List ℕ) (r : Answer) (old mid new : List ℕ) → mid ≡ old ++ a → AddsBytes b r mid new → AddsBytes (a ++ b) r old new
adds_then a b (Ok t) old mid new e h = h ∙ ap (λ (l : List ℕ). l ++ b) e ∙ append_assoc old a b
adds_then a b (Err x) old mid new e h =
    (length a + h.0, h.1 ∙ ap (λ (l : List ℕ). l ++ take h.0 b) e ∙ append_assoc old a (take h.0 b) ∙ ap (λ (l : List ℕ). old ++ l) (sym (take-append-add a b h.0)))

-- a part of a
adds_part : (a b : List ℕ) (x : Failed) (old new : List ℕ) → AddsBytes {T = Unit {0}} a (Err x) old new → AddsBytes {T = Unit {0}} (a ++ b) (Err x) old new
adds_part a b x old new h = by (cases_lt h.0 (length a))
  where
    by : (h.0 < length a) ⊎ (length a ≤ h.0) → AddsBytes {T = Unit {0}} (a ++ b) (Err x) old new
    by (inl lt) = (h.0, h.1 ∙ ap (λ (l : List ℕ). old ++ l) (sym (take-append-le h.0 a b (omega (arith, lt)))))
    by (inr le) = (length a, h.1 ∙ ap (λ (l : List ℕ). old ++ l) (past h.0 a le ∙ sym (take-append-le (length a) a b (omega arith) ∙ past (length a) a (omega arith))))
      where
        past : (n : ℕ) (xs : List ℕ) → length xs ≤ n → take n xs ≡ xs
        past zero [] le = refl
        past (suc n) [] le = refl
        past zero (y ∷ ys) le = absurd (omega (arith, le))
        past (suc n) (y ∷ ys) le = ap (λ (l : List ℕ). y ∷ l) (past n ys (omega (arith, le)))

views_then : (a b : List ℕ) (t : Unit {0}) (r : Answer) (u v w : Option (List ℕ)) → OnViews u v (AddsBytes {E = Failed} a (Ok t)) → OnViews v w (AddsBytes b r) → OnViews u w (AddsBytes (a ++ b) r)
views_then a b t r None v w h k = subst (λ (z : Option (List ℕ)). OnViews z w (AddsBytes b r) → OnViews None w (AddsBytes (a ++ b) r)) (sym h) (λ x. x) k
views_then a b t r (Some x) None w h k = absurd h
views_then a b t r (Some x) (Some y) None h k = absurd k
views_then a b t r (Some x) (Some y) (Some z) h k = adds_then a b r x y z h k

views_part : (a b : List ℕ) (x : Failed) (u v : Option (List ℕ)) → OnViews u v (AddsBytes {T = Unit {0}} a (Err x)) → OnViews u v (AddsBytes {T = Unit {0}} (a ++ b) (Err x))
views_part a b x None v h = h
views_part a b x (Some y) None h = absurd h
views_part a b x (Some y) (Some z) h = adds_part a b x y z h

sound_then : (a b : List ℕ) (t : Unit {0}) (r : Answer) (old mid new : SinkState) (u : Option ℕ) → IfSome u (λ n. length a ≤ n → (IsErr {E = Failed} (Ok t) → ⊥) × (mid.faults ≡ old.faults) × IsSomeAnd mid.sound_for (λ m. n - length a ≤ m)) →
    IfSome mid.sound_for (λ n. length b ≤ n → (IsErr r → ⊥) × (new.faults ≡ mid.faults) × IsSomeAnd new.sound_for (λ m. n - length b ≤ m)) →
    IfSome u (λ n. length (a ++ b) ≤ n → (IsErr r → ⊥) × (new.faults ≡ old.faults) × IsSomeAnd new.sound_for (λ m. n - length (a ++ b) ≤ m))
sound_then a b t r old mid new None h k = tt
sound_then a b t r old mid new (Some n) h k = λ le. step le (h (omega (arith, le, length-append a b)))
  where
    last : (v : Option ℕ) (n m : ℕ) → n - length a ≤ m → IsSomeAnd v (λ q. m - length b ≤ q) → IsSomeAnd v (λ q. n - length (a ++ b) ≤ q)
    last None n m le s = absurd s
    last (Some q) n m le s = omega (arith, le, s, length-append a b)

    more : (v : Option ℕ) → IsSomeAnd v (λ m. n - length a ≤ m) → IfSome v (λ m. length b ≤ m → (IsErr r → ⊥) × (new.faults ≡ mid.faults) × IsSomeAnd new.sound_for (λ q. m - length b ≤ q)) → length (a ++ b) ≤ n → mid.faults ≡ old.faults →
        (IsErr r → ⊥) × (new.faults ≡ old.faults) × IsSomeAnd new.sound_for (λ q. n - length (a ++ b) ≤ q)
    more None s k le f = absurd s
    more (Some m) s k le f =
        let x = k (omega (arith, s, le, length-append a b)) in
        (x.0, x.1 ∙ f, last new.sound_for n m s x.2)

    step : length (a ++ b) ≤ n → (IsErr {E = Failed} (Ok t) → ⊥) × (mid.faults ≡ old.faults) × IsSomeAnd mid.sound_for (λ m. n - length a ≤ m) → (IsErr r → ⊥) × (new.faults ≡ old.faults) × IsSomeAnd new.sound_for (λ q. n - length (a ++ b) ≤ q)
    step le x = more mid.sound_for x.2 k le x.1

sound_part : (a b : List ℕ) (x : Failed) (old new : SinkState) (u : Option ℕ) → IfSome u (λ n. length a ≤ n → (IsErr {T = Unit {0}} (Err x) → ⊥) × (new.faults ≡ old.faults) × IsSomeAnd new.sound_for (λ m. n - length a ≤ m)) →
    IfSome u (λ n. length (a ++ b) ≤ n → (IsErr {T = Unit {0}} (Err x) → ⊥) × (new.faults ≡ old.faults) × IsSomeAnd new.sound_for (λ m. n - length (a ++ b) ≤ m))
sound_part a b x old new None h = tt
sound_part a b x old new (Some n) h = λ le. absurd ((h (omega (arith, le, length-append a b))).0 refl)

-- all of a was written, and then b or a part of it
pub puts_then : (a b : List ℕ) (t : Unit {0}) (r : Answer) (old mid new : SinkState) → Puts {E = Failed} a (Ok t) old mid → Puts b r mid new → Puts (a ++ b) r old new
puts_then a b t r old mid new p q = record {
  bytes = views_then a b t r old.bytes mid.bytes new.bytes p.bytes q.bytes;
  faults = omega (arith, p.faults, q.faults);
  failed = λ e. rose_later old.faults mid.faults new.faults p.faults (q.failed e);
  counted = q.counted;
  sound = sound_then a b t r old mid new old.sound_for p.sound q.sound;
}

-- a part of a was written
pub puts_part : (a b : List ℕ) (x : Failed) (old new : SinkState) → Puts {T = Unit {0}} a (Err x) old new → Puts {T = Unit {0}} (a ++ b) (Err x) old new
puts_part a b x old new p = record {
  bytes = views_part a b x old.bytes new.bytes p.bytes;
  faults = p.faults;
  failed = p.failed;
  counted = p.counted;
  sound = sound_part a b x old new old.sound_for p.sound;
}

-- The same of a line that was made and written

pub puts_as : (x a : List ℕ) (r : Answer) (old new : SinkState) → x ≡ a → Puts x r old new → Puts a r old new
puts_as x a r old new e p = subst (λ (l : List ℕ). Puts l r old new) e p

pub puts_first : (x a b : List ℕ) (q : Answer) (t : Unit {0}) (r : Answer) (old mid new : SinkState) → x ≡ a → q ≡ Ok t → Puts x q old mid → Puts b r mid new → Puts (a ++ b) r old new
puts_first x a b q t r old mid new e ok p s = puts_then a b t r old mid new (subst (λ (z : Answer). Puts a z old mid) ok (puts_as x a q old mid e p)) s

pub puts_last : (x a b : List ℕ) (q : Answer) (f : Failed) (old new : SinkState) → x ≡ a → q ≡ Err f → Puts {T = Unit {0}} x q old new → Puts {T = Unit {0}} (a ++ b) (Err f) old new
puts_last x a b q f old new e err p = puts_part a b f old new (subst (λ (z : Answer). Puts a z old new) err (puts_as x a q old new e p))

none_added : (v : Option (List ℕ)) → OnViews v v (AddsBytes {E = Failed} [] (Ok (tt {0})))
none_added None = refl
none_added (Some l) = sym (append-nil l)

no_error : IsErr {T = Unit {0}} {E = Failed} (Ok (tt {0})) → ⊥
no_error e = cc

still_sound : (f : ℕ) (u v : Option ℕ) → u ≡ v → IfSome u (λ n. 0 ≤ n → (IsErr {T = Unit {0}} {E = Failed} (Ok (tt {0})) → ⊥) × (f ≡ f) × IsSomeAnd v (λ m. n - 0 ≤ m))
still_sound f None v e = tt
still_sound f (Some n) v e = λ le. ((λ x. no_error x), refl, subst (λ (w : Option ℕ). IsSomeAnd w (λ m. n - 0 ≤ m)) e (omega arith))

-- nothing was written
pub puts_none : (s : SinkState) → s.faults ≤ most → Puts {T = Unit {0}} {E = Failed} [] (Ok (tt {0})) s s
puts_none s le = record { bytes = none_added s.bytes; faults = omega arith; failed = λ e. absurd (no_error e); counted = le; sound = still_sound s.faults s.sound_for s.sound_for refl }

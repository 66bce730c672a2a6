-- What is kept of refusals, of the close and of a failure.
use Rattle.std.proofs.Common.{◌≡◌, ℕ, ◌+◌, ◌^◌, ◌<◌, ◌≤◌, List, [], ◌∷◌, ◌++◌, length, drop, sym, refl, ap, ◌∙◌, subst, arith, length-append, Bool, true, false, Option, Some, None}
use Rattle.std.specs.Prelude.{take as front, sum_by}
use mathlib.Core.Logic.{dite}
use mathlib.Core.Option.{some}
use mathlib.Core.Option as maybe
use native.Mathlib.Decide.{ℕ_discrete}
use lib.ListN.{get_elem?}
use Rattle.std.proofs.lemmas.List.{take-append-le}
use Rattle.atomic_table.proofs.Lists.{at_last}
use Rattle.lane_core.specs.Machine.{Bounds, is_full}
use Rattle.lane.specs.Sight.{Refusal}
use Rattle.lane.specs.Ring.{one_if, Refused, Ending, told_by, is_set}
use Rattle.lane.proofs.Slots.{at_end, within_length}

front_all : {A : Type 0} (xs : List A) → front (length xs) xs ≡ xs
front_all [] = refl
front_all (x ∷ xs) = ap (λ z. x ∷ z) (front_all xs)

-- the giver sees that more were taken
pub sees_more : {T : Type 0} (size : T → ℕ) (b : Bounds) (over : ℕ) (sent : List T) (seen seen' : ℕ) (rs : List (Refusal T)) (owes : Bool) (ns : List (ℕ × ℕ)) → seen ≤ seen' → Refused size b over sent seen rs owes ns → Refused size b over sent seen' rs owes ns
sees_more size b over sent seen seen' rs owes ns more h = record {
  counted = h.counted;
  few = h.few;
  each = λ i r e. let x = h.each i r e in let l = x.1 in (x.0, omega arith, x.2, x.3);
  rising = h.rising;
  known = h.known;
}

-- it gives one more
pub sends_more : {T : Type 0} (size : T → ℕ) (b : Bounds) (over : ℕ) (sent : List T) (seen : ℕ) (rs : List (Refusal T)) (owes : Bool) (ns : List (ℕ × ℕ)) (y : T) → Refused size b over sent seen rs owes ns → Refused size b over (sent ++ y ∷ []) seen rs owes ns
sends_more {T} size b over sent seen rs owes ns y h = record {
  counted = h.counted;
  few = h.few;
  each = λ i r e. let x = h.each i r e in let l = x.0 in let one : length (sent ++ y ∷ []) ≡ length sent + 1 = length-append sent (y ∷ []) in
      let same : front r.accepted sent ≡ front r.accepted (sent ++ y ∷ []) = sym (take-append-le r.accepted sent (y ∷ []) l) in
      (omega arith, x.1, x.2 ∙ ap (λ (zs : List T). sum_by size (drop r.head zs)) same, λ a is. ap (λ (zs : List T). is_full size b zs r.head (size a)) (sym same) ∙ x.3 a is);
  rising = h.rising;
  known = h.known;
}

-- an offer is refused
pub refuses : {T : Type 0} (size : T → ℕ) (b : Bounds) (over : ℕ) (sent : List T) (seen head : ℕ) (x : T) (rs : List (Refusal T)) (ns : List (ℕ × ℕ)) → is_full size b sent head (size x) ≡ true → seen ≤ head → length rs < 2 ^ 61 → Refused size b over sent seen rs false ns
    → Refused size b over sent head (rs ++ record { item = Some x; accepted = length sent; head = head; bytes = sum_by size (drop head sent) } ∷ []) true ns
refuses {T} size b over sent seen head x rs ns full more few h = let new : Refusal T = record { item = Some x; accepted = length sent; head = head; bytes = sum_by size (drop head sent) } in
    let one : length (rs ++ new ∷ []) ≡ length rs + 1 = length-append rs (new ∷ []) in let all : over + 0 ≡ length rs = h.counted in
    let last : (i : ℕ) (r : Refusal T) → i ≡ length rs → get_elem? (rs ++ new ∷ []) i ≡ some r → new ≡ r = λ i r is e. maybe.some-injective new r (sym (at_last rs new (length rs) refl) ∙ (ap (get_elem? (rs ++ new ∷ [])) (sym is) ∙ e)) in record {
      counted = omega arith;
      few = omega arith;
      each = λ i r e. dite (ℕ_discrete i (length rs))
          (λ is. subst (λ (r : Refusal T). (r.accepted ≤ length sent) × (r.head ≤ head) × (r.bytes ≡ sum_by size (drop r.head (front r.accepted sent))) × ((a : T) → r.item ≡ Some a → is_full size b (front r.accepted sent) r.head (size a) ≡ true)) (last i r is e)
          (omega arith, omega arith, ap (λ (zs : List T). sum_by size (drop head zs)) (sym (front_all sent)), λ a is. ap (λ (zs : List T). is_full size b zs head (size a)) (front_all sent) ∙ subst (λ (z : T). is_full size b sent head (size z) ≡ true) (let s : x ≡ a = cc in s) full))
          (λ ne. let y = h.each i r (at_end rs new r i e ne) in let m = y.1 in (y.0, omega arith, y.2, y.3));
      rising = λ i j r s le e f. dite (ℕ_discrete j (length rs))
          (λ is. let at : head ≡ s.head = ap (λ (z : Refusal T). z.head) (last j s is f) in dite (ℕ_discrete i (length rs))
          (λ is'. let at' : head ≡ r.head = ap (λ (z : Refusal T). z.head) (last i r is' e) in omega arith)
          (λ ne. let y = (h.each i r (at_end rs new r i e ne)).1 in omega arith))
          (λ ne. let old = at_end rs new s j f ne in let low = within_length rs j s old in h.rising i j r s le (at_end rs new r i e (λ q. omega arith)) old);
      known = λ i p e. let y = h.known i p e in let l = y.0 in (l, λ v r is at. y.1 v r is (at_end rs new r v at (λ q. omega arith)));
    }

-- and counted
pub counts : {T : Type 0} (size : T → ℕ) (b : Bounds) (over : ℕ) (sent : List T) (seen : ℕ) (rs : List (Refusal T)) (ns : List (ℕ × ℕ)) → Refused size b over sent seen rs true ns → Refused size b (over + 1) sent seen rs false ns
counts size b over sent seen rs ns h = let all : over + 1 ≡ length rs = h.counted in record {
  counted = omega arith;
  few = h.few;
  each = h.each;
  rising = h.rising;
  known = λ i p e. let x = h.known i p e in let l = x.0 in (omega arith, x.1);
}

-- the taker sees the number
pub numbers : {T : Type 0} (size : T → ℕ) (b : Bounds) (over : ℕ) (sent : List T) (seen got : ℕ) (rs : List (Refusal T)) (owes : Bool) (ns : List (ℕ × ℕ)) → seen ≤ got → Refused size b over sent seen rs owes ns → Refused size b over sent seen rs owes (ns ++ (over, got) ∷ [])
numbers {T} size b over sent seen got rs owes ns sees h = let new : ℕ × ℕ = (over, got) in record {
  counted = h.counted;
  few = h.few;
  each = h.each;
  rising = h.rising;
  known = λ i p e. dite (ℕ_discrete i (length ns))
      (λ is. let same : some new ≡ some p = sym (at_last ns new (length ns) refl) ∙ (ap (get_elem? (ns ++ new ∷ [])) (sym is) ∙ e) in
      subst (λ (x : ℕ × ℕ). (x.0 ≤ over) × ((v : ℕ) (r : Refusal T) → x.0 ≡ v + 1 → get_elem? rs v ≡ some r → r.head ≤ x.1)) (maybe.some-injective new p same)
      (omega arith, λ v r _ at. let m = (h.each v r at).1 in omega arith))
      (λ ne. h.known i p (at_end ns new p i e ne));
}

is_set_one : (b : Bool) → is_set (one_if b) ≡ true → b ≡ true
is_set_one true e = refl
is_set_one false e = e

-- the taker looks whether the giver closed
pub looks : {T : Type 0} (given got : List T) (holds : Option ℕ) (owes closed : Bool) (asked : ℕ) (told : Option ℕ) (saw ended failed : Bool) → Ending given got holds owes closed asked told saw ended failed
    → Ending given got holds owes closed asked told (is_set (one_if closed)) ended failed
looks given got holds owes closed asked told saw ended failed h = record { quiet = h.quiet; saw = is_set_one closed; whole = h.whole; told_is = h.told_is }

told_now : (asked : ℕ) (told : Option ℕ) (failed : Bool) → ((v : ℕ) → told ≡ Some v → (failed ≡ true) × (0 < v) × (v ≤ asked))
    → (v : ℕ) → told_by told (asked + 1) (one_if failed) ≡ Some v → (failed ≡ true) × (0 < v) × (v ≤ asked + 1)
told_now asked (Some w) failed h v e = let x = h v e in let l = x.2 in (x.0, x.1, omega arith)
told_now asked None true h v e = let is : asked + 1 ≡ v = cc in (refl, omega arith, omega arith)
told_now asked None false h v e = absurd (cc)

-- the giver asks whether the taker failed
pub asks : {T : Type 0} (given got : List T) (holds : Option ℕ) (owes closed : Bool) (asked : ℕ) (told : Option ℕ) (saw ended failed : Bool) → Ending given got holds owes closed asked told saw ended failed
    → Ending given got holds owes closed (asked + 1) (told_by told (asked + 1) (one_if failed)) saw ended failed
asks given got holds owes closed asked told saw ended failed h = record { quiet = h.quiet; saw = h.saw; whole = h.whole; told_is = told_now asked told failed h.told_is }

-- The turn at a place.
use Rattle.std.proofs.Common.{◌≡◌, ℕ, zero, suc, ◌+◌, ◌≤◌, Bool, true, false, nat_lt, List, [], ◌∷◌, ◌++◌, length, map, Some, refl, ap, ◌∙◌, arith, length-append, All}
use Rattle.std.specs.List.{slice_get}
use Rattle.std.proofs.lemmas.Bool.{ltb-true, ltb-false}
use Rattle.std.proofs.lemmas.List.Elements.{All-nil, All-cons}
use Rattle.lane.specs.declared.msg.Msg.{Msg}
use Rattle.slave.specs.Given.{Given}
use Rattle.slave.specs.Stretches.{Block, sent, swept, given_in, larger, given_of, last_of, messages_of, numbers_of, size_limit, Sized}
use Rattle.slave.specs.TurnAt.{given_for, TurnsAreExact}

get_left : {A : Type 0} (xs ys : List A) (k : ℕ) (x : A) → slice_get xs k ≡ Some x → slice_get (xs ++ ys) k ≡ Some x
get_left [] ys k x e = cc
get_left (z ∷ xs) ys zero x e = e
get_left (z ∷ xs) ys (suc k) x e = get_left xs ys k x e

get_right : {A : Type 0} (xs ys : List A) (n k : ℕ) → n ≡ length xs + k → slice_get (xs ++ ys) n ≡ slice_get ys k
get_right [] ys n k e = ap (λ i. slice_get ys i) (omega (arith, e))
get_right (z ∷ xs) ys zero k e = absurd (omega (arith, e))
get_right (z ∷ xs) ys (suc n) k e = get_right xs ys n k (omega (arith, e))

get_map : (f : Msg → Given) (ms : List Msg) (j : ℕ) (m : Msg) → slice_get ms j ≡ Some m → slice_get (map f ms) j ≡ Some (f m)
get_map f [] j m e = cc
get_map f (x ∷ ms) zero m e = ap (λ y. Some (f y)) (let h : x ≡ m = cc in h)
get_map f (x ∷ ms) (suc j) m e = get_map f ms j m e

get_turn : (c : Bool) (b : Block) (j : ℕ) (m : Msg) → slice_get b.messages j ≡ Some m → slice_get (given_in c b) j ≡ Some (given_for c b.number m)
get_turn true b j m e = get_map (swept b.number) b.messages j m e
get_turn false b j m e = get_map sent b.messages j m e

length-map : (f : Msg → Given) (ms : List Msg) → length (map f ms) ≡ length ms
length-map f [] = refl
length-map f (m ∷ ms) = ap suc (length-map f ms)

length-turns : (c : Bool) (b : Block) → length (given_in c b) ≡ length b.messages
length-turns true b = length-map (swept b.number) b.messages
length-turns false b = length-map sent b.messages

turn_in : (last : ℕ) (front : List Block) (b : Block) (back : List Block) (n j : ℕ) (m : Msg) → n ≡ length (messages_of front) + j → slice_get b.messages j ≡ Some m
    → slice_get (given_of last (front ++ b ∷ back)) n ≡ Some (given_for (nat_lt (last_of last front) b.number) b.number m)
turn_in last [] b back n j m is e = get_left (given_in (nat_lt last b.number) b) (given_of (larger (nat_lt last b.number) b.number last) back) n _
    (ap (λ i. slice_get (given_in (nat_lt last b.number) b) i) (omega (arith, is)) ∙ get_turn (nat_lt last b.number) b j m e)
turn_in last (x ∷ front) b back n j m is e = let next = larger (nat_lt last x.number) x.number last in
    let ts = given_in (nat_lt last x.number) x in
    get_right ts (given_of next (front ++ b ∷ back)) n (length (messages_of front) + j) (omega (arith, is, length-append x.messages (messages_of front), length-turns (nat_lt last x.number) x))
    ∙ turn_in next front b back (length (messages_of front) + j) j m refl e

seen_in : (got n : ℕ) (front : List Block) (b : Block) (back : List Block) → n ≡ got + length (messages_of front)
    → slice_get (numbers_of got (front ++ b ∷ back)) (length front) ≡ Some (b.number, n)
seen_in got n [] b back is = ap (λ (k : ℕ). Some (b.number, k)) (omega (arith, is))
seen_in got n (x ∷ front) b back is = seen_in (got + length x.messages) n front b back (omega (arith, is, length-append x.messages (messages_of front)))

few_in : (size last : ℕ) (front : List Block) (b : Block) (back : List Block) → Sized size last (front ++ b ∷ back)
    → length b.messages ≤ size_limit (nat_lt (last_of last front) b.number) size
few_in size last [] b back s = s.0
few_in size last (x ∷ front) b back s = few_in size (larger (nat_lt last x.number) x.number last) front b back s.1

at_least : (c : Bool) (number last : ℕ) → nat_lt last number ≡ c → (last ≤ larger c number last) × (number ≤ larger c number last)
at_least true number last e = (omega (arith, ltb-true last number e), omega arith)
at_least false number last e = (omega arith, ltb-false last number e)

grows : (last : ℕ) (bs : List Block) → last ≤ last_of last bs
grows last [] = omega arith
grows last (x ∷ bs) = omega (arith, (at_least (nat_lt last x.number) x.number last refl).0, grows (larger (nat_lt last x.number) x.number last) bs)

numbers_below : (last got : ℕ) (bs : List Block) → All (λ (p : ℕ × ℕ). p.0 ≤ last_of last bs) (numbers_of got bs)
numbers_below last got [] = All-nil (λ (p : ℕ × ℕ). p.0 ≤ last)
numbers_below last got (x ∷ bs) = let next = larger (nat_lt last x.number) x.number last in
    All-cons (λ (p : ℕ × ℕ). p.0 ≤ last_of next bs) (x.number, got) (numbers_of (got + length x.messages) bs)
    (omega (arith, (at_least (nat_lt last x.number) x.number last refl).1, grows next bs)) (numbers_below next (got + length x.messages) bs)

pub turns_are_exact : TurnsAreExact
turns_are_exact front b back = record {
  turn = λ j m e. turn_in 0 front b back (length (messages_of front) + j) j m refl e;
  seen = seen_in 0 (length (messages_of front)) front b back (omega arith);
  above = numbers_below 0 0 front;
  rises = λ e. let h = ltb-true (last_of 0 front) b.number e in (omega (arith, h), h);
  few = λ size s. few_in size 0 front b back s;
}

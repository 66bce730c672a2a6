-- The pending list of two queues.
use Rattle.std.proofs.Common.{◌≡◌, ℕ, ◌<◌, Bool, true, false, ◌||◌, ◌&&◌, List, [], ◌∷◌, ◌++◌, ap, ◌∙◌, sym, refl, arith, not, zero, suc, drop, length, subst}
use Rattle.std.specs.Prelude.{if◌then◌else◌, ℤ, ◌≤ℤ◌, int_lt, int_le, nat_lt, Option, Some, None, is_some, ◌==◌}
use Rattle.std.specs.List.{list_any}
use Rattle.std.proofs.lemmas.Int.{ints}
use Rattle.std.proofs.lemmas.List.Sums.{fold-append}
use Rattle.rmx_media.specs.declared.packet.Packet.{Packet}
use Rattle.interleaver.specs.Interleave.{put_in, is_before, is_over, has_all, may_go}
use Rattle.interleaver.specs.Queues.{IsQueue, lined, front_dts, second_leads, is_past, goes_by, TakesHead, Pending, Pops, Pushed, last_of}
use Rattle.std.specs.Option.{option_to_list}

-- no later packet of a stream with the same or a lower number goes before
not_before : (a b : ℤ) (s t : ℕ) → b ≤ℤ a → (s < t → ⊥) → (int_lt a b || (int_le a b && nat_lt s t)) ≡ false
not_before a b s t h k = grind (arith, ints)

before_flip : (a b : ℤ) → (int_lt b a || (int_le b a && nat_lt 1 0)) ≡ not (int_lt a b || (int_le a b && nat_lt 0 1))
before_flip a b = grind (arith, ints)

before_through : (a b c : ℤ) (s t u : ℕ) → (int_lt a b || (int_le a b && nat_lt s t)) ≡ true → (int_lt b c || (int_le b c && nat_lt t u)) ≡ true → (int_lt a c || (int_le a c && nat_lt s u)) ≡ true
before_through a b c s t u h k = grind (arith, ints)

flips : (p y : Packet) → p.stream ≡ 0 → y.stream ≡ 1 → is_before y p ≡ not (is_before p y)
flips p y a b = rw (a, b) (before_flip p.dts y.dts)

through : (a b c : Packet) → is_before a b ≡ true → is_before b c ≡ true → is_before a c ≡ true
through a b c = before_through a.dts b.dts c.dts a.stream b.stream c.stream

-- two places in one list
two_places : (a b c d : Bool) (p y x : Packet) (xs pl yl both : List Packet) →
    d ≡ not c → (c ≡ true → b ≡ true → a ≡ true) → (d ≡ true → a ≡ true → b ≡ true) →
    (if b then (if c then p ∷ y ∷ x ∷ xs else y ∷ (if a then p ∷ x ∷ xs else x ∷ pl)) else (if a then p ∷ x ∷ yl else x ∷ both))
    ≡ (if a then (if d then y ∷ p ∷ x ∷ xs else p ∷ (if b then y ∷ x ∷ xs else x ∷ yl)) else (if b then y ∷ x ∷ pl else x ∷ both))
two_places true true true d p y x xs pl yl both e f g = rw e refl
two_places true true false d p y x xs pl yl both e f g = rw e refl
two_places true false true d p y x xs pl yl both e f g = rw e refl
two_places true false false d p y x xs pl yl both e f g = absurd (no (g e refl))
  where
    no : false ≡ true → ⊥
    no h = cc
two_places false true true d p y x xs pl yl both e f g = absurd (no (f refl refl))
  where
    no : false ≡ true → ⊥
    no h = cc
two_places false true false d p y x xs pl yl both e f g = refl
two_places false false c d p y x xs pl yl both e f g = refl

push_if : (b : Bool) (p x : Packet) (u v : List Packet) → put_in p (if b then u else v) ≡ (if b then put_in p u else put_in p v)
push_if true p x u v = refl
push_if false p x u v = refl

pub swap_places : (p y : Packet) (xs : List Packet) → p.stream ≡ 0 → y.stream ≡ 1 → put_in p (put_in y xs) ≡ put_in y (put_in p xs)
swap_places p y [] a b = ends (is_before p y) (is_before y p) (flips p y a b)
  where
    ends : (c d : Bool) → d ≡ not c → (if c then p ∷ y ∷ [] else y ∷ p ∷ []) ≡ (if d then y ∷ p ∷ [] else p ∷ y ∷ [])
    ends true d e = rw e refl
    ends false d e = rw e refl
swap_places p y (x ∷ xs) a b =
    push_if (is_before y x) p x (y ∷ x ∷ xs) (x ∷ put_in y xs)
    ∙ two_places (is_before p x) (is_before y x) (is_before p y) (is_before y p) p y x xs (put_in p xs) (put_in y xs) (put_in p (put_in y xs))
    (flips p y a b) (through p y x) (through y p x)
    ∙ ap (λ (l : List Packet). if is_before p x then (if is_before y p then y ∷ p ∷ x ∷ xs else p ∷ (if is_before y x then y ∷ x ∷ xs else x ∷ put_in y xs)) else (if is_before y x then y ∷ x ∷ put_in p xs else x ∷ l)) (swap_places p y xs a b)
    ∙ sym (push_if (is_before p x) y x (p ∷ x ∷ xs) (x ∷ put_in p xs))

any_if : (t : Packet → Bool) (b : Bool) (u v : List Packet) → list_any t (if b then u else v) ≡ (if b then list_any t u else list_any t v)
any_if t true u v = refl
any_if t false u v = refl

any_put : (t : Packet → Bool) (p : Packet) (xs : List Packet) → list_any t (put_in p xs) ≡ (t p || list_any t xs)
any_put t p [] = refl
any_put t p (x ∷ xs) =
    any_if t (is_before p x) (p ∷ x ∷ xs) (x ∷ put_in p xs)
    ∙ ap (λ (b : Bool). if is_before p x then (t p || (t x || list_any t xs)) else (t x || b)) (any_put t p xs)
    ∙ turned (is_before p x) (t p) (t x) (list_any t xs)
  where
    turned : (b u v w : Bool) → (if b then (u || (v || w)) else (v || (u || w))) ≡ (u || (v || w))
    turned true u v w = refl
    turned false true true w = refl
    turned false true false w = refl
    turned false false true w = refl
    turned false false false w = refl

any_lined : (t : Packet → Bool) (a b : List Packet) → list_any t (lined a b) ≡ (list_any t a || list_any t b)
any_lined t a [] = or_false (list_any t a)
  where
    or_false : (b : Bool) → b ≡ (b || false)
    or_false true = refl
    or_false false = refl
any_lined t a (p ∷ b) = any_lined t (put_in p a) b ∙ ap (λ (v : Bool). v || list_any t b) (any_put t p a) ∙ turned (t p) (list_any t a) (list_any t b)
  where
    turned : (u v w : Bool) → ((u || v) || w) ≡ (v || (u || w))
    turned true true w = refl
    turned true false w = refl
    turned false true w = refl
    turned false false w = refl

past_later : (delta : ℕ) (h a b : ℤ) → a ≤ℤ b → is_past delta h a ≡ true → is_past delta h b ≡ true
past_later delta h a b le e = grind (arith, ints)

below_last : (s : ℕ) (last : ℤ) (x : Packet) (xs : List Packet) → IsQueue s last (x ∷ xs) → x.dts ≤ℤ last
below_last s last x [] k = rw k.1 (omega (arith, ints))
below_last s last x (y ∷ ys) k = omega (arith, ints, k.1, below_last s last y ys k.2)

any_past : (s delta : ℕ) (h last : ℤ) (q : List Packet) → IsQueue s last q → list_any (is_over delta h) q ≡ (is_some (front_dts q) && is_past delta h last)
any_past s delta h last [] k = refl
any_past s delta h last (x ∷ []) k = rw k.1 (either (is_past delta h last))
  where
    either : (b : Bool) → (b || false) ≡ b
    either true = refl
    either false = refl
any_past s delta h last (x ∷ y ∷ ys) k =
    ap (λ (b : Bool). is_past delta h x.dts || b) (any_past s delta h last (y ∷ ys) k.2)
    ∙ under (is_past delta h x.dts) (is_past delta h last) (past_later delta h x.dts last (omega (arith, ints, k.1, below_last s last y ys k.2)))
  where
    under : (a b : Bool) → (a ≡ true → b ≡ true) → (a || b) ≡ b
    under true true f = refl
    under true false f = sym (f refl)
    under false b f = refl

any_own : (s : ℕ) (last : ℤ) (q : List Packet) → IsQueue s last q → list_any (λ (p : Packet). p.stream == s) q ≡ is_some (front_dts q)
any_own s last [] k = refl
any_own s last (x ∷ []) k = let e : (x.stream == s) ≡ true = grind (arith, k.0) in rw e refl
any_own s last (x ∷ y ∷ ys) k = let e : (x.stream == s) ≡ true = grind (arith, k.0) in rw e refl

any_other : (s t : ℕ) (last : ℤ) (q : List Packet) → (s ≡ t → ⊥) → IsQueue s last q → list_any (λ (p : Packet). p.stream == t) q ≡ false
any_other s t last [] ne k = refl
any_other s t last (x ∷ []) ne k = let e : (x.stream == t) ≡ false = grind (arith, k.0) in rw e refl
any_other s t last (x ∷ y ∷ ys) ne k = let e : (x.stream == t) ≡ false = grind (arith, k.0) in rw e (any_other s t last (y ∷ ys) ne k.2)

-- none of these goes before z
NoneBefore : Packet → List Packet → Type 0
NoneBefore z [] = Unit {0}
NoneBefore z (y ∷ ys) = (is_before y z ≡ false) × NoneBefore z ys

-- z stays in front of what doesn't go before it
kept_front : (z : Packet) (a b : List Packet) → NoneBefore z b → lined (z ∷ a) b ≡ z ∷ lined a b
unfolding NoneBefore
kept_front z a [] k = refl
kept_front z a (y ∷ b) k = ap (λ (v : Bool). lined (if v then y ∷ z ∷ a else z ∷ put_in y a) b) k.0 ∙ kept_front z (put_in y a) b k.1

none_before : (s : ℕ) (last : ℤ) (z y : Packet) (ys : List Packet) → z.dts ≤ℤ y.dts → (s < z.stream → ⊥) → IsQueue s last (y ∷ ys) → NoneBefore z (y ∷ ys)
unfolding NoneBefore
none_before s last z y [] le lt k = (rw k.0 (not_before y.dts z.dts s z.stream le lt), tt)
none_before s last z y (w ∷ ws) le lt k =
    (rw k.0 (not_before y.dts z.dts s z.stream le lt), none_before s last z w ws (omega (arith, ints, k.1)) lt k.2)

queue_rest : (s : ℕ) (last : ℤ) (x : Packet) (xs : List Packet) → IsQueue s last (x ∷ xs) → IsQueue s last xs
queue_rest s last x [] k = tt
queue_rest s last x (y ∷ ys) k = k.2

queue_stream : (s : ℕ) (last : ℤ) (x : Packet) (xs : List Packet) → IsQueue s last (x ∷ xs) → x.stream ≡ s
queue_stream s last x [] k = k.0
queue_stream s last x (y ∷ ys) k = k.0

own_none : (s : ℕ) (last : ℤ) (y : Packet) (ys : List Packet) → IsQueue s last (y ∷ ys) → NoneBefore y ys
unfolding NoneBefore
own_none s last y [] k = tt
own_none s last y (w ∷ ws) k = none_before s last y w ws k.1 (let e = k.0 in omega (arith, e)) k.2

-- the head of the first queue goes in front
pub first_front : (l m : ℤ) (x : Packet) (a b : List Packet) → IsQueue 0 l (x ∷ a) → IsQueue 1 m b → second_leads (front_dts (x ∷ a)) (front_dts b) ≡ false → lined (x ∷ a) b ≡ x ∷ lined a b
unfolding NoneBefore
first_front l m x a [] k j e = refl
first_front l m x a (y ∷ b) k j e =
    kept_front x a (y ∷ b) (none_before 1 m x y b (not_under x.dts y.dts e) (let s = queue_stream 0 l x a k in omega (arith, s)) j)
  where
    not_under : (p q : ℤ) → int_lt q p ≡ false → p ≤ℤ q
    not_under p q e = grind (arith, ints)

-- the head of the second queue does
pub second_front : (l m : ℤ) (y : Packet) (a b : List Packet) → IsQueue 0 l a → IsQueue 1 m (y ∷ b) → second_leads (front_dts a) (front_dts (y ∷ b)) ≡ true → lined a (y ∷ b) ≡ y ∷ lined a b
second_front l m y [] b k j e = kept_front y [] b (own_none 1 m y b j)
second_front l m y (x ∷ a) b k j e =
    ap (λ (v : Bool). lined (if v then y ∷ x ∷ a else x ∷ put_in y a) b) (ap (λ (v : Bool). v || (int_le y.dts x.dts && nat_lt y.stream x.stream)) e)
    ∙ kept_front y (x ∷ a) b (own_none 1 m y b j)

-- a push at the end of a queue
queue_put : (s : ℕ) (last : ℤ) (p : Packet) (q : List Packet) → p.stream ≡ s → last ≤ℤ p.dts → IsQueue s last q → put_in p q ≡ q ++ p ∷ []
queue_put s last p [] st le k = refl
queue_put s last p (x ∷ xs) st le k =
    let h : x.dts ≤ℤ p.dts = omega (arith, ints, below_last s last x xs k) in
    let e : is_before p x ≡ false = not_before p.dts x.dts p.stream x.stream h (let f = queue_stream s last x xs k in omega (arith, f)) in
    ap (λ (v : Bool). if v then p ∷ x ∷ xs else x ∷ put_in p xs) e ∙ ap (λ (l : List Packet). x ∷ l) (queue_put s last p xs st le (queue_rest s last x xs k))

pub queue_push : (s : ℕ) (last : ℤ) (p : Packet) (q : List Packet) → p.stream ≡ s → last ≤ℤ p.dts → IsQueue s last q → IsQueue s p.dts (q ++ p ∷ [])
queue_push s last p [] st le k = (st, refl)
queue_push s last p (x ∷ []) st le k = (k.0, omega (arith, ints, k.1), (st, refl))
queue_push s last p (x ∷ y ∷ ys) st le k = (k.0, k.1, queue_push s last p (y ∷ ys) st le k.2)

lined_swap : (p : Packet) (xs b : List Packet) (m : ℤ) → p.stream ≡ 0 → IsQueue 1 m b → lined (put_in p xs) b ≡ put_in p (lined xs b)
lined_swap p xs [] m st k = refl
lined_swap p xs (y ∷ b) m st k =
    ap (λ (l : List Packet). lined l b) (sym (swap_places p y xs st (queue_stream 1 m y b k))) ∙ lined_swap p (put_in y xs) b m st (queue_rest 1 m y b k)

pub push_first : (l m : ℤ) (p : Packet) (a b : List Packet) → p.stream ≡ 0 → l ≤ℤ p.dts → IsQueue 0 l a → IsQueue 1 m b → lined (a ++ p ∷ []) b ≡ put_in p (lined a b)
push_first l m p a b st le k j = ap (λ (x : List Packet). lined x b) (sym (queue_put 0 l p a st le k)) ∙ lined_swap p a b m st j

pub push_second : (p : Packet) (a b : List Packet) → lined a (b ++ p ∷ []) ≡ put_in p (lined a b)
push_second p a b = fold-append (λ (pending : List Packet) (q : Packet). put_in q pending) a b (p ∷ [])

-- the test by the list
gone : ℕ → ℕ → Option ℤ → List Packet → Bool
gone n delta None xs = false
gone n delta (Some head) xs = has_all n xs || (nat_lt 0 delta && list_any (is_over delta head) xs)

may_go_gone : (n delta : ℕ) (xs : List Packet) → may_go n delta xs ≡ gone n delta (front_dts xs) xs
unfolding gone
may_go_gone n delta [] = refl
may_go_gone n delta (x ∷ xs) = refl

all_lined : (n : ℕ) (l m : ℤ) (a b : List Packet) → 0 < n → n < 3 → IsQueue 0 l a → IsQueue 1 m b → has_all n (lined a b) ≡ (is_some (front_dts a) && (nat_lt n 2 || is_some (front_dts b)))
all_lined zero l m a b p q k j = absurd (omega arith)
all_lined (suc zero) l m a b p q k j =
    rw (any_lined (λ (x : Packet). x.stream == 0) a b, any_own 0 l a k, any_other 1 0 m b (λ e. cc) j) (shape (is_some (front_dts a)))
  where
    shape : (u : Bool) → ((u || false) && true) ≡ (u && true)
    shape true = refl
    shape false = refl
all_lined (suc (suc zero)) l m a b p q k j =
    rw (any_lined (λ (x : Packet). x.stream == 1) a b, any_lined (λ (x : Packet). x.stream == 0) a b, any_own 0 l a k, any_own 1 m b j, any_other 1 0 m b (λ e. cc) j, any_other 0 1 l a (λ e. cc) k) (shape (is_some (front_dts a)) (is_some (front_dts b)))
  where
    shape : (u v : Bool) → ((false || v) && ((u || false) && true)) ≡ (u && (false || v))
    shape true true = refl
    shape true false = refl
    shape false true = refl
    shape false false = refl
all_lined (suc (suc (suc n))) l m a b p q k j = absurd (omega arith)

pub may_go_lined : (n delta : ℕ) (l m : ℤ) (a b : List Packet) → 0 < n → n < 3 → IsQueue 0 l a → IsQueue 1 m b → may_go n delta (lined a b) ≡ goes_by n delta (front_dts (lined a b)) (front_dts a) (front_dts b) l m
unfolding gone
may_go_lined n delta l m a b p q k j = may_go_gone n delta (lined a b) ∙ by (front_dts (lined a b))
  where
    by : (o : Option ℤ) → gone n delta o (lined a b) ≡ goes_by n delta o (front_dts a) (front_dts b) l m
    by None = refl
    by (Some head) = rw (all_lined n l m a b p q k j, any_lined (is_over delta head) a b, any_past 0 delta head l a k, any_past 1 delta head m b j) refl

no_shorter : (xs : List Packet) → xs ≡ drop 1 xs → xs ≡ []
no_shorter [] e = refl
no_shorter (x ∷ xs) e = absurd (let h = ap length e in omega arith)

pub take_second : (l m : ℤ) (a b b' : List Packet) (r : Option Packet) → IsQueue 0 l a → IsQueue 1 m b → second_leads (front_dts a) (front_dts b) ≡ true → b ≡ option_to_list r ++ b' → b' ≡ drop 1 b → TakesHead r (lined a b) (lined a b')
take_second l m a b b' (Some y) k j t e d =
    ap (lined a) e ∙ second_front l m y a b' k (subst (λ (q : List Packet). IsQueue 1 m q) e j) (subst (λ (q : List Packet). second_leads (front_dts a) (front_dts q) ≡ true) e t)
take_second l m [] b b' None k j t e d =
    let n : b ≡ [] = no_shorter b (e ∙ d) in (ap (lined []) n, ap (lined []) (sym e ∙ n))
take_second l m (x ∷ a) b b' None k j t e d =
    let n : b ≡ [] = no_shorter b (e ∙ d) in
    let f : false ≡ true = subst (λ (q : List Packet). second_leads (Some x.dts) (front_dts q) ≡ true) n t in absurd (no f)
  where
    no : false ≡ true → ⊥
    no h = cc

pub take_first : (l m : ℤ) (a a' b : List Packet) (r : Option Packet) → IsQueue 0 l a → IsQueue 1 m b → second_leads (front_dts a) (front_dts b) ≡ false → a ≡ option_to_list r ++ a' → a' ≡ drop 1 a → TakesHead r (lined a b) (lined a' b)
take_first l m a a' b (Some x) k j t e d =
    ap (λ (q : List Packet). lined q b) e ∙ first_front l m x a' b (subst (λ (q : List Packet). IsQueue 0 l q) e k) j (subst (λ (q : List Packet). second_leads (front_dts q) (front_dts b) ≡ false) e t)
take_first l m a a' b None k j t e d =
    let n : a ≡ [] = no_shorter a (e ∙ d) in
    let f : true ≡ false = subst (λ (q : List Packet). second_leads (front_dts q) (front_dts b) ≡ false) n t in absurd (no f)
  where
    no : true ≡ false → ⊥
    no h = cc

pub front_lined : (l m : ℤ) (a b : List Packet) → IsQueue 0 l a → IsQueue 1 m b → front_dts (lined a b) ≡ (if second_leads (front_dts a) (front_dts b) then front_dts b else front_dts a)
front_lined l m [] [] k j = refl
front_lined l m [] (y ∷ b) k j = ap front_dts (second_front l m y [] b k j refl)
front_lined l m (x ∷ a) [] k j = refl
front_lined l m (x ∷ a) (y ∷ b) k j = by (int_lt y.dts x.dts) refl
  where
    by : (v : Bool) → int_lt y.dts x.dts ≡ v → front_dts (lined (x ∷ a) (y ∷ b)) ≡ (if int_lt y.dts x.dts then Some y.dts else Some x.dts)
    by true e = ap front_dts (second_front l m y (x ∷ a) b k j e) ∙ sym (ap (λ (v : Bool). if v then Some y.dts else Some x.dts) e)
    by false e = ap front_dts (first_front l m x a (y ∷ b) k j e) ∙ sym (ap (λ (v : Bool). if v then Some y.dts else Some x.dts) e)

pub may_go_is : (r : Bool) (n delta : ℕ) (l m l' m' : ℤ) (a b : List Packet) (h f s : Option ℤ) → l' ≡ l → m' ≡ m → 0 < n → n < 3 → IsQueue 0 l a → IsQueue 1 m b → f ≡ front_dts a → s ≡ front_dts b → h ≡ (if second_leads f s then s else f) → r ≡ goes_by n delta h f s l' m' → r ≡ may_go n delta (lined a b)
may_go_is r n delta l m l' m' a b h f s el em p q k j ef es eh er =
    er ∙ same ∙ sym (may_go_lined n delta l m a b p q k j)
  where
    same : goes_by n delta h f s l' m' ≡ goes_by n delta (front_dts (lined a b)) (front_dts a) (front_dts b) l m
    same = rw (front_lined l m a b k j, eh, ef, es, el, em) refl

-- what a pop does
pub pops : (old : Pending) (r : Option Packet) (rest : List Packet) → (old.finished || may_go old.streams old.delta old.pending) ≡ true → TakesHead r old.pending rest → Pops r old (record old { pending = rest })
pops old None rest t h = (rw h.0 (no old.finished), rw (h.0, h.1) refl)
  where
    no : (b : Bool) → ((b && false) || false) ≡ false
    no true = refl
    no false = refl
pops old (Some p) rest t h = (rw h (yes old.finished (may_go old.streams old.delta (p ∷ rest)) (subst (λ (q : List Packet). (old.finished || may_go old.streams old.delta q) ≡ true) h t)), h, refl)
  where
    yes : (b g : Bool) → (b || g) ≡ true → ((b && true) || g) ≡ true
    yes true g e = refl
    yes false g e = e

pub pushed_first : (n delta : ℕ) (l m d : ℤ) (fin : Bool) (p : Packet) (a a' b : List Packet) → p.stream ≡ 0 → l ≤ℤ p.dts → IsQueue 0 l a → IsQueue 1 m b → d ≡ p.dts → a' ≡ a ++ p ∷ [] →
    Pushed p record { streams = n; delta = delta; pending = lined a b; first_last = l; second_last = m; finished = fin } record { streams = n; delta = delta; pending = lined a' b; first_last = d; second_last = m; finished = fin }
pushed_first n delta l m d fin p a a' b st le k j e i =
    record { pending = ap (λ (q : List Packet). lined q b) i ∙ push_first l m p a b st le k j; streams = refl; delta = refl; last = rw st e; other = rw st refl; finished = refl }

pub pushed_second : (n delta : ℕ) (l m d : ℤ) (fin : Bool) (p : Packet) (a b b' : List Packet) → p.stream ≡ 1 → d ≡ p.dts → b' ≡ b ++ p ∷ [] →
    Pushed p record { streams = n; delta = delta; pending = lined a b; first_last = l; second_last = m; finished = fin } record { streams = n; delta = delta; pending = lined a b'; first_last = l; second_last = d; finished = fin }
pushed_second n delta l m d fin p a b b' st e i =
    record { pending = ap (lined a) i ∙ push_second p a b; streams = refl; delta = refl; last = rw st e; other = rw st refl; finished = refl }

-- the queue that got the packet
pub queue_got : (s : ℕ) (last d : ℤ) (p : Packet) (q q' : List Packet) → p.stream ≡ s → last ≤ℤ p.dts → IsQueue s last q → d ≡ p.dts → q' ≡ q ++ p ∷ [] → IsQueue s d q'
queue_got s last d p q q' st le k e i = rw (e, i) (queue_push s last p q st le k)

pub at_first : (v : Pending) (l d : ℤ) (stream : ℕ) → v.first_last ≡ l → stream ≡ 0 → last_of v stream ≤ℤ d → l ≤ℤ d
at_first v l d stream e st h = let g = rw (st, e) at h in g

pub at_second : (v : Pending) (l d : ℤ) (stream : ℕ) → v.second_last ≡ l → stream ≡ 1 → last_of v stream ≤ℤ d → l ≤ℤ d
at_second v l d stream e st h = let g = rw (st, e) at h in g

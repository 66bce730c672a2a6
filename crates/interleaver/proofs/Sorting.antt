-- With delta 0 the order is a stable sort.
use Rattle.std.proofs.Common.{◌≡◌, ℕ, ◌<◌, ◌≤◌, Bool, true, false, ◌||◌, ◌&&◌, not, List, [], ◌∷◌, ◌++◌, append_assoc, append-nil, add-one, ap, ◌∙◌, sym, refl, subst, arith, zero, suc, length, get_or, inl, inr, ◌⊎◌}
use Rattle.std.specs.Prelude.{if◌then◌else◌, fold, ℤ, ◌≤ℤ◌, int_lt, int_le, nat_lt, ◌==◌, pos, ◌-ℤ◌, ◌*ℤ◌}
use Rattle.std.specs.List.{All, list_any, filter}
use Rattle.std.specs.List.Sorted.{IsPermutation, IsSortedBy, ties}
use Rattle.std.proofs.lemmas.Int.{ints}
use Rattle.std.proofs.lemmas.Bool.{cases_lt}
use Rattle.std.proofs.lemmas.List.Sorted.{IsPermutation-append_left, IsPermutation-append_right, IsPermutation-append_comm, IsPermutation-refl, IsPermutation-trans}
use Rattle.std.proofs.lemmas.List.Elements.{filter-append}
use Rattle.rmx_media.specs.declared.packet.Packet.{Packet}
use Rattle.interleaver.specs.Interleave.{Line, put_in, is_before, is_over, has_all, has_stream, may_go, release, arrive, no_line, line_of, interleave}
use Rattle.interleaver.specs.Sorting.{IsStableSort, NeverFalls}
use Rattle.interleaver.proofs.Steps.{release_whole}

-- P holds of each, by recursion
abbrev Each : (Packet → Type 0) → List Packet → Type 0
Each P [] = Unit {0}
Each P (x ∷ xs) = P x × Each P xs

-- none goes before an earlier one
abbrev Ordered : List Packet → Type 0
Ordered [] = Unit {0}
Ordered (x ∷ xs) = Each (λ y. is_before y x ≡ false) xs × Ordered xs

-- no later packet of the stream of an earlier one has a lower dts
abbrev NoFall : List Packet → Type 0
NoFall [] = Unit {0}
NoFall (x ∷ xs) = Each (λ y. x.stream ≡ y.stream → x.dts ≤ℤ y.dts) xs × NoFall xs

not_itself : (a : ℤ) (s : ℕ) → (int_lt a a || (int_le a a && nat_lt s s)) ≡ false
not_itself a s = grind (arith, ints)

not_back : (a b : ℤ) (s t : ℕ) → (int_lt a b || (int_le a b && nat_lt s t)) ≡ true → (int_lt b a || (int_le b a && nat_lt t s)) ≡ false
not_back a b s t h = grind (arith, ints)

not_past : (a b c : ℤ) (s t u : ℕ) → (int_lt a b || (int_le a b && nat_lt s t)) ≡ true → (int_lt c b || (int_le c b && nat_lt u t)) ≡ false → (int_lt c a || (int_le c a && nat_lt u s)) ≡ false
not_past a b c s t u h k = grind (arith, ints)

not_later : (a b c : ℤ) (s t u : ℕ) → (int_lt a b || (int_le a b && nat_lt s t)) ≡ false → s ≡ u → a ≤ℤ c → (int_lt c b || (int_le c b && nat_lt u t)) ≡ false
not_later a b c s t u h e l = grind (arith, ints)

each_map : (P Q : Packet → Type 0) → ((x : Packet) → P x → Q x) → (xs : List Packet) → Each P xs → Each Q xs
each_map P Q f [] h = tt
each_map P Q f (x ∷ xs) h = (f x h.0, each_map P Q f xs h.1)

each_if : (P : Packet → Type 0) (b : Bool) (u v : List Packet) → Each P u → Each P v → Each P (if b then u else v)
each_if P true u v h k = h
each_if P false u v h k = k

each_put : (P : Packet → Type 0) (p : Packet) (xs : List Packet) → P p → Each P xs → Each P (put_in p xs)
each_put P p [] h k = (h, tt)
each_put P p (x ∷ xs) h k = each_if P (is_before p x) (p ∷ x ∷ xs) (x ∷ put_in p xs) (h, (k.0, k.1)) (k.0, each_put P p xs h k.1)

each_end : (P : Packet → Type 0) (xs : List Packet) (p : Packet) → Each P xs → P p → Each P (xs ++ p ∷ [])
each_end P [] p h k = (k, tt)
each_end P (x ∷ xs) p h k = (h.0, each_end P xs p h.1 k)

put_ordered : (p : Packet) (xs : List Packet) → Ordered xs → Ordered (put_in p xs)
put_ordered p [] h = (tt, tt)
put_ordered p (x ∷ xs) h = by (put_ordered p xs h.1) (is_before p x) refl
  where
    by : Ordered (put_in p xs) → (b : Bool) → is_before p x ≡ b → Ordered (if b then p ∷ x ∷ xs else x ∷ put_in p xs)
    by rest true e = (
      (not_back p.dts x.dts p.stream x.stream e, each_map (λ y. is_before y x ≡ false) (λ y. is_before y p ≡ false) (λ y k. not_past p.dts x.dts y.dts p.stream x.stream y.stream e k) xs h.0),
      (h.0, h.1),
    )
    by rest false e = (each_put (λ y. is_before y x ≡ false) p xs e h.0, rest)

release_ordered : (n delta : ℕ) (out xs : List Packet) → Ordered xs → Ordered (release n delta out xs).pending
release_ordered n delta out [] h = tt
release_ordered n delta out (x ∷ xs) h = by (release_ordered n delta (out ++ x ∷ []) xs h.1) (may_go n delta (x ∷ xs))
  where
    by : Ordered (release n delta (out ++ x ∷ []) xs).pending → (b : Bool) → Ordered (if b then release n delta (out ++ x ∷ []) xs else record { out = out; pending = x ∷ xs }).pending
    by rest true = rest
    by rest false = h

-- a later packet p has its place behind what went out, and behind what is pending of its stream
record Fits (n : ℕ) (out pending : List Packet) (p : Packet) : Type 0 where
  below : p.stream < n
  out_before : Each (λ x. is_before p x ≡ false) out
  rising : Each (λ y. y.stream ≡ p.stream → y.dts ≤ℤ p.dts) pending

both : (a b : Bool) → (a && b) ≡ true → (a ≡ true) × (b ≡ true)
both true b e = (refl, e)
both false b e = cc

all_have : (n stream : ℕ) (xs : List Packet) → has_all n xs ≡ true → stream < n → has_stream stream xs ≡ true
all_have zero stream xs h l = absurd (omega arith)
all_have (suc n) stream xs h l = by (all_have n stream xs (both (has_stream n xs) (has_all n xs) h).1) (cases_lt stream n)
  where
    by : (stream < n → has_stream stream xs ≡ true) → (stream < n) ⊎ (n ≤ stream) → has_stream stream xs ≡ true
    by below (inl k) = below k
    by below (inr k) = let e : n ≡ stream = omega arith in subst (λ (s : ℕ). has_stream s xs ≡ true) e (both (has_stream n xs) (has_all n xs) h).0

not_before_head : (p x : Packet) (ys : List Packet) → has_stream p.stream ys ≡ true → Each (λ y. is_before y x ≡ false) ys → Each (λ y. y.stream ≡ p.stream → y.dts ≤ℤ p.dts) ys → is_before p x ≡ false
not_before_head p x [] h k r = cc
not_before_head p x (y ∷ ys) h k r = by (λ t. not_before_head p x ys t k.1 r.1) (y.stream == p.stream) refl h
  where
    by : (has_stream p.stream ys ≡ true → is_before p x ≡ false) → (b : Bool) → (y.stream == p.stream) ≡ b → (b || has_stream p.stream ys) ≡ true → is_before p x ≡ false
    by rest true e t =
        let s : y.stream ≡ p.stream = grind (arith, e) in
        not_later y.dts x.dts p.dts y.stream x.stream p.stream k.0 s (r.0 s)
    by rest false e t = rest t

or_false : (b : Bool) → (b || false) ≡ true → b ≡ true
or_false true e = refl
or_false false e = e

release_fits : (n : ℕ) (out xs : List Packet) (p : Packet) → Ordered xs → Fits n out xs p → Fits n (release n 0 out xs).out (release n 0 out xs).pending p
release_fits n out [] p o f = f
release_fits n out (x ∷ xs) p o f = by (release_fits n (out ++ x ∷ []) xs p o.1) (may_go n 0 (x ∷ xs)) refl
  where
    by : (Fits n (out ++ x ∷ []) xs p → Fits n (release n 0 (out ++ x ∷ []) xs).out (release n 0 (out ++ x ∷ []) xs).pending p) → (b : Bool) → may_go n 0 (x ∷ xs) ≡ b → Fits n (if b then release n 0 (out ++ x ∷ []) xs else record { out = out; pending = x ∷ xs }).out (if b then release n 0 (out ++ x ∷ []) xs else record { out = out; pending = x ∷ xs }).pending p
    by rest true e =
        let all : has_all n (x ∷ xs) ≡ true = or_false (has_all n (x ∷ xs)) e in
        let last : is_before p x ≡ false = not_before_head p x (x ∷ xs) (all_have n p.stream (x ∷ xs) all f.below) (not_itself x.dts x.stream, o.0) f.rising in
        rest record { below = f.below; out_before = each_end (λ y. is_before p y ≡ false) out x f.out_before last; rising = f.rising.1 }
    by rest false e = f

put_past : (p : Packet) (out xs : List Packet) → Each (λ x. is_before p x ≡ false) out → put_in p (out ++ xs) ≡ out ++ put_in p xs
put_past p [] xs h = refl
put_past p (x ∷ out) xs h = ap (λ (b : Bool). if b then p ∷ x ∷ (out ++ xs) else x ∷ put_in p (out ++ xs)) h.0 ∙ ap (λ (l : List Packet). x ∷ l) (put_past p out xs h.1)

abbrev sorting : List Packet → List Packet → List Packet
sorting xs packets = fold (λ line p. put_in p line) xs packets

folds : (n : ℕ) (l : Line) (more : List Packet) → Ordered l.pending → Each (Fits n l.out l.pending) more → NoFall more → (fold (arrive n 0) l more).out ++ (fold (arrive n 0) l more).pending ≡ sorting (l.out ++ l.pending) more
folds n l [] o f r = refl
folds n l (p ∷ more) o f r =
    folds n (arrive n 0 l p) more (release_ordered n 0 l.out (put_in p l.pending) ordered) (fits more f.1 r.0) r.1
    ∙ ap (λ (xs : List Packet). sorting xs more) (release_whole n 0 l.out (put_in p l.pending) ∙ sym (put_past p l.out l.pending (f.0).out_before))
  where
    ordered : Ordered (put_in p l.pending)
    ordered = put_ordered p l.pending o

    fits : (qs : List Packet) → Each (Fits n l.out l.pending) qs → Each (λ q. p.stream ≡ q.stream → p.dts ≤ℤ q.dts) qs → Each (Fits n (arrive n 0 l p).out (arrive n 0 l p).pending) qs
    fits [] g k = tt
    fits (q ∷ qs) g k = (
      release_fits n l.out (put_in p l.pending) q ordered record {
        below = (g.0).below;
        out_before = (g.0).out_before;
        rising = each_put (λ y. y.stream ≡ q.stream → y.dts ≤ℤ q.dts) p l.pending k.0 (g.0).rising;
      },
      fits qs g.1 k.1,
    )

-- from places to recursion
each_of : (P : Packet → Type 0) (xs : List Packet) → All P xs → Each P xs
each_of P [] h = tt
each_of P (x ∷ xs) h = (h 0 x (omega arith), each_of P xs (λ k d l. h (suc k) d (omega arith)))

no_fall_of : (xs : List Packet) → NeverFalls xs → NoFall xs
no_fall_of [] h = tt
no_fall_of (x ∷ xs) h = (each_of (λ y. x.stream ≡ y.stream → x.dts ≤ℤ y.dts) xs (λ k d l. h 0 (suc k) d (omega arith) (omega arith)), no_fall_of xs (λ i j d l m. h (suc i) (suc j) d (omega arith) (omega arith)))

starts : (n : ℕ) (xs : List Packet) → Each (λ p. p.stream < n) xs → Each (Fits n [] []) xs
starts n xs h = each_map (λ p. p.stream < n) (Fits n [] []) (λ p l. record { below = l; out_before = tt; rising = tt }) xs h

pub interleave_sorts : (n : ℕ) (packets : List Packet) → All (λ p. p.stream < n) packets → NeverFalls packets → interleave n 0 packets ≡ sorting [] packets
unfolding line_of
interleave_sorts n packets below falls = folds n no_line packets tt (starts n packets (each_of (λ p. p.stream < n) packets below)) (no_fall_of packets falls)

-- the same packets
put_between : (p : Packet) (xs : List Packet) → (front : List Packet) × (back : List Packet) × (xs ≡ front ++ back) × (put_in p xs ≡ front ++ p ∷ back)
put_between p [] = ([], [], refl, refl)
put_between p (x ∷ xs) = by (is_before p x) (put_between p xs)
  where
    by : (b : Bool) → ((front : List Packet) × (back : List Packet) × (xs ≡ front ++ back) × (put_in p xs ≡ front ++ p ∷ back)) → (front : List Packet) × (back : List Packet) × (x ∷ xs ≡ front ++ back) × ((if b then p ∷ x ∷ xs else x ∷ put_in p xs) ≡ front ++ p ∷ back)
    by true r = ([], x ∷ xs, refl, refl)
    by false r = (x ∷ r.0, r.1, ap (λ (l : List Packet). x ∷ l) r.2, ap (λ (l : List Packet). x ∷ l) r.3)

put_moves : (p : Packet) (xs : List Packet) → IsPermutation (xs ++ p ∷ []) (put_in p xs)
put_moves p xs =
    let r = put_between p xs in
    let whole : xs ++ p ∷ [] ≡ r.0 ++ (r.1 ++ p ∷ []) = ap (λ (l : List Packet). l ++ p ∷ []) r.2 ∙ append_assoc r.0 r.1 (p ∷ []) in
    subst (λ (l : List Packet). IsPermutation l (put_in p xs)) (sym whole)
    (subst (IsPermutation (r.0 ++ (r.1 ++ p ∷ []))) (sym r.3) (IsPermutation-append_right r.0 (r.1 ++ p ∷ []) (p ∷ r.1) (IsPermutation-append_comm r.1 (p ∷ []))))

sorting_moves : (xs packets : List Packet) → IsPermutation (xs ++ packets) (sorting xs packets)
sorting_moves xs [] = subst (λ (l : List Packet). IsPermutation l xs) (sym (append-nil xs)) (IsPermutation-refl xs)
sorting_moves xs (p ∷ packets) =
    IsPermutation-trans (xs ++ p ∷ packets) (put_in p xs ++ packets) (sorting (put_in p xs) packets)
    (subst (λ (l : List Packet). IsPermutation l (put_in p xs ++ packets)) (append_assoc xs (p ∷ []) packets) (IsPermutation-append_left packets (xs ++ p ∷ []) (put_in p xs) (put_moves p xs)))
    (sorting_moves (put_in p xs) packets)

-- in order
sorting_ordered : (xs packets : List Packet) → Ordered xs → Ordered (sorting xs packets)
sorting_ordered xs [] h = h
sorting_ordered xs (p ∷ packets) h = sorting_ordered (put_in p xs) packets (put_ordered p xs h)

ordered_next : (xs : List Packet) (k : ℕ) (d : Packet) → Ordered xs → suc k < length xs → is_before (get_or xs (suc k) d) (get_or xs k d) ≡ false
ordered_next [] k d h l = absurd (omega arith)
ordered_next (x ∷ []) k d h l = absurd (omega arith)
ordered_next (x ∷ y ∷ ys) zero d h l = h.0.0
ordered_next (x ∷ y ∷ ys) (suc k) d h l = ordered_next (y ∷ ys) k d h.1 (omega arith)

ordered_places : (xs : List Packet) → Ordered xs → IsSortedBy is_before xs
ordered_places xs h k d low l = rw add-one (ordered_next xs k d h (omega arith))

-- those that tie in their order
before_all : (a b c : ℤ) (s t u : ℕ) → (int_lt a b || (int_le a b && nat_lt s t)) ≡ true → (int_lt c b || (int_le c b && nat_lt u t)) ≡ false → (int_lt a c || (int_le a c && nat_lt s u)) ≡ true
before_all a b c s t u h k = grind (arith, ints)

no_tie : (x p z : Packet) → ties is_before x p ≡ true → is_before p z ≡ true → ties is_before x z ≡ false
no_tie x p z = numbers x.dts p.dts z.dts x.stream p.stream z.stream
  where
    numbers : (a b c : ℤ) (s t u : ℕ) → (not (int_lt a b || (int_le a b && nat_lt s t)) && not (int_lt b a || (int_le b a && nat_lt t s))) ≡ true → (int_lt b c || (int_le b c && nat_lt t u)) ≡ true
        → (not (int_lt a c || (int_le a c && nat_lt s u)) && not (int_lt c a || (int_le c a && nat_lt u s))) ≡ false
    numbers a b c s t u h k = grind (arith, ints)

filter_none : (t : Packet → Bool) (xs : List Packet) → Each (λ z. t z ≡ false) xs → filter t xs ≡ []
filter_none t [] h = refl
filter_none t (x ∷ xs) h = ap (λ (b : Bool). if b then x ∷ filter t xs else filter t xs) h.0 ∙ filter_none t xs h.1

filter_put : (x p : Packet) (xs : List Packet) → Ordered xs → filter (ties is_before x) (put_in p xs) ≡ filter (ties is_before x) (xs ++ p ∷ [])
filter_put x p [] h = refl
filter_put x p (y ∷ ys) h = by (filter_put x p ys h.1) (is_before p y) refl
  where
    t : Packet → Bool
    t = ties is_before x

    front : (b : Bool) → t p ≡ b → is_before p y ≡ true → filter t (p ∷ y ∷ ys) ≡ filter t (y ∷ ys) ++ filter t (p ∷ [])
    front true e f =
        let after : Each (λ z. is_before p z ≡ true) (y ∷ ys) = (f, each_map (λ z. is_before z y ≡ false) (λ z. is_before p z ≡ true) (λ z k. before_all p.dts y.dts z.dts p.stream y.stream z.stream f k) ys h.0) in
        let none : filter t (y ∷ ys) ≡ [] = filter_none t (y ∷ ys) (each_map (λ z. is_before p z ≡ true) (λ z. t z ≡ false) (λ z k. no_tie x p z e k) (y ∷ ys) after) in
        ap (λ (b : Bool). if b then p ∷ filter t (y ∷ ys) else filter t (y ∷ ys)) e ∙ ap (λ (l : List Packet). p ∷ l) none
        ∙ sym (ap (λ (l : List Packet). l ++ filter t (p ∷ [])) none ∙ ap (λ (b : Bool). if b then p ∷ [] else []) e)
    front false e f =
        ap (λ (b : Bool). if b then p ∷ filter t (y ∷ ys) else filter t (y ∷ ys)) e
        ∙ sym (append-nil (filter t (y ∷ ys)))
        ∙ ap (λ (l : List Packet). filter t (y ∷ ys) ++ l) (sym (ap (λ (b : Bool). if b then p ∷ [] else []) e))

    by : filter t (put_in p ys) ≡ filter t (ys ++ p ∷ []) → (b : Bool) → is_before p y ≡ b → filter t (if b then p ∷ y ∷ ys else y ∷ put_in p ys) ≡ filter t ((y ∷ ys) ++ p ∷ [])
    by rest true e = front (t p) refl e ∙ sym (filter-append t (y ∷ ys) (p ∷ []))
    by rest false e = ap (λ (l : List Packet). if t y then y ∷ l else l) rest

sorting_stable : (x : Packet) (xs packets : List Packet) → Ordered xs → filter (ties is_before x) (sorting xs packets) ≡ filter (ties is_before x) (xs ++ packets)
sorting_stable x xs [] h = ap (filter (ties is_before x)) (sym (append-nil xs))
sorting_stable x xs (p ∷ packets) h =
    sorting_stable x (put_in p xs) packets (put_ordered p xs h)
    ∙ filter-append (ties is_before x) (put_in p xs) packets
    ∙ ap (λ (l : List Packet). l ++ filter (ties is_before x) packets) (filter_put x p xs h)
    ∙ sym (filter-append (ties is_before x) (xs ++ p ∷ []) packets)
    ∙ ap (filter (ties is_before x)) (append_assoc xs (p ∷ []) packets)

pub sorts : (n : ℕ) (packets : List Packet) → All (λ p. p.stream < n) packets → NeverFalls packets → IsStableSort packets (interleave n 0 packets)
sorts n packets below falls = subst (IsStableSort packets) (sym (interleave_sorts n packets below falls)) record {
  permutation = sorting_moves [] packets;
  sorted_by = ordered_places (sorting [] packets) (sorting_ordered [] packets tt);
  stable = λ x. sorting_stable x [] packets tt;
}

-- what is pending is in order
folds_ordered : (n delta : ℕ) (l : Line) (packets : List Packet) → Ordered l.pending → Ordered (fold (arrive n delta) l packets).pending
folds_ordered n delta l [] h = h
folds_ordered n delta l (p ∷ packets) h = folds_ordered n delta (arrive n delta l p) packets (release_ordered n delta l.out (put_in p l.pending) (put_ordered p l.pending h))

pub pending_sorted : (n delta : ℕ) (packets : List Packet) → IsSortedBy is_before (line_of n delta packets).pending
unfolding line_of
pending_sorted n delta packets = ordered_places (fold (arrive n delta) no_line packets).pending (folds_ordered n delta no_line packets tt)

-- the widest is the last
not_above : (a b : ℤ) (s t : ℕ) → (int_lt b a || (int_le b a && nat_lt t s)) ≡ false → a ≤ℤ b
not_above a b s t h = grind (arith, ints)

next_of : (xs : List Packet) → IsSortedBy is_before xs → (k : ℕ) (d : Packet) → suc k < length xs → is_before (get_or xs (suc k) d) (get_or xs k d) ≡ false
next_of xs h k d l = rw add-one at (h k d (omega arith) (omega arith))

up_to_last : (xs : List Packet) (last : Packet) → ((k : ℕ) (d : Packet) → suc k < length (xs ++ last ∷ []) → is_before (get_or (xs ++ last ∷ []) (suc k) d) (get_or (xs ++ last ∷ []) k d) ≡ false) → Each (λ y. y.dts ≤ℤ last.dts) xs
up_to_last [] last h = tt
up_to_last (x ∷ []) last h = (not_above x.dts last.dts x.stream last.stream (h 0 x (omega arith)), tt)
up_to_last (x ∷ y ∷ ys) last h =
    let rest = up_to_last (y ∷ ys) last (λ k d l. h (suc k) d (omega arith)) in
    let near : x.dts ≤ℤ y.dts = not_above x.dts y.dts x.stream y.stream (h 0 x (omega arith)) in
    (omega (arith, ints, near, rest.0), rest)

over_later : (delta : ℕ) (h : ℤ) (y last : Packet) → y.dts ≤ℤ last.dts → is_over delta h y ≡ true → is_over delta h last ≡ true
over_later delta h y last = numbers delta h y.dts last.dts
  where
    numbers : (delta : ℕ) (h a b : ℤ) → a ≤ℤ b → int_lt (pos delta) ((a -ℤ h) *ℤ pos 1000) ≡ true → int_lt (pos delta) ((b -ℤ h) *ℤ pos 1000) ≡ true
    numbers delta h a b le e = grind (arith, ints)

any_last : (delta : ℕ) (h : ℤ) (xs : List Packet) (last : Packet) → Each (λ y. y.dts ≤ℤ last.dts) xs → list_any (is_over delta h) (xs ++ last ∷ []) ≡ is_over delta h last
any_last delta h [] last k = either (is_over delta h last)
  where
    either : (b : Bool) → (b || false) ≡ b
    either true = refl
    either false = refl
any_last delta h (x ∷ xs) last k =
    ap (λ (b : Bool). is_over delta h x || b) (any_last delta h xs last k.1) ∙ under (is_over delta h x) (is_over delta h last) (over_later delta h x last k.0)
  where
    under : (a b : Bool) → (a ≡ true → b ≡ true) → (a || b) ≡ b
    under true b f = sym (f refl)
    under false b f = refl

pub width_of_last : (delta : ℕ) (head last : Packet) (packets : List Packet) → IsSortedBy is_before (packets ++ last ∷ []) → list_any (is_over delta head.dts) (packets ++ last ∷ []) ≡ is_over delta head.dts last
width_of_last delta head last packets h = any_last delta head.dts packets last (up_to_last packets last (next_of (packets ++ last ∷ []) h))

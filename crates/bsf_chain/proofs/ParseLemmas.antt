-- Texts, cut at a separator.
use Rattle.std.proofs.Common.{◌≡◌, ℕ, zero, suc, ◌+◌, ◌*◌, ◌^◌, ◌<◌, ◌≤◌, Bool, true, false, List, [], ◌∷◌, ◌++◌, length, take, drop, get_or, refl, sym, ap, ◌∙◌, arith, add-one, drop-cons, eq-eqb, Option, None, Some, Result, Ok, Err, append_assoc, lit<}
use Rattle.std.specs.Prelude.{◌==◌, ◌&&◌, ◌||◌, nat_lt, if◌then◌else◌}
use Rattle.std.specs.Option.{option_map}
use denote.Ref.{Bor}
use Rattle.std.specs.List.{list_any, list_all}
use Rattle.std.proofs.lemmas.List.{take_more, drop-drop}
use Rattle.std.proofs.lemmas.Bool.Decides.{nat_tests}
use Rattle.std.proofs.Math.Nat.{pow-succ'}
use Rattle.bsf_chain.specs.declared.filter.Filter.{Filter}
use Rattle.bsf_chain.specs.declared.filter.BsfFault.{BsfFault}
use Rattle.bsf_chain.specs.declared.filter.BsfFault.TheVariants.{BadArgument}
use Rattle.bsf_chain.specs.Parse.{before, behind, onto_first, split_by, filter_of, with_filter, and_then, filters_of, mask_from}

other : (m n : ℕ) → (m ≡ n → ⊥) → (m == n) ≡ false
other m n h = grind (arith, nat_tests)

-- at the separator
pub before_here : (text : List ℕ) (i separator : ℕ) → i < length text → get_or text i 0 ≡ separator → before separator (drop i text) ≡ []
before_here text i separator h e =
    ap (before separator) (drop-cons text i 0 h)
    ∙ ap (λ (b : Bool). if b then [] else get_or text i 0 ∷ before separator (drop (suc i) text)) (eq-eqb (get_or text i 0) separator e)

pub behind_here : (text : List ℕ) (i separator : ℕ) → i < length text → get_or text i 0 ≡ separator → behind separator (drop i text) ≡ Some (drop (i + 1) text)
behind_here text i separator h e =
    ap (behind separator) (drop-cons text i 0 h)
    ∙ ap (λ (b : Bool). if b then Some (drop (suc i) text) else behind separator (drop (suc i) text)) (eq-eqb (get_or text i 0) separator e)
    ∙ ap (λ k. Some (drop k text)) (sym (add-one i))

-- at another character
pub before_more : (text : List ℕ) (i separator : ℕ) → i < length text → (get_or text i 0 ≡ separator → ⊥)
    → take i text ++ before separator (drop i text) ≡ take (i + 1) text ++ before separator (drop (i + 1) text)
before_more text i separator h e =
    ap (λ (t : List ℕ). take i text ++ before separator t) (drop-cons text i 0 h)
    ∙ ap (λ (b : Bool). take i text ++ (if b then [] else get_or text i 0 ∷ before separator (drop (suc i) text))) (other (get_or text i 0) separator e)
    ∙ ap (λ k. take i text ++ (get_or text i 0 ∷ before separator (drop k text))) (sym (add-one i))
    ∙ sym (append_assoc (take i text) (get_or text i 0 ∷ []) (before separator (drop (i + 1) text)))
    ∙ ap (λ (t : List ℕ). t ++ before separator (drop (i + 1) text)) (sym (take_more text i 0 h))

pub behind_more : (text : List ℕ) (i separator : ℕ) → i < length text → (get_or text i 0 ≡ separator → ⊥) → behind separator (drop i text) ≡ behind separator (drop (i + 1) text)
behind_more text i separator h e =
    ap (behind separator) (drop-cons text i 0 h)
    ∙ ap (λ (b : Bool). if b then Some (drop (suc i) text) else behind separator (drop (suc i) text)) (other (get_or text i 0) separator e)
    ∙ ap (λ k. behind separator (drop k text)) (sym (add-one i))

abbrev pub rest_by : ℕ → Option (List ℕ) → List (List ℕ)
rest_by separator None = []
rest_by separator (Some text) = split_by separator text

split_with : (here : Bool) (separator c : ℕ) (text : List ℕ) → split_by separator text ≡ before separator text ∷ rest_by separator (behind separator text)
    → (if here then [] ∷ split_by separator text else onto_first c (split_by separator text))
    ≡ (if here then [] else c ∷ before separator text) ∷ rest_by separator (if here then Some text else behind separator text)
split_with true separator c text h = refl
split_with false separator c text h = ap (onto_first c) h

-- the first part, and those behind it
split_one : (separator : ℕ) (text : List ℕ) → split_by separator text ≡ before separator text ∷ rest_by separator (behind separator text)
split_one separator [] = refl
split_one separator (c ∷ text) = split_with (c == separator) separator c text (split_one separator text)

pub split_part : (separator : ℕ) (text part : List ℕ) → part ≡ before separator text → split_by separator text ≡ part ∷ rest_by separator (behind separator text)
split_part separator text part p =
    split_one separator text ∙ ap (λ (t : List ℕ). t ∷ rest_by separator (behind separator text)) (sym p)

pub split_none : (separator : ℕ) (text part : List ℕ) → part ≡ before separator text → None ≡ behind separator text → split_by separator text ≡ part ∷ []
split_none separator text part p h =
    split_one separator text
    ∙ ap (λ (r : Option (List ℕ)). before separator text ∷ rest_by separator r) (sym h)
    ∙ ap (λ (t : List ℕ). t ∷ []) (sym p)

pub split_some : (separator : ℕ) (text part rest : List ℕ) → part ≡ before separator text → Some rest ≡ behind separator text
    → split_by separator text ≡ part ∷ split_by separator rest
split_some separator text part rest p h =
    split_one separator text
    ∙ ap (λ (r : Option (List ℕ)). before separator text ∷ rest_by separator r) (sym h)
    ∙ ap (λ (t : List ℕ). t ∷ split_by separator rest) (sym p)

-- filters that were read, in front of what is still to be read
abbrev pub onto : List Filter → Result (List Filter) BsfFault → Result (List Filter) BsfFault
onto front (Ok filters) = Ok (front ++ filters)
onto front (Err fault) = Err fault

onto_with : (front : List Filter) (filter : Filter) (others : Result (List Filter) BsfFault) → onto front (with_filter filter others) ≡ onto (front ++ filter ∷ []) others
onto_with front filter (Ok filters) = ap (λ (fs : List Filter). Ok fs) (sym (append_assoc front (filter ∷ []) filters))
onto_with front filter (Err fault) = refl

-- no room
pub none_more : (room : ℕ) (front : List Filter) (all texts : List (List ℕ)) (text : List ℕ) → room ≡ 0 → all ≡ text ∷ texts → onto front (filters_of room all) ≡ Err BadArgument
none_more room front all texts text r e =
    ap (λ k. onto front (filters_of k all)) r ∙ ap (λ (ts : List (List ℕ)). onto front (filters_of 0 ts)) e

-- the next filter is none
pub fault_more : (room less : ℕ) (front : List Filter) (all texts : List (List ℕ)) (text : List ℕ) (fault : BsfFault) → room ≡ suc less → all ≡ text ∷ texts
    → Err fault ≡ filter_of text → onto front (filters_of room all) ≡ Err fault
fault_more room less front all texts text fault r e f =
    ap (λ k. onto front (filters_of k all)) r
    ∙ ap (λ (ts : List (List ℕ)). onto front (filters_of (suc less) ts)) e
    ∙ ap (λ (x : Result Filter BsfFault). onto front (and_then x (filters_of less texts))) (sym f)

-- the next filter
pub filter_more : (room less : ℕ) (front more : List Filter) (all texts : List (List ℕ)) (text : List ℕ) (filter : Filter) → room ≡ suc less → all ≡ text ∷ texts
    → Ok filter ≡ filter_of text → more ≡ front ++ filter ∷ [] → onto front (filters_of room all) ≡ onto more (filters_of less texts)
filter_more room less front more all texts text filter r e f m =
    ap (λ k. onto front (filters_of k all)) r
    ∙ ap (λ (ts : List (List ℕ)). onto front (filters_of (suc less) ts)) e
    ∙ ap (λ (x : Result Filter BsfFault). onto front (and_then x (filters_of less texts))) (sym f)
    ∙ onto_with front filter (filters_of less texts)
    ∙ ap (λ (fs : List Filter). onto fs (filters_of less texts)) (sym m)

no_more : (front : List Filter) → onto front (Ok []) ≡ Ok front
no_more front = ap (λ (fs : List Filter). Ok fs) (all_of front)
  where
    all_of : (fs : List Filter) → fs ++ [] ≡ fs
    all_of [] = refl
    all_of (f ∷ fs) = ap (λ (gs : List Filter). f ∷ gs) (all_of fs)

pub end_more : (room : ℕ) (front : List Filter) → onto front (filters_of room []) ≡ Ok front
end_more zero front = no_more front
end_more (suc room) front = no_more front

-- a list of parts, one at a time
pub all_one : (test : List ℕ → Bool) (all parts : List (List ℕ)) (part : List ℕ) → all ≡ part ∷ parts → test part ≡ true → list_all test all ≡ list_all test parts
all_one test all parts part e h = ap (list_all test) e ∙ ap (λ (b : Bool). b && list_all test parts) h

pub all_not : (test : List ℕ → Bool) (all parts : List (List ℕ)) (part : List ℕ) → all ≡ part ∷ parts → test part ≡ false → list_all test all ≡ false
all_not test all parts part e h = ap (list_all test) e ∙ ap (λ (b : Bool). b && list_all test parts) h

pub any_one : (test : List ℕ → Bool) (all parts : List (List ℕ)) (part : List ℕ) → all ≡ part ∷ parts → test part ≡ false → list_any test all ≡ list_any test parts
any_one test all parts part e h = ap (list_any test) e ∙ ap (λ (b : Bool). b || list_any test parts) h

pub any_here : (test : List ℕ → Bool) (all parts : List (List ℕ)) (part : List ℕ) → all ≡ part ∷ parts → test part ≡ true → list_any test all ≡ true
any_here test all parts part e h = ap (list_any test) e ∙ ap (λ (b : Bool). b || list_any test parts) h

-- one more bit in front
pub mask_more : (n type : ℕ) (kept : ℕ → Bool) (m : ℕ) → m ≡ suc n → mask_from m type kept ≡ (if kept type then 1 else 0) + 2 * mask_from n (type + 1) kept
mask_more n type kept m e = ap (λ k. mask_from k type kept) e

bit_small : (b : Bool) → (if b then 1 else 0) ≤ 1
bit_small true = omega arith
bit_small false = omega arith

pub mask_small : (n type : ℕ) (kept : ℕ → Bool) → mask_from n type kept < 2 ^ n
mask_small zero type kept = lit< tt
mask_small (suc n) type kept =
    let rest : mask_from n (type + 1) kept < 2 ^ n = mask_small n (type + 1) kept in
    let bit : (if kept type then 1 else 0) ≤ 1 = bit_small (kept type) in
    let power : 2 ^ suc n ≡ 2 * 2 ^ n = pow-succ' 2 n in
    omega arith

pub onto_none : (others : Result (List Filter) BsfFault) → onto [] others ≡ others
onto_none (Ok filters) = refl
onto_none (Err fault) = refl

is_more : (m n : ℕ) → m < n → nat_lt m n ≡ true
is_more m n h = grind (arith, nat_tests)

not_more : (m n : ℕ) → n ≤ m → nat_lt m n ≡ false
not_more m n h = grind (arith, nat_tests)

-- what is behind a separator, as a slice
pub some_behind : (r : Option (Bor (List ℕ))) (a : Bor (List ℕ)) (b : Option (List ℕ)) → r ≡ Some a → option_map (λ (x : Bor (List ℕ)). x.now) r ≡ b → Some a.now ≡ b
some_behind r a b e h = sym (ap (option_map (λ (x : Bor (List ℕ)). x.now)) e) ∙ h

pub none_behind : (r : Option (Bor (List ℕ))) (b : Option (List ℕ)) → r ≡ None → option_map (λ (x : Bor (List ℕ)). x.now) r ≡ b → None ≡ b
none_behind r b e h = sym (ap (option_map (λ (x : Bor (List ℕ)). x.now)) e) ∙ h

end : (xs : List ℕ) → xs ++ [] ≡ xs
end [] = refl
end (x ∷ xs) = ap (λ (ys : List ℕ). x ∷ ys) (end xs)

drop_end : (xs : List ℕ) (i : ℕ) → length xs ≤ i → drop i xs ≡ []
drop_end [] zero h = refl
drop_end [] (suc i) h = refl
drop_end (x ∷ xs) zero h = absurd (omega (arith, h))
drop_end (x ∷ xs) (suc i) h = drop_end xs i (omega (arith, h))

take_end : (xs : List ℕ) (i : ℕ) → length xs ≤ i → take i xs ≡ xs
take_end [] zero h = refl
take_end [] (suc i) h = refl
take_end (x ∷ xs) zero h = absurd (omega (arith, h))
take_end (x ∷ xs) (suc i) h = ap (λ (ys : List ℕ). x ∷ ys) (take_end xs i (omega (arith, h)))

-- the place of the first separator
pub found_before : (text whole : List ℕ) (i separator : ℕ) → i < length text → get_or text i 0 ≡ separator → whole ≡ take i text ++ before separator (drop i text)
    → take i text ≡ whole
found_before text whole i separator h e w =
    sym (w ∙ ap (λ (t : List ℕ). take i text ++ t) (before_here text i separator h e) ∙ end (take i text))

pub found_behind : (text : List ℕ) (whole : Option (List ℕ)) (i separator : ℕ) → i < length text → get_or text i 0 ≡ separator → whole ≡ behind separator (drop i text)
    → whole ≡ (if nat_lt i (length text) then Some (drop (i + 1) text) else None)
found_behind text whole i separator h e w =
    w ∙ behind_here text i separator h e ∙ sym (ap (λ (b : Bool). if b then Some (drop (i + 1) text) else None) (is_more i (length text) h))

-- no separator
pub none_before : (text whole : List ℕ) (i separator : ℕ) → length text ≤ i → whole ≡ take i text ++ before separator (drop i text) → take (length text) text ≡ whole
none_before text whole i separator h w =
    take_end text (length text) (omega arith)
    ∙ sym (w ∙ ap (λ (t : List ℕ). take i text ++ before separator t) (drop_end text i h) ∙ end (take i text) ∙ take_end text i h)

pub none_behind_at : (text : List ℕ) (whole : Option (List ℕ)) (i separator : ℕ) → length text ≤ i → whole ≡ behind separator (drop i text)
    → whole ≡ (if nat_lt (length text) (length text) then Some (drop (length text + 1) text) else None)
none_behind_at text whole i separator h w =
    w ∙ ap (behind separator) (drop_end text i h) ∙ sym (ap (λ (b : Bool). if b then Some (drop (length text + 1) text) else None) (not_more (length text) (length text) (omega arith)))

-- a text without the separator
pub uncut_before : (text whole : List ℕ) (i : ℕ) → length text ≤ i → take i text ≡ whole → text ≡ whole
uncut_before text whole i h e = sym (take_end text i h) ∙ e

pub uncut_behind : (text : List ℕ) (whole : Option (List ℕ)) (i : ℕ) → length text ≤ i → whole ≡ (if nat_lt i (length text) then Some (drop (i + 1) text) else None) → None ≡ whole
uncut_behind text whole i h e =
    sym (e ∙ ap (λ (b : Bool). if b then Some (drop (i + 1) text) else None) (not_more i (length text) h))

-- what stands behind it
pub cut_behind : (text back rest : List ℕ) (whole : Option (List ℕ)) (i : ℕ) → i < length text → back ≡ drop i text → rest ≡ drop 1 back
    → whole ≡ (if nat_lt i (length text) then Some (drop (i + 1) text) else None) → Some rest ≡ whole
cut_behind text back rest whole i h b r e =
    ap (λ (t : List ℕ). Some t) (r ∙ ap (drop 1) b ∙ drop-drop 1 i text ∙ ap (λ k. drop k text) (omega arith))
    ∙ sym (e ∙ ap (λ (b : Bool). if b then Some (drop (i + 1) text) else None) (is_more i (length text) h))

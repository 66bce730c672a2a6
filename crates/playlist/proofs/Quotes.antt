-- A text with its quotes doubled, read up to the next quote.
use Rattle.std.proofs.Common.{◌≡◌, ◌<◌, ◌≤◌, ◌+◌, ◌*◌, ℕ, suc, List, [], ◌∷◌, ◌++◌, length, length-append, get_or, false, refl, sym, ◌∙◌, ap, arith, append_assoc}
use Rattle.std.specs.Prelude.{◌==◌, ◌≢◌, ◌^◌, flat_map, ℤ, pos, neg_ℤ, ◌≤ℤ◌, FitsSigned}
use Rattle.std.specs.Int.{w64}
use Rattle.std.proofs.lemmas.Int.{ints}
use Rattle.std.proofs.lemmas.Bool.Decides.{nat_tests}
use Rattle.std.proofs.lemmas.List.Concat.{flat_map-append}
use Rattle.playlist.specs.List.{doubled}

-- there is no quote in it
abbrev pub HasNone : List ℕ → Type 0
HasNone xs = (i : ℕ) → i < length xs → get_or xs i 0 ≢ 34

pub unchanged : (xs : List ℕ) → HasNone xs → flat_map doubled xs ≡ xs
unchanged [] h = refl
unchanged (x ∷ xs) h =
    let n : x ≢ 34 = h 0 (omega arith) in
    let e : (x == 34) ≡ false = grind (arith, nat_tests) in
    rw e (ap (λ (t : List ℕ). x ∷ t) (unchanged xs (λ i k. h (suc i) (omega arith))))

-- a quote behind what was read
pub next : (out rest front behind once twice : List ℕ) → rest ≡ front ++ (34 ∷ behind) → HasNone front → once ≡ out ++ front → twice ≡ once ++ 34 ∷ 34 ∷ [] → twice ++ flat_map doubled behind ≡ out ++ flat_map doubled rest
next out rest front behind once twice e n o t =
    ap (λ (x : List ℕ). x ++ flat_map doubled behind) (t ∙ ap (λ (x : List ℕ). x ++ 34 ∷ 34 ∷ []) o)
    ∙ append_assoc (out ++ front) (34 ∷ 34 ∷ []) (flat_map doubled behind)
    ∙ append_assoc out front (34 ∷ 34 ∷ flat_map doubled behind)
    ∙ ap (λ (x : List ℕ). out ++ x)
    (ap (λ (x : List ℕ). x ++ (34 ∷ 34 ∷ flat_map doubled behind)) (sym (unchanged front n))
    ∙ sym (flat_map-append doubled front (34 ∷ behind)))
    ∙ sym (ap (λ (x : List ℕ). out ++ flat_map doubled x) e)

pub shorter : (out rest front behind once twice : List ℕ) (n : ℕ) → rest ≡ front ++ (34 ∷ behind) → once ≡ out ++ front → twice ≡ once ++ 34 ∷ 34 ∷ [] → length out + 2 * length rest ≤ n → length twice + 2 * length behind ≤ n
shorter out rest front behind once twice n e o t h =
    omega (arith, ap length e ∙ length-append front (34 ∷ behind), ap length o ∙ length-append out front, ap length t ∙ length-append once (34 ∷ 34 ∷ []))

-- no quote behind what was read
pub last : (out rest once whole : List ℕ) → HasNone rest → once ≡ out ++ rest → out ++ flat_map doubled rest ≡ whole → once ≡ whole
last out rest once whole n o h = o ∙ ap (λ (x : List ℕ). out ++ x) (sym (unchanged rest n)) ∙ h

-- a line of fields, one after the other
pub row : (field start stop o1 o2 o3 o4 o5 o6 : List ℕ) → o1 ≡ field → o2 ≡ o1 ++ 44 ∷ [] → o3 ≡ o2 ++ start → o4 ≡ o3 ++ 44 ∷ [] → o5 ≡ o4 ++ stop → o6 ≡ o5 ++ 10 ∷ [] → o6 ≡ (field ++ 44 ∷ (start ++ 44 ∷ stop)) ++ 10 ∷ []
row field start stop o1 o2 o3 o4 o5 o6 a b c d e f =
    let g : o6 ≡ ((((field ++ 44 ∷ []) ++ start) ++ 44 ∷ []) ++ stop) ++ 10 ∷ [] = cc in
    g ∙ ap (λ (x : List ℕ). x ++ 10 ∷ []) (
    append_assoc ((field ++ 44 ∷ []) ++ start) (44 ∷ []) stop
    ∙ append_assoc (field ++ 44 ∷ []) start (44 ∷ stop)
    ∙ append_assoc field (44 ∷ []) (start ++ 44 ∷ stop))

pub fits : (z : ℤ) → neg_ℤ (pos (2 ^ 40)) ≤ℤ z → z ≤ℤ pos (2 ^ 40) → FitsSigned w64 z
fits z a b = omega (arith, ints)

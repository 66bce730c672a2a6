-- The value of digits, where all that is too much counts as one number.
use Rattle.std.proofs.Common.{◌≡◌, ◌<◌, ◌+◌, ◌*◌, ◌-◌, ℕ, suc, List, [], ◌∷◌, ◌++◌, length, drop, get_or, min, refl, sym, ◌∙◌, ap, arith, drop-cons, add-one}
use Rattle.std.specs.Prelude.{replicate}
use Rattle.std.proofs.lemmas.Bool.Decides.{nat_tests}
use Rattle.options.specs.Number.{value_on}
use Rattle.options.specs.Time.{within_limits, micros_of}

step : (n d c : ℕ) → min (min n c * 10 + d) c ≡ min (n * 10 + d) c
step n d c = omega arith

pub capped : (n c : ℕ) (ds : List ℕ) → min (value_on (min n c) ds) c ≡ min (value_on n ds) c
capped n c [] = omega arith
capped n c (d ∷ ds) =
    sym (capped (min n c * 10 + (d - 48)) c ds)
    ∙ ap (λ (m : ℕ). min (value_on m ds) c) (step n (d - 48) c)
    ∙ capped (n * 10 + (d - 48)) c ds

-- one digit more
pub next : (m n i c : ℕ) (ds : List ℕ) → i < length ds → n ≡ min (m * 10 + (get_or ds i 0 - 48)) c → min (value_on n (drop (i + 1) ds)) c ≡ min (value_on m (drop i ds)) c
next m n i c ds h e =
    let split : drop i ds ≡ get_or ds i 0 ∷ drop (i + 1) ds = rw (add-one, drop-cons ds i 0) refl in
    ap (λ (k : ℕ). min (value_on k (drop (i + 1) ds)) c) e
    ∙ capped (m * 10 + (get_or ds i 0 - 48)) c (drop (i + 1) ds)
    ∙ sym (ap (λ (rest : List ℕ). min (value_on m rest) c) split)

-- one zero more
pub next_zero : (m n i count c : ℕ) → i < count → n ≡ min (m * 10 + 0) c → min (value_on n (replicate (count - (i + 1)) 48)) c ≡ min (value_on m (replicate (count - i) 48)) c
next_zero m n i count c h e =
    let left : count - i ≡ suc (count - (i + 1)) = omega arith in
    ap (λ (k : ℕ). min (value_on k (replicate (count - (i + 1)) 48)) c) e
    ∙ capped (m * 10 + 0) c (replicate (count - (i + 1)) 48)
    ∙ sym (ap (λ (k : ℕ). min (value_on m (replicate k 48)) c) left)

pub value_on-append : (n : ℕ) (xs ys : List ℕ) → value_on n (xs ++ ys) ≡ value_on (value_on n xs) ys
value_on-append n [] ys = refl
value_on-append n (x ∷ xs) ys = value_on-append (n * 10 + (x - 48)) xs ys

within-capped : (v : ℕ) → within_limits (min v 1000000000001) ≡ within_limits v
within-capped v = grind (arith, nat_tests)

-- a time's digits, one part after the other
pub in_parts : (whole decimals : List ℕ) (seconds micros all : ℕ) → seconds ≡ min (value_on 0 whole) 1000000000001 → micros ≡ min (value_on seconds decimals) 1000000000001 → all ≡ min (value_on micros (replicate (6 - length decimals) 48)) 1000000000001 → within_limits all ≡ within_limits (micros_of whole decimals)
unfolding micros_of
in_parts whole decimals seconds micros all p q r =
    let zeros : List ℕ = replicate (6 - length decimals) 48 in
    let e : all ≡ min (micros_of whole decimals) 1000000000001 =
    r
    ∙ ap (λ (m : ℕ). min (value_on m zeros) 1000000000001) (q ∙ ap (λ (m : ℕ). min (value_on m decimals) 1000000000001) p ∙ capped (value_on 0 whole) 1000000000001 decimals)
    ∙ capped (value_on (value_on 0 whole) decimals) 1000000000001 zeros
    ∙ sym (ap (λ (m : ℕ). min m 1000000000001) (value_on-append 0 (whole ++ decimals) zeros ∙ ap (λ (m : ℕ). value_on m zeros) (value_on-append 0 whole decimals))) in
    ap within_limits e ∙ within-capped (micros_of whole decimals)

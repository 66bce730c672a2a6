-- Plain text, read up to the next percent sign.
use Rattle.std.proofs.Common.{◌≡◌, ◌<◌, ◌≤◌, ◌+◌, length-append, ℕ, suc, List, [], ◌∷◌, ◌++◌, length, get_or, false, Option, Some, None, refl, sym, ◌∙◌, ap, arith, append_assoc}
use Rattle.std.specs.Prelude.{◌==◌, ◌≢◌}
use Rattle.std.proofs.lemmas.Bool.Decides.{nat_tests}
use Rattle.std.proofs.lemmas.List.{append-nil}
use Rattle.playlist.specs.Template.{plain, with_front}

-- there is no percent sign in it
abbrev pub HasNone : List ℕ → Type 0
HasNone xs = (i : ℕ) → i < length xs → get_or xs i 0 ≢ 37

step : (c : ℕ) (rest : List ℕ) → c ≢ 37 → plain (c ∷ rest) ≡ with_front (c ∷ []) (plain rest)
unfolding plain
step c [] h = let e : (c == 37) ≡ false = grind (arith, nat_tests) in rw e refl
step c (d ∷ cs) h = let e : (c == 37) ≡ false = grind (arith, nat_tests) in rw e refl

pub front : (xs rest : List ℕ) → HasNone xs → plain (xs ++ rest) ≡ with_front xs (plain rest)
front [] rest h = refl
front (x ∷ xs) rest h =
    step x (xs ++ rest) (h 0 (omega arith))
    ∙ ap (with_front (x ∷ [])) (front xs rest (λ i k. h (suc i) (omega arith)))

pub doubled : (rest : List ℕ) → plain (37 ∷ 37 ∷ rest) ≡ with_front (37 ∷ []) (plain rest)
unfolding plain
doubled rest = refl

pub lone : (rest : List ℕ) → ((more : List ℕ) → rest ≢ 37 ∷ more) → plain (37 ∷ rest) ≡ ([], Some rest)
unfolding plain
lone [] h = refl
lone (d ∷ cs) h =
    let n : d ≢ 37 = λ e. h cs (ap (λ (x : ℕ). x ∷ cs) e) in
    let e : (d == 37) ≡ false = grind (arith, nat_tests) in rw e refl

pub last : plain [] ≡ ([], None)
unfolding plain
last = refl

-- a pair of percent signs behind what was read
pub paired : (out rest before behind more once twice : List ℕ) (whole : List ℕ × Option (List ℕ)) → rest ≡ before ++ (37 ∷ behind) → HasNone before → behind ≡ 37 ∷ more → once ≡ out ++ before → twice ≡ once ++ 37 ∷ [] → with_front out (plain rest) ≡ whole → with_front twice (plain more) ≡ whole
paired out rest before behind more once twice whole e n d o t h =
    let split : rest ≡ before ++ (37 ∷ 37 ∷ more) = e ∙ ap (λ (x : List ℕ). before ++ (37 ∷ x)) d in
    let read : plain rest ≡ with_front before (with_front (37 ∷ []) (plain more)) =
    ap plain split ∙ front before (37 ∷ 37 ∷ more) n ∙ ap (with_front before) (doubled more) in
    let text : twice ++ (plain more).0 ≡ out ++ (before ++ (37 ∷ (plain more).0)) =
    ap (λ (x : List ℕ). x ++ (plain more).0) (t ∙ ap (λ (x : List ℕ). x ++ 37 ∷ []) o)
    ∙ append_assoc (out ++ before) (37 ∷ []) (plain more).0
    ∙ append_assoc out before (37 ∷ (plain more).0) in
    ap (λ (x : List ℕ). (x, (plain more).1)) text ∙ sym (ap (with_front out) read) ∙ h

-- a percent sign that stands alone behind what was read
pub stopped : (out rest before behind once : List ℕ) (whole : List ℕ × Option (List ℕ)) → rest ≡ before ++ (37 ∷ behind) → HasNone before → ((more : List ℕ) → behind ≢ 37 ∷ more) → once ≡ out ++ before → with_front out (plain rest) ≡ whole → (once, Some behind) ≡ whole
stopped out rest before behind once whole e n d o h =
    let read : plain rest ≡ with_front before ([], Some behind) =
    ap plain e ∙ front before (37 ∷ behind) n ∙ ap (with_front before) (lone behind d) in
    ap (λ (x : List ℕ). (x, Some behind)) (o ∙ ap (λ (x : List ℕ). out ++ x) (sym (append-nil before))) ∙ sym (ap (with_front out) read) ∙ h

-- no percent sign behind what was read
pub ended : (out rest once : List ℕ) (whole : List ℕ × Option (List ℕ)) → HasNone rest → once ≡ out ++ rest → with_front out (plain rest) ≡ whole → (once, None) ≡ whole
ended out rest once whole n o h =
    let read : plain rest ≡ with_front rest ([], None) =
    ap plain (sym (append-nil rest)) ∙ front rest [] n ∙ ap (with_front rest) last in
    ap (λ (x : List ℕ). (x, None)) (o ∙ ap (λ (x : List ℕ). out ++ x) (sym (append-nil rest))) ∙ sym (ap (with_front out) read) ∙ h

pub shorter : (out rest before behind more once twice : List ℕ) (n : ℕ) → rest ≡ before ++ (37 ∷ behind) → behind ≡ 37 ∷ more → once ≡ out ++ before → twice ≡ once ++ 37 ∷ [] → length out + length rest ≤ n → length twice + length more ≤ n
shorter out rest before behind more once twice n e d o t h =
    omega (arith, ap length e ∙ length-append before (37 ∷ behind), ap length d, ap length o ∙ length-append out before, ap length t ∙ length-append once (37 ∷ []))

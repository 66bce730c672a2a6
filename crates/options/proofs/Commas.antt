-- What stands between commas.
use Rattle.std.proofs.Common.{◌≡◌, ◌<◌, ℕ, List, [], ◌∷◌, ◌++◌, length, get_or, suc, false, Option, Some, None, Result, Ok, Err, refl, sym, ◌∙◌, ap, arith, append_assoc, append-nil}
use Rattle.std.specs.Prelude.{◌==◌, ◌≢◌, MatchOption}
use denote.Ref.{Bor}
use Rattle.options.specs.declared.fault.WordKind.TheVariants.{BadValue}
use Rattle.std.specs.List.{list_any, slice_split, position_or_len, before_first, after_first}
use Rattle.std.proofs.lemmas.Bool.Decides.{nat_tests}
use Rattle.std.proofs.lemmas.List.Elements.{All-from_get_or}
use Rattle.std.proofs.lemmas.List.Splits.{slice_split_none, slice_split_first}
use Rattle.options.specs.declared.select.Spec.{Spec}
use Rattle.options.specs.declared.fault.WordKind.{WordKind}
use Rattle.options.specs.Read.{◌>>=◌, or_bad}
use Rattle.options.specs.Select.{spec_named, each_spec, is_comma, specs}

pub cut : (text front behind : List ℕ) → position_or_len is_comma text < length text → front ≡ before_first is_comma text → behind ≡ after_first is_comma text → slice_split is_comma text ≡ front ∷ slice_split is_comma behind
cut text front behind h p q =
    slice_split_first is_comma text 0 h
    ∙ ap (λ (x : List ℕ). x ∷ slice_split is_comma (after_first is_comma text)) (sym p)
    ∙ ap (λ (x : List ℕ). front ∷ slice_split is_comma x) (sym q)

no_comma : (c : ℕ) → c ≢ 44 → is_comma c ≡ false
no_comma c h = grind (arith, nat_tests)

pub whole : (text : List ℕ) → ((i : ℕ) → i < length text → get_or text i 0 ≢ 44) → slice_split is_comma text ≡ text ∷ []
whole text h = slice_split_none is_comma text (All-from_get_or (λ c. is_comma c ≡ false) text 0 (λ i k. no_comma (get_or text i 0) (h i k)))

abbrev pub behind_these : List Spec → Result (List Spec) WordKind → Result (List Spec) WordKind
behind_these found more = more >>= λ rest. Ok (found ++ rest)

regrouped : (found : List Spec) (s : Spec) (more : Result (List Spec) WordKind) → behind_these found (more >>= λ rest. Ok (s ∷ rest)) ≡ behind_these (found ++ s ∷ []) more
regrouped found s (Ok x) = ap (λ (l : List Spec). Ok l) (sym (append_assoc found (s ∷ []) x))
regrouped found s (Err e) = refl

one_more : (found : List Spec) (s : Spec) (front : List ℕ) (texts : List (List ℕ)) → spec_named front ≡ Some s → behind_these found (each_spec (front ∷ texts)) ≡ behind_these (found ++ s ∷ []) (each_spec texts)
unfolding each_spec
one_more found s front texts e =
    ap (λ (o : Option Spec). behind_these found (or_bad o >>= λ t. each_spec texts >>= λ more. Ok (t ∷ more))) e
    ∙ regrouped found s (each_spec texts)

-- a part that is read, with others behind it
pub more_parts : (found new : List Spec) (s : Spec) (text front behind : List ℕ) → slice_split is_comma text ≡ front ∷ slice_split is_comma behind → Some s ≡ spec_named front → new ≡ found ++ s ∷ [] → behind_these new (specs behind) ≡ behind_these found (specs text)
more_parts found new s text front behind p e n =
    ap (λ (l : List Spec). behind_these l (each_spec (slice_split is_comma behind))) n
    ∙ sym (one_more found s front (slice_split is_comma behind) (sym e))
    ∙ sym (ap (λ (l : List (List ℕ)). behind_these found (each_spec l)) p)

-- the last part
pub last_part : (found new : List Spec) (s : Spec) (text front : List ℕ) → slice_split is_comma text ≡ front ∷ [] → Some s ≡ spec_named front → new ≡ found ++ s ∷ [] → behind_these found (specs text) ≡ Ok new
unfolding each_spec
last_part found new s text front p e n =
    sym (ap (λ (l : List Spec). Ok l) (n ∙ sym (append-nil (found ++ s ∷ [])))
    ∙ sym (one_more found s front [] (sym e))
    ∙ sym (ap (λ (l : List (List ℕ)). behind_these found (each_spec l)) p))

-- a part that can't be read
bad_part : (found : List Spec) (text front : List ℕ) (texts : List (List ℕ)) → slice_split is_comma text ≡ front ∷ texts → None ≡ spec_named front → behind_these found (specs text) ≡ Err BadValue
unfolding each_spec
bad_part found text front texts p e =
    ap (λ (l : List (List ℕ)). behind_these found (each_spec l)) p
    ∙ ap (λ (o : Option Spec). behind_these found (or_bad o >>= λ t. each_spec texts >>= λ more. Ok (t ∷ more))) (sym e)

-- what a cut says: the first part, and maybe what stands behind its comma
abbrev pub Cuts : List ℕ → List ℕ → Option (Bor (List ℕ)) → Type 0
Cuts text front behind = MatchOption behind (slice_split is_comma text ≡ front ∷ []) (λ b. slice_split is_comma text ≡ front ∷ slice_split is_comma b.now)

pub bad : (found : List Spec) (text front : List ℕ) (behind : Option (Bor (List ℕ))) → Cuts text front behind → None ≡ spec_named front → behind_these found (specs text) ≡ Err BadValue
bad found text front (Some b) p e = bad_part found text front (slice_split is_comma b.now) p e
bad found text front None p e = bad_part found text front [] p e

-- a text without this character
pub has_no : (c : ℕ) (text : List ℕ) → ((i : ℕ) → i < length text → get_or text i 0 ≢ c) → list_any (λ b. b == c) text ≡ false
has_no c [] h = refl
has_no c (x ∷ xs) h =
    let n : x ≢ c = h 0 (omega arith) in
    let e : (x == c) ≡ false = grind (arith, nat_tests) in
    let more : list_any (λ b. b == c) xs ≡ false = has_no c xs (λ i k. h (suc i) (omega arith)) in
    rw (e, more) refl

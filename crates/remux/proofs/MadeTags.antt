-- Tags from their parts.
use Rattle.std.proofs.Common.{◌≡◌, ◌≤◌, ℕ, ◌+◌, List, [], ◌∷◌, ◌++◌, length, arith, ap, sym, ◌∙◌, append_assoc}
use Rattle.std.specs.Prelude.{replicate, pos, ◌*◌, ◌/◌, ◌%◌, if◌then◌else◌}
use Rattle.std.proofs.lemmas.List.{length-replicate}
use Rattle.rmx_media.specs.Bits.{bytes_of}
use Rattle.flv_tags.specs.Written.{tag_head_bytes}
use Rattle.remux.specs.Generated.{tag_text, picture_text, unit_of, is_key}

regroup : (head lead alike back : List ℕ) → ((head ++ lead) ++ alike) ++ back ≡ head ++ ((lead ++ alike) ++ back)
regroup head lead alike back =
    ap (λ (l : List ℕ). l ++ back) (append_assoc head lead alike) ∙ append_assoc head (lead ++ alike) back

pub tag_is : (kind stamp size : ℕ) (head lead alike back p p1 p2 p3 p4 : List ℕ) → p ≡ [] → p1 ≡ p ++ head → p2 ≡ p1 ++ lead → p3 ≡ p2 ++ alike → p4 ≡ p3 ++ back
    → head ≡ tag_head_bytes kind size (pos stamp) → back ≡ bytes_of 4 (11 + size) → size ≡ length (lead ++ alike)
    → p4 ≡ tag_text kind stamp (lead ++ alike)
tag_is kind stamp size head lead alike back p p1 p2 p3 p4 e e1 e2 e3 e4 h b s =
    e4 ∙ ap (λ (l : List ℕ). l ++ back) (e3 ∙ ap (λ (l : List ℕ). l ++ alike) (e2 ∙ ap (λ (l : List ℕ). l ++ lead) (e1 ∙ ap (λ (l : List ℕ). l ++ head) e)))
    ∙ regroup head lead alike back
    ∙ ap (λ (l : List ℕ). l ++ ((lead ++ alike) ++ back)) h
    ∙ ap (λ (l : List ℕ). tag_head_bytes kind size (pos stamp) ++ ((lead ++ alike) ++ l)) b
    ∙ ap (λ (n : ℕ). tag_head_bytes kind n (pos stamp) ++ ((lead ++ alike) ++ bytes_of 4 (11 + n))) s

-- a small number in four bytes
short_number : (n : ℕ) → n ≤ 901 → bytes_of 4 n ≡ 0 ∷ 0 ∷ n / 256 ∷ n % 256 ∷ []
short_number n l =
    let first : n / 16777216 % 256 ≡ 0 = omega (arith, l) in
    let second : n / 65536 % 256 ≡ 0 = omega (arith, l) in
    let third : n / 256 % 256 ≡ n / 256 = omega (arith, l) in
    let fourth : n / 1 % 256 ≡ n % 256 = omega arith in
    ap (λ (x : ℕ). x ∷ n / 65536 % 256 ∷ n / 256 % 256 ∷ n / 1 % 256 ∷ []) first
    ∙ ap (λ (x : ℕ). 0 ∷ x ∷ n / 256 % 256 ∷ n / 1 % 256 ∷ []) second
    ∙ ap (λ (x : ℕ). 0 ∷ 0 ∷ x ∷ n / 1 % 256 ∷ []) third
    ∙ ap (λ (x : ℕ). 0 ∷ 0 ∷ n / 256 ∷ x ∷ []) fourth

unit_size : (n : ℕ) → length (unit_of n) ≡ 1 + (1 + 37 * n % 900)
unit_size n = let e = length-replicate (1 + 37 * n % 900) (128 + n % 100) in omega (arith, e)

size_bytes : (n : ℕ) → bytes_of 4 (length (unit_of n)) ≡ 0 ∷ 0 ∷ (1 + (1 + 37 * n % 900)) / 256 ∷ (1 + (1 + 37 * n % 900)) % 256 ∷ []
size_bytes n = ap (bytes_of 4) (unit_size n) ∙ short_number (1 + (1 + 37 * n % 900)) (omega arith)

pub picture_is : (n k u : ℕ) → k ≡ (if is_key n then 23 else 39) → u ≡ (if is_key n then 101 else 65)
    → tag_text 9 (40 * n) ((k ∷ 1 ∷ 0 ∷ 0 ∷ 0 ∷ 0 ∷ 0 ∷ (1 + (1 + 37 * n % 900)) / 256 ∷ (1 + (1 + 37 * n % 900)) % 256 ∷ u ∷ []) ++ replicate (1 + 37 * n % 900) (128 + n % 100)) ≡ picture_text n
unfolding picture_text
picture_is n k u e f =
    let alike : List ℕ = replicate (1 + 37 * n % 900) (128 + n % 100) in
    ap (λ (x : ℕ). tag_text 9 (40 * n) (x ∷ 1 ∷ 0 ∷ 0 ∷ 0 ∷ 0 ∷ 0 ∷ (1 + (1 + 37 * n % 900)) / 256 ∷ (1 + (1 + 37 * n % 900)) % 256 ∷ u ∷ alike)) e
    ∙ ap (λ (x : ℕ). tag_text 9 (40 * n) ((if is_key n then 23 else 39) ∷ 1 ∷ 0 ∷ 0 ∷ 0 ∷ 0 ∷ 0 ∷ (1 + (1 + 37 * n % 900)) / 256 ∷ (1 + (1 + 37 * n % 900)) % 256 ∷ x ∷ alike)) f
    ∙ sym (ap (λ (l : List ℕ). tag_text 9 (40 * n) ((if is_key n then 23 else 39) ∷ 1 ∷ 0 ∷ 0 ∷ 0 ∷ (l ++ unit_of n))) (size_bytes n))

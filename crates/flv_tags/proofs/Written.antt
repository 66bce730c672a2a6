-- A written head is read back.
use Rattle.std.proofs.Common.{◌≡◌, ℕ, ◌+◌, ◌/◌, ◌%◌, ◌<◌, false, List, [], ◌∷◌, ◌++◌, length, take, drop, arith, ap, ◌∙◌, sym, refl, length-append, ℤ, FitsSigned, Fits}
use Rattle.std.specs.Prelude.{◌==◌}
use Rattle.std.specs.Int.{w32, cast_unsigned, cast_signed}
use Rattle.std.proofs.Math.Nat.{div-div-eq-div-mul, div-one}
use Rattle.std.proofs.Math.Facts.{Fits-of_z, to_z-of_z}
use Rattle.std.proofs.Math.Seq.{take-append_seam, drop-append_seam}
use Rattle.std.proofs.lemmas.List.{drop-drop}
use Rattle.std.proofs.lemmas.Int.{ints}
use Rattle.rmx_media.specs.Bits.{number_of, bytes_of}
use Rattle.flv_tags.specs.declared.tag.Tag.{Tag}
use Rattle.flv_tags.specs.Front.{One, front_of_tags, body_size, tag_of, tag_by}
use Rattle.flv_tags.specs.Written.{tag_head_bytes}
use Rattle.flv_tags.proofs.More.{front_one}

three : (n : ℕ) → n < 16777216 → number_of (bytes_of 3 n) ≡ n
three n h =
    let a : n / 256 / 256 ≡ n / 65536 = div-div-eq-div-mul n 256 256 in
    let b : n / 1 ≡ n = div-one n in
    let top : n / 65536 < 256 = omega (arith, a) in
    omega (arith, a, b)

four : (n : ℕ) → n < 4294967296 → number_of (bytes_of 1 (n / 16777216) ++ bytes_of 3 (n % 16777216)) ≡ n
four n h =
    let low : number_of (bytes_of 3 (n % 16777216)) ≡ n % 16777216 = three (n % 16777216) (omega arith) in
    let b : n / 16777216 / 1 ≡ n / 16777216 = div-one (n / 16777216) in
    omega (arith, low, b)

one_same : (a b : Tag) (x y : List ℕ) → a ≡ b → x ≡ y → One a x ≡ One b y
one_same a b x y p q = rw (p, q) refl

tag_same : (kind first s : ℕ) (stamp : ℤ) (a b : List ℕ) → first ≡ kind → kind < 32 → cast_signed w32 s ≡ stamp → a ≡ b → tag_by first s a ≡ record { kind = kind; filter = false; stamp = stamp; body = b }
tag_same kind first s stamp a b e k p q =
    let low : first % 32 ≡ kind = omega arith in
    let bit : (first / 32 % 2 == 1) ≡ false = grind arith in
    rw (low, bit, p, q) refl

abbrev laid : ℕ → ℕ → ℕ → ℕ → ℕ → ℕ → ℕ → ℕ → List ℕ → List ℕ
laid kind a b c h m l u rest = kind ∷ a ∷ b ∷ c ∷ h ∷ m ∷ l ∷ u ∷ 0 ∷ 0 ∷ 0 ∷ rest

read_by : (kind a b c h m l u : ℕ) (stamp : ℤ) (body rest : List ℕ) → kind < 32 → number_of (a ∷ b ∷ c ∷ []) ≡ length body → cast_signed w32 (number_of (u ∷ h ∷ m ∷ l ∷ [])) ≡ stamp →
    front_of_tags (laid kind a b c h m l u (body ++ rest)) ≡ One record { kind = kind; filter = false; stamp = stamp; body = body } rest
read_by kind a b c h m l u stamp body rest k n s =
    let longer : length (body ++ rest) ≡ length body + length rest = length-append body rest in
    front_one (laid kind a b c h m l u (body ++ rest)) (omega arith) (omega (arith, n)) ∙ one_same _ _ _ _ tag behind
  where
    tag : tag_of (laid kind a b c h m l u (body ++ rest)) ≡ record { kind = kind; filter = false; stamp = stamp; body = body }
    tag = tag_same kind kind _ stamp _ body refl k s (ap (λ (i : ℕ). take i (body ++ rest)) n ∙ take-append_seam body rest)

    behind : drop (11 + body_size (laid kind a b c h m l u (body ++ rest))) (laid kind a b c h m l u (body ++ rest)) ≡ rest
    behind = sym (drop-drop (number_of (a ∷ b ∷ c ∷ [])) 11 (laid kind a b c h m l u (body ++ rest))) ∙ ap (λ (i : ℕ). drop i (body ++ rest)) n ∙ drop-append_seam body rest

pub read_back : (kind : ℕ) (stamp : ℤ) (body rest : List ℕ) → kind < 32 → length body < 16777216 → FitsSigned w32 stamp →
    front_of_tags (tag_head_bytes kind (length body) stamp ++ (body ++ rest)) ≡ One record { kind = kind; filter = false; stamp = stamp; body = body } rest
read_back kind stamp body rest k n f =
    let fits : Fits w32 (cast_unsigned w32 stamp) = Fits-of_z f in
    let small : cast_unsigned w32 stamp < 4294967296 = omega (arith, ints, fits) in
    read_by kind _ _ _ _ _ _ _ stamp body rest k (three (length body) n) (ap (cast_signed w32) (four (cast_unsigned w32 stamp) small) ∙ to_z-of_z f)

-- What a writer of FLV puts in front of tags and files.
use Rattle.std.specs.Prelude.{◌≡◌, ℕ, ◌<◌, ◌/◌, ◌%◌, ◌^◌, List, [], ◌∷◌, ◌++◌, length, ℤ, false, FitsSigned}
use Rattle.std.specs.Int.{w32, cast_unsigned}
use Rattle.rmx_media.specs.Bits.{bytes_of}
use Rattle.flv_tags.specs.Front.{front_of_tags, One}

-- the head of a tag: kind, size of the body, the stamp's three lower bytes and its upper one, stream 0
abbrev pub tag_head_bytes : ℕ → ℕ → ℤ → List ℕ
tag_head_bytes kind size stamp = let bits = cast_unsigned w32 stamp in
    kind ∷ bytes_of 3 size ++ bytes_of 3 (bits % 2 ^ 24) ++ bytes_of 1 (bits / 2 ^ 24) ++ 0 ∷ 0 ∷ 0 ∷ []

-- the head of a file of version 1, and a size field of 0
abbrev pub file_head_bytes : ℕ → List ℕ
file_head_bytes flags = 70 ∷ 76 ∷ 86 ∷ 1 ∷ flags ∷ 0 ∷ 0 ∷ 0 ∷ 9 ∷ 0 ∷ 0 ∷ 0 ∷ 0 ∷ []

-- the law of heads: with its body behind it, a head is read back
abbrev pub HeadsAreReadBack : Type 0
HeadsAreReadBack = (kind : ℕ) (stamp : ℤ) (body rest : List ℕ) → kind < 32 → length body < 2 ^ 24 → FitsSigned w32 stamp →
    front_of_tags (tag_head_bytes kind (length body) stamp ++ (body ++ rest)) ≡ One record { kind = kind; filter = false; stamp = stamp; body = body } rest

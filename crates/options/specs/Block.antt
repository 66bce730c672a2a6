-- Options and their values.
use Rattle.std.specs.Prelude.{ℕ, List, [], ◌∷◌, ◌++◌, Bool, true, false, Result, Ok, Err, ◌==◌, ◌||◌, if◌then◌else◌, encode_utf8_all}
use Rattle.std.specs.Char.{is_ascii_alphanumeric}
use Rattle.options.specs.declared.escape.Place.TheVariants.{Bare}
use Rattle.options.specs.declared.fault.WordKind.{WordKind}
use Rattle.options.specs.declared.fault.WordKind.TheVariants.{UnclosedBlock, UnknownOption}
use Rattle.options.specs.Read.{◌>>=◌}
use Rattle.options.specs.Escape.{piece}

abbrev pub is_key_char : ℕ → Bool
is_key_char c = is_ascii_alphanumeric c || (c == 95) || (c == 47)

-- The characters of a key, behind those that came before, and what stands behind its =. The fault is for a text that
-- ends in front of it.
unfoldable pub key_at : WordKind → List ℕ → List ℕ → Result (List ℕ × List ℕ) WordKind
key_at short before [] = Err short
key_at short before (c ∷ cs) =
    if c == 61 then Ok (before, cs)
    else if is_key_char c then key_at short (before ++ c ∷ []) cs
    else Err UnknownOption

-- the bytes of a text up to a bare character that ends it, its marks removed, and what is left from there on
unfoldable pub value_until : List ℕ → List ℕ → Result (List ℕ × List ℕ) WordKind
value_until stops text = piece stops Bare text >>= λ v. Ok (encode_utf8_all v.0, v.1)

-- a value of a block: whether ] ends it, and what stands behind its end
abbrev pub with_end : List ℕ → List ℕ → Result (List ℕ × Bool × List ℕ) WordKind
with_end value [] = Err UnclosedBlock
with_end value (c ∷ cs) = Ok (value, c == 93, cs)

unfoldable pub value_at : List ℕ → Result (List ℕ × Bool × List ℕ) WordKind
value_at text = value_until (58 ∷ 93 ∷ []) text >>= λ v. with_end v.0 v.1

-- a value of options that no block holds: whether the text ends it, and what stands behind its end
abbrev pub or_text_end : List ℕ → List ℕ → List ℕ × Bool × List ℕ
or_text_end value [] = (value, true, [])
or_text_end value (c ∷ cs) = (value, false, cs)

unfoldable pub bare_value_at : List ℕ → Result (List ℕ × Bool × List ℕ) WordKind
bare_value_at text = value_until (58 ∷ []) text >>= λ v. Ok (or_text_end v.0 v.1)

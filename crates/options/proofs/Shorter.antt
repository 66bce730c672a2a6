-- What is left is shorter than what was read.
use Rattle.std.proofs.Common.{◌<◌, ◌≤◌, ℕ, suc, List, [], ◌∷◌, ◌++◌, length, Bool, true, false, cond, Result, Ok, Err, arith}
use Rattle.std.specs.Prelude.{◌==◌, encode_utf8_all}
use Rattle.options.specs.declared.escape.Place.{Place}
use Rattle.options.specs.declared.escape.Place.TheVariants.{Bare, Escaped, Quoted}
use Rattle.options.specs.declared.fault.WordKind.{WordKind}
use Rattle.options.specs.Read.{◌>>=◌}
use Rattle.options.specs.Escape.{piece, is_among, with_front}
use Rattle.options.specs.Repeat.{Turn, More, Last, turn}
use Rattle.options.specs.Block.{is_key_char, key_at, value_until, with_end, value_at, or_text_end, bare_value_at}

-- what is left is at most n long
abbrev pub Leaves : {A : Type 0} → ℕ → Result (A × List ℕ) WordKind → Type 0
Leaves n (Ok x) = length x.1 ≤ n
Leaves n (Err e) = Unit {0}

pub leaves_cond : {A : Type 0} (n : ℕ) (b : Bool) (x y : Result (A × List ℕ) WordKind) → Leaves n x → Leaves n y → Leaves n (cond b x y)
leaves_cond n true x y p q = p
leaves_cond n false x y p q = q

leaves_more : {A : Type 0} (n : ℕ) (r : Result (A × List ℕ) WordKind) → Leaves n r → Leaves (suc n) r
leaves_more n (Ok x) p = omega arith
leaves_more n (Err e) p = tt

leaves_front : (front : List ℕ) (n : ℕ) (r : Result (List ℕ × List ℕ) WordKind) → Leaves n r → Leaves (suc n) (with_front front r)
leaves_front front n (Ok x) p = omega arith
leaves_front front n (Err e) p = tt

pub piece_leaves : (stops : List ℕ) (place : Place) (text : List ℕ) → Leaves (length text) (piece stops place text)
unfolding piece
piece_leaves stops Bare [] = omega arith
piece_leaves stops Escaped [] = tt
piece_leaves stops Quoted [] = tt
piece_leaves stops Bare (c ∷ cs) =
    leaves_cond _ (is_among stops c) (Ok ([], c ∷ cs)) _ (omega arith) (
    leaves_cond _ (c == 92) _ _ (leaves_more _ _ (piece_leaves stops Escaped cs)) (
    leaves_cond _ (c == 39) _ _ (leaves_more _ _ (piece_leaves stops Quoted cs)) (
    leaves_front (c ∷ []) _ _ (piece_leaves stops Bare cs))))
piece_leaves stops Escaped (c ∷ cs) = leaves_front (c ∷ []) _ _ (piece_leaves stops Bare cs)
piece_leaves stops Quoted (c ∷ cs) =
    leaves_cond _ (c == 39) _ _ (leaves_more _ _ (piece_leaves stops Bare cs)) (leaves_front (c ∷ []) _ _ (piece_leaves stops Quoted cs))

-- what is left is shorter than n
abbrev LeavesLess : {A : Type 0} → ℕ → Result (A × List ℕ) WordKind → Type 0
LeavesLess n (Ok x) = length x.1 < n
LeavesLess n (Err e) = Unit {0}

less_cond : {A : Type 0} (n : ℕ) (b : Bool) (x y : Result (A × List ℕ) WordKind) → LeavesLess n x → LeavesLess n y → LeavesLess n (cond b x y)
less_cond n true x y p q = p
less_cond n false x y p q = q

less_more : {A : Type 0} (n : ℕ) (r : Result (A × List ℕ) WordKind) → LeavesLess n r → LeavesLess (suc n) r
less_more n (Ok x) p = omega arith
less_more n (Err e) p = tt

key_less : (short : WordKind) (before text : List ℕ) → LeavesLess (length text) (key_at short before text)
unfolding key_at
key_less short before [] = tt
key_less short before (c ∷ cs) =
    less_cond _ (c == 61) (Ok (before, cs)) _ (omega arith) (
    less_cond _ (is_key_char c) _ _ (less_more _ _ (key_less short (before ++ c ∷ []) cs)) tt)

-- what is left behind a value and its end is at most n long
abbrev EndLeaves : ℕ → Result (List ℕ × Bool × List ℕ) WordKind → Type 0
EndLeaves n (Ok x) = length x.2 ≤ n
EndLeaves n (Err e) = Unit {0}

bytes_leave : (n : ℕ) (r : Result (List ℕ × List ℕ) WordKind) → Leaves n r → Leaves n (r >>= λ v. Ok (encode_utf8_all v.0, v.1))
bytes_leave n (Ok x) h = h
bytes_leave n (Err e) h = tt

until_leaves : (stops text : List ℕ) → Leaves (length text) (value_until stops text)
unfolding value_until
until_leaves stops text = bytes_leave _ (piece stops Bare text) (piece_leaves stops Bare text)

end_leaves : (n : ℕ) (value rest : List ℕ) → length rest ≤ n → EndLeaves n (with_end value rest)
end_leaves n value [] h = tt
end_leaves n value (c ∷ cs) h = omega arith

ends_leave : (n : ℕ) (r : Result (List ℕ × List ℕ) WordKind) → Leaves n r → EndLeaves n (r >>= λ v. with_end v.0 v.1)
ends_leave n (Ok x) h = end_leaves n x.0 x.1 h
ends_leave n (Err e) h = tt

pub value_leaves : (text : List ℕ) → EndLeaves (length text) (value_at text)
unfolding value_at
value_leaves text = ends_leave _ (value_until (58 ∷ 93 ∷ []) text) (until_leaves (58 ∷ 93 ∷ []) text)

text_end_leaves : (n : ℕ) (value rest : List ℕ) → length rest ≤ n → EndLeaves n (Ok (or_text_end value rest))
text_end_leaves n value [] h = omega arith
text_end_leaves n value (c ∷ cs) h = omega arith

text_ends_leave : (n : ℕ) (r : Result (List ℕ × List ℕ) WordKind) → Leaves n r → EndLeaves n (r >>= λ v. Ok (or_text_end v.0 v.1))
text_ends_leave n (Ok x) h = text_end_leaves n x.0 x.1 h
text_ends_leave n (Err e) h = tt

pub bare_value_leaves : (text : List ℕ) → EndLeaves (length text) (bare_value_at text)
unfolding bare_value_at
bare_value_leaves text = text_ends_leave _ (value_until (58 ∷ []) text) (until_leaves (58 ∷ []) text)

-- what More leaves is shorter than n
abbrev pub Shortens : {S : Type 0} → ℕ → Result (Turn S) WordKind → Type 0
Shortens n (Ok (More s rest)) = length rest < n
Shortens n (Ok (Last s rest)) = Unit {0}
Shortens n (Err e) = Unit {0}

turn_shortens : {S : Type 0} (n : ℕ) (last : Bool) (s : S) (rest : List ℕ) → length rest < n → Shortens n (Ok (turn last s rest))
turn_shortens n true s rest h = tt
turn_shortens n false s rest h = h

named_shortens : {S : Type 0} (n : ℕ) (r : Result S WordKind) (last : Bool) (rest : List ℕ) → length rest < n → Shortens n (r >>= λ more. Ok (turn last more rest))
named_shortens n (Ok s) last rest h = turn_shortens n last s rest h
named_shortens n (Err e) last rest h = tt

value_shortens : {S : Type 0} (n m : ℕ) (r : Result (List ℕ × Bool × List ℕ) WordKind) (named : List ℕ → Result S WordKind) → m < n → EndLeaves m r → Shortens n (r >>= λ v. named v.0 >>= λ more. Ok (turn v.1 more v.2))
value_shortens n m (Ok v) named lt h = named_shortens n (named v.0) v.1 v.2 (omega arith)
value_shortens n m (Err e) named lt h = tt

key_shortens : {S : Type 0} (n : ℕ) (r : Result (List ℕ × List ℕ) WordKind) (value : List ℕ → Result (List ℕ × Bool × List ℕ) WordKind) (named : List ℕ → List ℕ → Result S WordKind) → LeavesLess n r → ((t : List ℕ) → EndLeaves (length t) (value t)) → Shortens n (r >>= λ key. value key.1 >>= λ v. named key.0 v.0 >>= λ more. Ok (turn v.1 more v.2))
key_shortens n (Ok key) value named lt h = value_shortens n (length key.1) (value key.1) (named key.0) lt (h key.1)
key_shortens n (Err e) value named lt h = tt

-- an option and its value are not empty
pub option_shortens : {S : Type 0} (short : WordKind) (text : List ℕ) (value : List ℕ → Result (List ℕ × Bool × List ℕ) WordKind) (named : List ℕ → List ℕ → Result S WordKind) → ((t : List ℕ) → EndLeaves (length t) (value t)) → Shortens (length text) (key_at short [] text >>= λ key. value key.1 >>= λ v. named key.0 v.0 >>= λ more. Ok (turn v.1 more v.2))
option_shortens short text value named h = key_shortens (length text) (key_at short [] text) value named (key_less short [] text) h

-- File names with a number in them.
use Rattle.std.specs.Prelude.{ℕ, ◌+◌, ◌-◌, ◌==◌, ◌&&◌, not, nat_lt, Bool, List, [], ◌∷◌, ◌++◌, length, replicate, Option, Some, None, option_and_then, decimal, if◌then◌else◌}
use Rattle.std.specs.Option.{option_map}
use Rattle.std.specs.List.{before_first, after_first, list_any}
use Rattle.std.specs.Char.{is_ascii_digit}

-- what clauses see of a template
pub record TemplateParts : Type 0 where
  pub before : List ℕ
  -- to how many digits the number is filled up with zeros
  pub width : ℕ
  pub after : List ℕ

abbrev pub with_front : List ℕ → List ℕ × Option (List ℕ) → List ℕ × Option (List ℕ)
with_front front p = (front ++ p.0, p.1)

-- The text up to a percent sign that stands alone, with each doubled one made single, and what stands behind that sign.
unfoldable pub plain : List ℕ → List ℕ × Option (List ℕ)
plain [] = ([], None)
plain (c ∷ []) = if c == 37 then ([], Some []) else (c ∷ [], None)
plain (c ∷ d ∷ cs) =
    if c == 37 then (if d == 37 then with_front (37 ∷ []) (plain cs) else ([], Some (d ∷ cs)))
    else with_front (c ∷ []) (plain (d ∷ cs))

-- the number from 1 to 20 that these digits spell, with no zero in front
abbrev pub width_of : List ℕ → Option ℕ
width_of [] = None
width_of (n ∷ []) = if is_ascii_digit n && not (n == 48) then Some (n - 48) else None
width_of (m ∷ n ∷ []) =
    if (m == 49) && is_ascii_digit n then Some (10 + (n - 48))
    else if (m == 50) && (n == 48) then Some 20
    else None
width_of (m ∷ n ∷ o ∷ more) = None

abbrev pub is_d : ℕ → Bool
is_d c = c == 100

-- 0Nd without its zero
abbrev pub filled_mark : List ℕ → Option (ℕ × List ℕ)
filled_mark text =
    if list_any is_d text then option_map (λ width. (width, after_first is_d text)) (width_of (before_first is_d text))
    else None

-- the width of d or 0Nd, and what stands behind it
abbrev pub mark : List ℕ → Option (ℕ × List ℕ)
mark [] = None
mark (c ∷ cs) =
    if c == 100 then Some (0, cs)
    else if c == 48 then filled_mark cs
    else None

abbrev pub closed : List ℕ → ℕ → List ℕ × Option (List ℕ) → Option TemplateParts
closed before width (after, None) = Some (record { before = before; width = width; after = after })
closed before width (after, Some rest) = None

-- plain text, one mark of a number, and plain text
abbrev pub parts_of : List ℕ → Option TemplateParts
parts_of text = option_and_then (λ rest. option_and_then (λ m. closed (plain text).0 m.0 (plain m.1)) (mark rest)) (plain text).1

-- the template that a text of at most 200 bytes spells
abbrev pub template : List ℕ → Option TemplateParts
template text = if nat_lt 200 (length text) then None else parts_of text

-- the digits, filled up with zeros to the width
abbrev pub filled : ℕ → List ℕ → List ℕ
filled width digits = replicate (width - length digits) 48 ++ digits

-- the name with that number
abbrev pub name_of : TemplateParts → ℕ → List ℕ
name_of t number = t.before ++ filled t.width (decimal number) ++ t.after

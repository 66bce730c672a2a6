-- Which streams an output takes.
use Rattle.std.specs.Prelude.{ℕ, List, [], ◌∷◌, Bool, Option, Some, None, Result, Ok, ◌==◌, ◌||◌, if◌then◌else◌, codes}
use Rattle.std.specs.List.{slice_split}
use Rattle.std.specs.Str.{bytes_eq}
use Rattle.options.specs.declared.select.Spec.{Spec}
use Rattle.options.specs.declared.select.Spec.TheVariants.{Video, Audio, Index}
use Rattle.options.specs.declared.fault.WordKind.{WordKind}
use Rattle.options.specs.Read.{◌>>=◌, or_bad}

abbrev pub spec_named : List ℕ → Option Spec
spec_named text =
    if bytes_eq text (codes "v") || bytes_eq text (codes "v:0") then Some Video
    else if bytes_eq text (codes "a") || bytes_eq text (codes "a:0") then Some Audio
    else if bytes_eq text (codes "0") then Some (Index 0)
    else if bytes_eq text (codes "1") then Some (Index 1)
    else None

-- each of these
unfoldable pub each_spec : List (List ℕ) → Result (List Spec) WordKind
each_spec [] = Ok []
each_spec (text ∷ texts) = or_bad (spec_named text) >>= λ s. each_spec texts >>= λ more. Ok (s ∷ more)

abbrev pub is_comma : ℕ → Bool
is_comma c = c == 44

-- the streams that a text names, with commas between them
abbrev pub specs : List ℕ → Result (List Spec) WordKind
specs text = each_spec (slice_split is_comma text)

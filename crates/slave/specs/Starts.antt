-- Which starts of workers go on where some are listed.
use Rattle.std.specs.Prelude.{ℕ, Bool, not, List, ◌==◌}
use Rattle.std.specs.List.{list_any}
use Rattle.rmx_edge.specs.Count.{raised}

-- whether the nth start after the one that is numbered `next` isn't listed
abbrev pub is_unlisted : List ℕ → ℕ → ℕ → Bool
is_unlisted listed next n = not (list_any (λ k. k == raised next n) listed)

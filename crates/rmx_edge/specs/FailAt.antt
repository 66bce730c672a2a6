-- Which calls of a shelf in memory are to fail.
use Rattle.std.specs.Prelude.{ℕ, List, [], ◌∷◌, ◌==◌, if◌then◌else◌}
use Rattle.rmx_edge.specs.declared.fail_at.FailAt.{FailAt}

-- how much the first entry of this number keeps
abbrev pub keep_of : List FailAt → ℕ → ℕ
keep_of [] call = 0
keep_of (f ∷ fs) call = if f.call == call then f.keep else keep_of fs call

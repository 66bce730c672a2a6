-- What clauses see of a cutter.
use Rattle.std.specs.Prelude.{◌≡◌, ℕ, ◌+◌, ◌-◌, ◌*◌, ◌^◌, min, ℤ, pos, ◌-ℤ◌, ◌*ℤ◌, int_le, Bool, false, List, [], ◌∷◌, Option, None, Some}
use Rattle.segmenter.specs.Cuts.{CutRule, Mark, first_pts, cut_count}
use Rattle.segmenter.specs.declared.cutter.Cutter.{Cutter}

abbrev pub first_of : List Mark → Option ℤ
first_of [] = None
first_of (m ∷ earlier) = Some (first_pts (m ∷ earlier))

-- the first packet lies so many microseconds back
abbrev pub due_by : Option ℤ → ℕ → ℤ → Bool
due_by None due_us pts = false
due_by (Some first) due_us pts = int_le (pos due_us) ((pts -ℤ first) *ℤ pos 1000)

-- the cutter was asked about these packets of a session, of which the newest is listed first
pub record Shows (c : Cutter) (rule : CutRule) (earlier : List Mark) : Type 0 where
  pub time : c.time_us ≡ rule.time_us
  pub any : c.any_packet ≡ rule.any_packet
  pub first : c.first ≡ first_of earlier
  -- no packet lies so far behind the first one that the largest number is too small
  pub due : c.due_us ≡ min (rule.time_us * (1 + cut_count rule earlier)) (2 ^ 128 - 1)

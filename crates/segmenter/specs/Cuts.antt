-- The rule of cuts: before which packets of a session a new file begins.
use Rattle.std.specs.Prelude.{ℕ, ◌+◌, ◌*◌, ℤ, pos, ◌-ℤ◌, ◌*ℤ◌, int_le, Bool, false, ◌&&◌, ◌||◌, if◌then◌else◌, List, [], ◌∷◌}

-- how long a file lasts at least, and whether one may begin with any packet
pub record CutRule : Type 0 where
  pub time_us : ℕ
  pub any_packet : Bool

-- what the rule asks of a packet
pub record Mark : Type 0 where
  pub pts : ℤ
  -- whether its stream is the one that is cut at
  pub reference : Bool
  -- whether decoding can begin there
  pub restart : Bool

-- the pts of the first packet of a session; the newest is listed first
abbrev pub first_pts : List Mark → ℤ
first_pts [] = pos 0
first_pts (m ∷ []) = m.pts
first_pts (m ∷ n ∷ earlier) = first_pts (n ∷ earlier)

-- since the first packet the time of a file has passed once more than there were cuts
abbrev pub is_due : ℕ → ℕ → ℤ → ℤ → Bool
is_due time_us count first pts = int_le (pos (time_us * (1 + count))) ((pts -ℤ first) *ℤ pos 1000)

abbrev pub may_cut : CutRule → Mark → Bool
may_cut rule m = m.reference && (m.restart || rule.any_packet)

-- whether a packet cuts behind those earlier ones, so many of which cut
abbrev pub cuts_by : CutRule → List Mark → ℕ → Mark → Bool
cuts_by rule [] count m = false
cuts_by rule (e ∷ earlier) count m = may_cut rule m && is_due rule.time_us count (first_pts (e ∷ earlier)) m.pts

-- how many of the packets of a session cut
abbrev pub cut_count : CutRule → List Mark → ℕ
cut_count rule [] = 0
cut_count rule (m ∷ earlier) = (if cuts_by rule earlier (cut_count rule earlier) m then 1 else 0) + cut_count rule earlier

-- whether a packet cuts behind those earlier ones. The first one never does.
abbrev pub cuts : CutRule → List Mark → Mark → Bool
cuts rule earlier m = cuts_by rule earlier (cut_count rule earlier) m

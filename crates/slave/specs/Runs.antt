-- Runs of equal fates, as the fates one by one.
use Rattle.std.specs.Prelude.{◌≡◌, ◌≢◌, ℕ, zero, suc, ◌+◌, ◌-◌, ◌≤◌, ◌⊎◌, Bool, true, false, ◌&&◌, if◌then◌else◌, List, [], ◌∷◌, ◌++◌}
use Rattle.fifo_core.specs.declared.types.Fate.{Fate}
use Rattle.fifo_core.specs.declared.types.Fate.TheVariants as fate
use Rattle.slave.specs.declared.records.Run.{Run}

abbrev pub spread : ℕ → ℕ → Fate → List (ℕ × Fate)
spread first zero f = []
spread first (suc n) f = (first, f) ∷ spread (first + 1) n f

abbrev pub expand : List Run → List (ℕ × Fate)
expand [] = []
expand (r ∷ rs) = spread r.first r.count r.fate ++ expand rs

abbrev pub is_no_memory : Fate → Bool
is_no_memory fate.NoMemory = true
is_no_memory _ = false

-- how many packets lie before i and behind the one before `next`, where both have no memory
abbrev pub gap_count : Fate → Fate → ℕ → ℕ → ℕ
gap_count before f next i = if is_no_memory before && is_no_memory f then i - next else 0

-- The packets between the last of these and i, where both have no memory. They were refused.
abbrev pub gap_after : List (ℕ × Fate) → ℕ → Fate → List (ℕ × Fate)
gap_after [] i f = []
gap_after (x ∷ []) i f = spread (x.0 + 1) (gap_count x.1 f (x.0 + 1) i) f
gap_after (x ∷ y ∷ ys) i f = gap_after (y ∷ ys) i f

-- a further packet comes last
abbrev pub pushed : List (ℕ × Fate) → ℕ → Fate → List (ℕ × Fate)
pushed xs i f = xs ++ gap_after xs i f ++ (i, f) ∷ []

-- The run goes on with this packet: it comes right behind it, or somewhere behind it where both have no memory.
abbrev pub GoesOn : Run → ℕ → Fate → Type 0
GoesOn r i f = (r.first + r.count ≡ i) ⊎ ((f ≡ fate.NoMemory) × (r.first + r.count ≤ i))

-- the last run goes on with this packet
abbrev pub Joins : List Run → ℕ → Fate → Type 0
Joins rs i f = (front : List Run) × (r : Run) × (rs ≡ front ++ r ∷ []) × (r.fate ≡ f) × GoesOn r i f

-- the runs are in order of index, from `next` on and below the end, each of at least one packet
abbrev pub InOrder : ℕ → ℕ → List Run → Type 0
InOrder next end [] = next ≤ end
InOrder next end (r ∷ rs) = (next ≤ r.first) × (1 ≤ r.count) × InOrder (r.first + r.count) end rs

-- two runs without an index between them differ in fate
abbrev pub Differ : List Run → Type 0
Differ [] = Unit {0}
Differ (r ∷ []) = Unit {0}
Differ (r ∷ s ∷ rs) = (r.first + r.count ≡ s.first → r.fate ≢ s.fate) × Differ (s ∷ rs)

-- the runs of the packets below the end
abbrev pub AreInOrder : ℕ → List Run → Type 0
AreInOrder end rs = InOrder 0 end rs × Differ rs

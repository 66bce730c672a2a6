-- Why a packet has its fate.
use Rattle.std.specs.Prelude.{◌≡◌, ℕ, ◌+◌, ◌-◌, ◌≤◌, ◌⊎◌, ◌≢◌, true, false, List, [], ◌∷◌}
use Rattle.fifo_core.specs.declared.types.FifoOptions.{FifoOptions}
use Rattle.fifo_core.specs.declared.types.PacketFacts.{PacketFacts}
use Rattle.fifo_core.specs.declared.types.Answer.{Answer}
use Rattle.fifo_core.specs.declared.types.Answer.TheVariants as answer
use Rattle.fifo_core.specs.declared.types.Fate.{Fate}
use Rattle.fifo_core.specs.declared.types.Fate.TheVariants as fate
use Rattle.fifo_core.specs.declared.types.Mode.TheVariants.{Dead}
use Rattle.fifo_core.specs.History.{Begun, Tried, Fated, Want, History, notes, wanted, mode_of, mode_is_dead, session_of, is_written, is_waiting, trying}
use Rattle.fifo_core.specs.Follows.{Turn, Comes, Flushes, Follows}

-- the packet was tried last, with this answer
abbrev pub TriedLast : History → ℕ → Answer → Type 0
TriedLast [] i a = ⊥
TriedLast (Begun b ∷ h) i a = ⊥
TriedLast (Tried s j facts b ∷ h) i a = (j ≡ i) × (b ≡ a)
TriedLast (Fated j f ∷ h) i a = ⊥
TriedLast (Want ∷ h) i a = ⊥

-- the write of the packet failed last, in the session that was open
abbrev pub PutFailed : History → ℕ → Type 0
PutFailed [] i = ⊥
PutFailed (Begun b ∷ h) i = ⊥
PutFailed (Tried s j facts b ∷ h) i = (j ≡ i) × (b ≡ answer.Fault) × (s ≡ session_of h)
PutFailed (Fated j f ∷ h) i = ⊥
PutFailed (Want ∷ h) i = ⊥

-- since the last fate no other packet was tried
abbrev pub OnlyTried : History → ℕ → Type 0
OnlyTried [] i = Unit {0}
OnlyTried (Begun b ∷ h) i = Unit {0}
OnlyTried (Tried s j facts b ∷ h) i = (j ≡ i) × OnlyTried h i
OnlyTried (Fated j f ∷ h) i = Unit {0}
OnlyTried (Want ∷ h) i = OnlyTried h i

-- The cause of a fate, in the history before it. For the packet i that came:
abbrev pub Cause : FifoOptions → History → ℕ → PacketFacts → Fate → Type 0
-- it was written in session s, and where restart is asked it may stand first or stands right behind the one before it
Cause o h i facts (fate.Written s) =
    (wanted h ≡ false) × TriedLast h i answer.Done × (session_of h ≡ s)
    × (o.restart ≡ true → (facts.restart ≡ true) ⊎ (i ≡ 0) ⊎ (is_written h (i - 1) s ≡ true))
-- it may not stand first, and the one before it wasn't written, or its own write in the open session failed
Cause o h i facts fate.KeyWait =
    (wanted h ≡ false) × (mode_is_dead (mode_of o h) ≡ false) × (o.restart ≡ true) × (facts.restart ≡ false) × (i ≢ 0)
    × (((s : ℕ) → is_written h (i - 1) s ≡ false) ⊎ PutFailed h i)
-- fault f is the last, and it hit this packet, or the wait for the next try is on
Cause o h i facts (fate.Lost f) =
    (wanted h ≡ false) × (f + 1 ≡ notes h)
    × (TriedLast h i answer.Fault ⊎ ((mode_is_dead (mode_of o h) ≡ false) × (o.attempt_recovery ≡ true) × (is_waiting o h facts ≡ true)))
-- the output was given up at fault f
Cause o h i facts (fate.AfterFailure f) = (wanted h ≡ false) × (mode_of o h ≡ Dead f)
Cause o h i facts fate.NoMemory = wanted h ≡ true
-- a packet that comes is neither refused nor flushed
Cause o h i facts (fate.Refused v) = ⊥
Cause o h i facts (fate.Flushed v) = ⊥

-- and for one that is flushed
abbrev pub FlushCause : FifoOptions → History → ℕ → Fate → Type 0
FlushCause o h v (fate.Flushed u) = (wanted h ≡ false) × (u ≡ v)
FlushCause o h v (fate.AfterFailure f) = (wanted h ≡ false) × (mode_of o h ≡ Dead f)
FlushCause o h v fate.NoMemory = wanted h ≡ true
FlushCause o h v (fate.Written s) = ⊥
FlushCause o h v fate.KeyWait = ⊥
FlushCause o h v (fate.Lost f) = ⊥
FlushCause o h v (fate.Refused u) = ⊥

abbrev pub TurnCause : FifoOptions → History → ℕ → Turn → Fate → Type 0
TurnCause o h i (Comes j facts) f = (j ≡ i) × Cause o h i facts f
TurnCause o h i (Flushes j v) f = (j ≡ i) × FlushCause o h v f

abbrev pub HasTurn : List Turn → Turn → Type 0
HasTurn [] t = ⊥
HasTurn (u ∷ ts) t = (u ≡ t) ⊎ HasTurn ts t

abbrev pub turn_index : Turn → ℕ
turn_index (Comes i facts) = i
turn_index (Flushes i v) = i

-- the turns come in order of their indices, none below n
abbrev pub InTurn : ℕ → List Turn → Type 0
InTurn n [] = Unit {0}
InTurn n (t ∷ ts) = (n ≤ turn_index t) × InTurn (turn_index t + 1) ts

-- each fate has its cause in what came before it, no packet is tried once the output was given up, and session 0's begin comes first
abbrev pub Caused : FifoOptions → List Turn → History → Type 0
Caused o ts [] = Unit {0}
Caused o ts (Begun a ∷ h) = h ≡ []
Caused o ts (Tried s i facts a ∷ h) = (HasTurn ts (Comes i facts) × (s ≡ trying o h) × (mode_is_dead (mode_of o h) ≡ false)) × Caused o ts h
Caused o ts (Fated i f ∷ h) = ((t : Turn) × HasTurn ts t × TurnCause o h i t f × OnlyTried h i) × Caused o ts h
Caused o ts (Want ∷ h) = Caused o ts h

abbrev pub EachFateIsCaused : Type 0
EachFateIsCaused = (o : FifoOptions) (turns : List Turn) (h : History) → InTurn 0 turns → Follows o turns h → Caused o turns h

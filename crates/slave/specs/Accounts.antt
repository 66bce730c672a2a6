-- What the records of an output without a lane must say over its packets.
use Rattle.std.specs.Prelude.{◌≡◌, ◌≢◌, ℕ, ◌-◌, ◌≤◌, ◌<◌, ◌⊎◌, true, false, List, [], ◌∷◌, length, slice_get, Some, pos, ◌-ℤ◌, int_lt}
use Rattle.fifo_core.specs.declared.types.FifoOptions.{FifoOptions}
use Rattle.fifo_core.specs.declared.types.Fate.{Fate}
use Rattle.fifo_core.specs.declared.types.Fate.TheVariants as fate
use Rattle.fifo_core.specs.declared.types.EndState.TheVariants as ends
use Rattle.rmx_edge.specs.Count.{most}
use Rattle.rmx_media.specs.declared.packet.Packet.{Packet}
use Rattle.rmx_media.specs.Packet.{is_restart}
use Rattle.slave.specs.declared.records.FaultAt.TheVariants.{Begin, Put}
use Rattle.slave.specs.declared.records.FaultNote.{FaultNote}
use Rattle.slave.specs.Origin.{Origin, video_of}
use Rattle.slave.specs.Runs.{expand, AreInOrder}
use Rattle.slave.specs.Table.{StandsAt}
use Rattle.slave.specs.End.{EndView, Ended}

-- the fate of a packet is among these
abbrev pub Has : List (ℕ × Fate) → ℕ → Fate → Type 0
Has [] i f = ⊥
Has (x ∷ xs) i f = ((x.0 ≡ i) × (x.1 ≡ f)) ⊎ Has xs i f

-- Each note has a count before it and a higher one after it, or the largest count at both. The counts are in order.
abbrev pub NotesRise : ℕ → List FaultNote → ℕ → Type 0
NotesRise from [] to = from ≤ to
NotesRise from (n ∷ ns) to =
    (from ≤ n.before) × (n.before ≤ n.after) × ((n.before < n.after) ⊎ (most ≤ n.before)) × NotesRise n.after ns to

-- there is a note of that packet's write
abbrev pub HasPut : List FaultNote → ℕ → Type 0
HasPut [] i = ⊥
HasPut (n ∷ ns) i = (n.at ≡ Put i) ⊎ HasPut ns i

-- The call of note f was made for packet i. A note of a session's beginning doesn't name the packet: it is the first one that
-- was lost at that note.
abbrev pub IsHit : List (ℕ × Fate) → ℕ → FaultNote → ℕ → Type 0
IsHit fates f n i = (n.at ≡ Put i) ⊎ ((n.at ≡ Begin) × ((j : ℕ) → Has fates j (fate.Lost f) → i ≤ j))

-- Note f is the last before packet i: one that comes behind it hit a later packet.
abbrev pub IsLastBefore : List (ℕ × Fate) → List FaultNote → (f i : ℕ) → Type 0
IsLastBefore fates notes f i = (g j : ℕ) (m : FaultNote) → f < g → slice_get notes g ≡ Some m → (m.at ≡ Put j) ⊎ Has fates j (fate.Lost g) → i < j

-- Packet i comes before the wait is over that began with the packet that note f hit, and that note is the last before it. Packets
-- have indices by this relation.
pub record IsWaiting (o : FifoOptions) (At : ℕ → Packet → Type 0) (fates : List (ℕ × Fate)) (notes : List FaultNote) (f : ℕ) (n : FaultNote) (i : ℕ) (p : Packet) : Type 0 where
  pub recovers : o.attempt_recovery ≡ true
  pub waits : o.wait_ms ≢ 0
  pub index : ℕ
  pub packet : Packet
  pub at : At index packet
  pub hit : IsHit fates f n index
  pub earlier : index ≤ i
  pub last : IsLastBefore fates notes f i
  pub early : int_lt (p.dts -ℤ packet.dts) (pos o.wait_ms) ≡ true

-- a packet waits for a restart packet only behind one that wasn't written, or where its own write failed
abbrev pub MayWait : Origin → FifoOptions → List (ℕ × Fate) → List FaultNote → ℕ → Packet → Type 0
MayWait g o fates notes i p = (o.restart ≡ true) × (i ≢ 0) × (is_restart p (video_of g.streams.streams.items) ≡ false)
    × (((s : ℕ) → Has fates (i - 1) (fate.Written s) → ⊥) ⊎ HasPut notes i)

-- a packet is lost at its own fault, or in the wait after one
abbrev pub MayBeLost : FifoOptions → (ℕ → Packet → Type 0) → List (ℕ × Fate) → List FaultNote → ℕ → ℕ → Packet → Type 0
MayBeLost o At fates notes i f p = (n : FaultNote) × (slice_get notes f ≡ Some n) × (IsHit fates f n i ⊎ IsWaiting o At fates notes f n i p)

-- a packet may stand first, or stands right behind the one before it
abbrev pub MayStand : Origin → List (ℕ × Fate) → ℕ → ℕ → Packet → Type 0
MayStand g fates i s p = (is_restart p (video_of g.streams.streams.items) ≡ true) ⊎ (i ≡ 0) ⊎ Has fates (i - 1) (fate.Written s)

pub record Accounts (g : Origin) (o : FifoOptions) (L : List Packet) (e : EndView) : Type 0 where
  -- each packet lies in exactly one run; the runs are in order, and neighbours differ
  pub order : AreInOrder (length L) e.fates
  pub covers : (i : ℕ) → i < length L → (f : Fate) × Has (expand e.fates) i f
  pub within : (i : ℕ) (f : Fate) → Has (expand e.fates) i f → i < length L
  pub once : (i : ℕ) (f h : Fate) → Has (expand e.fates) i f → Has (expand e.fates) i h → f ≡ h
  -- nothing is refused or flushed
  pub refused : (i v : ℕ) → Has (expand e.fates) i (fate.Refused v) → ⊥
  pub flushed : (i v : ℕ) → Has (expand e.fates) i (fate.Flushed v) → ⊥
  -- a packet waits for a restart packet only behind one that wasn't written, or where its own write failed
  pub key_wait : (i : ℕ) (p : Packet) → Has (expand e.fates) i fate.KeyWait → slice_get L i ≡ Some p
      → MayWait g o (expand e.fates) e.faults i p
  -- a packet is lost at its own fault, or in the wait after one
  pub lost : (i f : ℕ) (p : Packet) → Has (expand e.fates) i (fate.Lost f) → slice_get L i ≡ Some p
      → MayBeLost o (StandsAt L) (expand e.fates) e.faults i f p
  -- once the output was given up at a fault, it stays so
  pub after_failure : (i f : ℕ) → Has (expand e.fates) i (fate.AfterFailure f) → (f < length e.faults)
      × ((j : ℕ) (h : Fate) → i < j → Has (expand e.fates) j h → (h ≡ fate.AfterFailure f) ⊎ (h ≡ fate.NoMemory))
  -- once memory was wanted, it stays so
  pub no_memory : (i : ℕ) → Has (expand e.fates) i fate.NoMemory → (e.state ≡ ends.NoMemory)
      × ((j : ℕ) (h : Fate) → i < j → Has (expand e.fates) j h → h ≡ fate.NoMemory)
  -- the shelf's count of faults tells the notes
  pub notes : NotesRise g.shelf.faults e.faults e.shelf.faults
  -- where restart is asked, each written packet may stand first or stands right behind the one before it
  pub restart : (i s : ℕ) (p : Packet) → o.restart ≡ true → Has (expand e.fates) i (fate.Written s) → slice_get L i ≡ Some p
      → MayStand g (expand e.fates) i s p

-- every end of an output meets its accounts
abbrev pub EndsMeetAccounts : Type 0
EndsMeetAccounts = (g : Origin) (o : FifoOptions) (L : List Packet) (e : EndView) → Ended g o L e → Accounts g o L e

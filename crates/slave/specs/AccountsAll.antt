-- What the records of an output must say over all that it was given, where the indices may have gaps.
use Rattle.std.specs.Prelude.{◌≡◌, ℕ, ◌<◌, ◌⊎◌, true, List, [], ◌∷◌, length}
use Rattle.fifo_core.specs.declared.types.FifoOptions.{FifoOptions}
use Rattle.fifo_core.specs.declared.types.Fate.{Fate}
use Rattle.fifo_core.specs.declared.types.Fate.TheVariants as fate
use Rattle.fifo_core.specs.declared.types.EndState.TheVariants as ends
use Rattle.rmx_media.specs.declared.packet.Packet.{Packet}
use Rattle.slave.specs.Origin.{Origin}
use Rattle.slave.specs.Given.{Given, Sent, Swept, index_of, end_from, Gives}
use Rattle.slave.specs.Runs.{expand, AreInOrder}
use Rattle.slave.specs.Accounts.{Has, NotesRise, MayWait, MayBeLost, MayStand}
use Rattle.slave.specs.End.{EndView, EndedAll}

-- something of that index was given
abbrev pub GivesAt : List Given → ℕ → Type 0
GivesAt [] i = ⊥
GivesAt (t ∷ ts) i = (index_of t ≡ i) ⊎ GivesAt ts i

-- the packet of that index was flushed, by the overflow of that number
abbrev pub SweptAt : List Given → ℕ → ℕ → Type 0
SweptAt [] i v = ⊥
SweptAt (Sent j p ∷ ts) i v = SweptAt ts i v
SweptAt (Swept j n ∷ ts) i v = ((j ≡ i) × (n ≡ v)) ⊎ SweptAt ts i v

-- what becomes of a packet that is flushed: the output may have been given up, or memory may have been wanted
abbrev pub MayFlush : ℕ → Fate → Type 0
MayFlush v f = (f ≡ fate.Flushed v) ⊎ ((n : ℕ) × (f ≡ fate.AfterFailure n)) ⊎ (f ≡ fate.NoMemory)

pub record AccountsAll (g : Origin) (o : FifoOptions) (T : List Given) (e : EndView) : Type 0 where
  -- all that was given lies in exactly one run; the runs are in order, and neighbours differ
  pub order : AreInOrder (end_from 0 T) e.fates
  pub covers : (i : ℕ) → GivesAt T i → (f : Fate) × Has (expand e.fates) i f
  pub once : (i : ℕ) (f h : Fate) → Has (expand e.fates) i f → Has (expand e.fates) i h → f ≡ h
  -- nothing else lies in a run, but that one without memory goes on over the gaps
  pub within : (i : ℕ) (f : Fate) → Has (expand e.fates) i f → GivesAt T i ⊎ ((f ≡ fate.NoMemory) × (e.state ≡ ends.NoMemory))
  -- nothing is refused; a packet has the fate Flushed only where it was flushed, with that number
  pub refused : (i v : ℕ) → Has (expand e.fates) i (fate.Refused v) → ⊥
  pub flushed : (i v : ℕ) → Has (expand e.fates) i (fate.Flushed v) → SweptAt T i v
  pub swept : (i v : ℕ) (f : Fate) → SweptAt T i v → Has (expand e.fates) i f → MayFlush v f
  -- a packet waits for a restart packet only behind one that wasn't written, or where its own write failed
  pub key_wait : (i : ℕ) (p : Packet) → Has (expand e.fates) i fate.KeyWait → Gives T i p → MayWait g o (expand e.fates) e.faults i p
  -- a packet is lost at its own fault, or in the wait after one
  pub lost : (i f : ℕ) (p : Packet) → Has (expand e.fates) i (fate.Lost f) → Gives T i p → MayBeLost o (Gives T) (expand e.fates) e.faults i f p
  -- once the output was given up at a fault, it stays so
  pub after_failure : (i f : ℕ) → Has (expand e.fates) i (fate.AfterFailure f) → (f < length e.faults)
      × ((j : ℕ) (h : Fate) → i < j → Has (expand e.fates) j h → (h ≡ fate.AfterFailure f) ⊎ (h ≡ fate.NoMemory))
  -- once memory was wanted, it stays so
  pub no_memory : (i : ℕ) → Has (expand e.fates) i fate.NoMemory → (e.state ≡ ends.NoMemory)
      × ((j : ℕ) (h : Fate) → i < j → Has (expand e.fates) j h → h ≡ fate.NoMemory)
  -- the shelf's count of faults tells the notes
  pub notes : NotesRise g.shelf.faults e.faults e.shelf.faults
  -- where restart is asked, each written packet may stand first or stands right behind the one before it
  pub restart : (i s : ℕ) (p : Packet) → o.restart ≡ true → Has (expand e.fates) i (fate.Written s) → Gives T i p → MayStand g (expand e.fates) i s p

-- every end of an output meets its accounts of all that it was given
abbrev pub EndsMeetAllAccounts : Type 0
EndsMeetAllAccounts = (g : Origin) (o : FifoOptions) (T : List Given) (e : EndView) → EndedAll g o T e → AccountsAll g o T e

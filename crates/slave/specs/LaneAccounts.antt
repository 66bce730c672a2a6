-- What the records of an output behind a lane must say over its packets, the refused and the flushed ones among them.
use Rattle.std.specs.Prelude.{◌≡◌, ℕ, ◌+◌, ◌-◌, ◌≤◌, ◌<◌, ◌⊎◌, ◌==◌, ◌*◌, Bool, true, false, not, if◌then◌else◌, List, [], ◌∷◌, ◌++◌, length, filter, count_by, sum_by, take, drop, slice_get, Some}
use Rattle.std.specs.List.{list_any}
use Rattle.fifo_core.specs.declared.types.FifoOptions.{FifoOptions}
use Rattle.fifo_core.specs.declared.types.Fate.{Fate}
use Rattle.fifo_core.specs.declared.types.Fate.TheVariants as fate
use Rattle.fifo_core.specs.declared.types.EndState.TheVariants as ends
use Rattle.fifo_core.specs.History.{fates_of}
use Rattle.lane.specs.declared.msg.Msg.{Msg}
use Rattle.lane.specs.Sides.{ReceiptSide}
use Rattle.rmx_media.specs.declared.packet.Packet.{Packet}
use Rattle.slave.specs.declared.records.LaneNote.{LaneNote}
use Rattle.slave.specs.Origin.{Origin}
use Rattle.slave.specs.Given.{Given, Sent, Swept, Gives}
use Rattle.slave.specs.Runs.{expand, AreInOrder}
use Rattle.slave.specs.Table.{StandsAt}
use Rattle.slave.specs.End.{EndView, EndedAll}
use Rattle.slave.specs.Accounts.{Has, NotesRise, MayWait, MayBeLost, MayStand}
use Rattle.slave.specs.AccountsAll.{GivesAt, SweptAt}
use Rattle.slave.specs.Entered.{entered}

-- the refusal of that number was that of the packet of that index
abbrev pub Names : List ReceiptSide → (number index : ℕ) → Type 0
Names [] v i = ⊥
Names (r ∷ rs) v i = ((r.number ≡ v) × (r.index ≡ i)) ⊎ Names rs v i

-- whether the packet of that index was refused
abbrev pub is_named : List ReceiptSide → ℕ → Bool
is_named rs i = list_any (λ (r : ReceiptSide). r.index == i) rs

-- the packets from the n-th on that were not refused
abbrev pub accepted_from : List ReceiptSide → ℕ → List Packet → List Packet
accepted_from rs n [] = []
accepted_from rs n (p ∷ ps) = if is_named rs n then accepted_from rs (n + 1) ps else p ∷ accepted_from rs (n + 1) ps

abbrev pub payload_bytes : List Packet → ℕ
payload_bytes ps = sum_by (λ (p : Packet). length p.payload) ps

-- The lane was full for the packet: so many waited as may, or some waited, and their bytes with those of the packet pass the
-- limit, where there is one.
abbrev pub IsFullFor : (cap limit : ℕ) → ReceiptSide → Packet → Type 0
IsFullFor cap limit r p = (r.accepted ≡ r.head + cap) ⊎ ((0 < limit) × (r.head < r.accepted) × (limit < r.bytes + length p.payload))

-- The receipt of refusal v: which packet it was, how many were accepted before, how many of these were taken, and the bytes of
-- those that waited.
pub record IsReceipt (cap limit : ℕ) (L accepted : List Packet) (v : ℕ) (r : ReceiptSide) : Type 0 where
  pub number : r.number ≡ v
  pub packet : Packet
  pub at : slice_get L r.index ≡ Some packet
  pub before : r.accepted + (v - 1) ≡ r.index
  pub bytes : r.bytes ≡ payload_bytes (drop r.head (take r.accepted accepted))
  pub full : IsFullFor cap limit r packet

-- the receipts from number v on; their indices rise, and their heads never fall
abbrev pub AreReceipts : (cap limit : ℕ) → (L accepted : List Packet) → (v index head : ℕ) → List ReceiptSide → Type 0
AreReceipts cap limit L accepted v index head [] = Unit {0}
AreReceipts cap limit L accepted v index head (r ∷ rs) =
    IsReceipt cap limit L accepted v r × (index ≤ r.index) × (head ≤ r.head) × AreReceipts cap limit L accepted (v + 1) (r.index + 1) r.head rs

-- the receipts of a lane, of all its refusals
abbrev pub ReceiptsTell : LaneNote → List Packet → Type 0
ReceiptsTell n L = AreReceipts n.cap n.counts.limit L (accepted_from n.receipts.items 0 L) 1 0 0 n.receipts.items × (n.counts.overs ≡ length n.receipts.items)

-- the fates of the packets that were not refused, in order
abbrev pub unrefused : List ReceiptSide → List (ℕ × Fate) → List (ℕ × Fate)
unrefused rs fates = filter (λ (x : ℕ × Fate). not (is_named rs x.0)) fates

-- Among these, those flushed after refusal v are one stretch of at most cap. Later stretches are those of later refusals. When
-- that refusal was made, no more had been taken than stand before the stretch.
pub record Stretch (cap v : ℕ) (rs : List ReceiptSide) (fates : List (ℕ × Fate)) : Type 0 where
  pub front : List (ℕ × Fate)
  pub flushed : List (ℕ × Fate)
  pub back : List (ℕ × Fate)
  pub split : fates ≡ front ++ (flushed ++ back)
  pub few : length flushed ≤ cap
  pub all : (i : ℕ) (f : Fate) → Has flushed i f → f ≡ fate.Flushed v
  pub before : (i u : ℕ) → Has front i (fate.Flushed u) → u < v
  pub behind : (i u : ℕ) → Has back i (fate.Flushed u) → v < u
  pub head : (u : ℕ) (r : ReceiptSide) → v ≡ u + 1 → slice_get rs u ≡ Some r → r.head ≤ length front

pub record AccountsLane (g : Origin) (o : FifoOptions) (L : List Packet) (n : LaneNote) (e : EndView) : Type 0 where
  pub lane : e.lane ≡ Some n
  -- Each packet lies in exactly one run; the runs are in order, and neighbours differ. Where memory was wanted, a refused packet
  -- may lie in no run.
  pub order : AreInOrder (length L) e.fates
  pub covers : (i : ℕ) → i < length L → ((f : Fate) × Has (expand e.fates) i f) ⊎ ((e.state ≡ ends.NoMemory) × (is_named n.receipts.items i ≡ true))
  pub within : (i : ℕ) (f : Fate) → Has (expand e.fates) i f → i < length L
  pub once : (i : ℕ) (f h : Fate) → Has (expand e.fates) i f → Has (expand e.fates) i h → f ≡ h
  pub receipts : ReceiptsTell n L
  -- A packet has the fate Refused exactly where it was refused, with that number. Where memory was wanted, it may have none, or
  -- lie in a run without memory.
  pub refused : (i v : ℕ) → Has (expand e.fates) i (fate.Refused v) → Names n.receipts.items v i
  pub entered : (i v : ℕ) → Names n.receipts.items v i → Has (expand e.fates) i (fate.Refused v)
      ⊎ ((e.state ≡ ends.NoMemory) × ((f : Fate) → Has (expand e.fates) i f → f ≡ fate.NoMemory))
  -- what is flushed is so after a refusal
  pub flushed : (i v : ℕ) → Has (expand e.fates) i (fate.Flushed v)
      → (1 ≤ v) × (v ≤ n.counts.overs) × Stretch n.cap v n.receipts.items (unrefused n.receipts.items (expand e.fates))
  -- a packet waits for a restart packet only behind one that wasn't written, or where its own write failed
  pub key_wait : (i : ℕ) (p : Packet) → Has (expand e.fates) i fate.KeyWait → slice_get L i ≡ Some p → MayWait g o (expand e.fates) e.faults i p
  -- a packet is lost at its own fault, or in the wait after one
  pub lost : (i f : ℕ) (p : Packet) → Has (expand e.fates) i (fate.Lost f) → slice_get L i ≡ Some p
      → MayBeLost o (StandsAt L) (expand e.fates) e.faults i f p
  -- once the output was given up at a fault, it stays so
  pub after_failure : (i f : ℕ) → Has (expand e.fates) i (fate.AfterFailure f) → (f < length e.faults)
      × ((j : ℕ) (h : Fate) → i < j → Has (expand e.fates) j h → (h ≡ fate.AfterFailure f) ⊎ ((v : ℕ) × (h ≡ fate.Refused v)) ⊎ (h ≡ fate.NoMemory))
  -- once memory was wanted, it stays so
  pub no_memory : (i : ℕ) → Has (expand e.fates) i fate.NoMemory → (e.state ≡ ends.NoMemory)
      × ((j : ℕ) (h : Fate) → i < j → Has (expand e.fates) j h → (h ≡ fate.NoMemory) ⊎ ((v : ℕ) × (h ≡ fate.Refused v)))
  -- the shelf's count of faults tells the notes
  pub notes : NotesRise g.shelf.faults e.faults e.shelf.faults
  -- where restart is asked, each written packet may stand first or stands right behind the one before it
  pub restart : (i s : ℕ) (p : Packet) → o.restart ≡ true → Has (expand e.fates) i (fate.Written s) → slice_get L i ≡ Some p
      → MayStand g (expand e.fates) i s p

-- What is flushed by that number is one stretch of at most cap among what was given. Stretches before have lower numbers, and
-- those behind have higher ones. That number was seen when all before the stretch was got, and nothing more.
pub record SweptStretch (cap : ℕ) (numbers : List (ℕ × ℕ)) (v : ℕ) (T : List Given) : Type 0 where
  pub front : List Given
  pub swept : List Given
  pub back : List Given
  pub split : T ≡ front ++ (swept ++ back)
  pub few : length swept ≤ cap
  pub before : (i u : ℕ) → SweptAt front i u → u < v
  pub all : (i u : ℕ) → SweptAt swept i u → u ≡ v
  pub only : (i : ℕ) (p : Packet) → Gives swept i p → ⊥
  pub behind : (i u : ℕ) → SweptAt back i u → v < u
  pub place : ℕ
  pub seen : slice_get numbers place ≡ Some (v, length front)

-- the packets from the n-th on that were not refused, each with its place
abbrev pub messages_from : List ReceiptSide → ℕ → List Packet → List Msg
messages_from rs n [] = []
messages_from rs n (p ∷ ps) = if is_named rs n then messages_from rs (n + 1) ps else record { index = n; packet = p } ∷ messages_from rs (n + 1) ps

-- an output was given these messages, in order: each packet as it is, or to be flushed
abbrev pub PassedOn : List Given → List Msg → Type 0
PassedOn [] [] = Unit {0}
PassedOn [] (m ∷ ms) = ⊥
PassedOn (t ∷ T) [] = ⊥
PassedOn (Sent i p ∷ T) (m ∷ ms) = (i ≡ m.index) × (p ≡ m.packet) × PassedOn T ms
PassedOn (Swept i v ∷ T) (m ∷ ms) = (i ≡ m.index) × PassedOn T ms

-- How a lane dealt its packets: what it was offered was given to the output or refused. The numbers are those of refusals that
-- the worker saw, each beside how many packets it had got.
pub record Dealt (L : List Packet) (T : List Given) (numbers : List (ℕ × ℕ)) (n : LaneNote) : Type 0 where
  -- each packet was either given, with its place as index, or refused
  pub each : (i : ℕ) → i < length L → is_named n.receipts.items i ≡ false → GivesAt T i
  pub apart : (i : ℕ) → GivesAt T i → (i < length L) × (is_named n.receipts.items i ≡ false)
  pub packets : (i : ℕ) (p : Packet) → Gives T i p → slice_get L i ≡ Some p
  pub receipts : ReceiptsTell n L
  -- a number that was seen was that of a refusal that was made, before more was got
  pub seen : (j : ℕ) (x : ℕ × ℕ) → slice_get numbers j ≡ Some x
      → (x.0 ≤ length n.receipts.items) × ((u : ℕ) (r : ReceiptSide) → x.0 ≡ u + 1 → slice_get n.receipts.items u ≡ Some r → r.head ≤ x.1)
  pub stretches : (i v : ℕ) → SweptAt T i v → (1 ≤ v) × SweptStretch n.cap numbers v T
  -- what was given came in order
  pub passed : PassedOn T (messages_from n.receipts.items 0 L)

-- What an end tells once its lane's refusals are entered: the refusals are new among its fates, each before the run behind it, and
-- nothing else changes. Where memory was wanted for them, none is new, and the state tells it.
pub record AddsLane (n : LaneNote) (old new : EndView) (short : Bool) : Type 0 where
  pub lane : new.lane ≡ Some n
  pub shelf : new.shelf ≡ old.shelf
  pub sessions : new.sessions ≡ old.sessions
  pub faults : new.faults ≡ old.faults
  pub inline : new.inline ≡ old.inline
  pub bytes : new.bytes ≡ old.bytes
  pub state : new.state ≡ (if short then ends.NoMemory else old.state)
  pub fates : unrefused n.receipts.items (expand new.fates) ≡ unrefused n.receipts.items (expand old.fates)
  pub all : short ≡ false → new.fates ≡ entered old.fates n.receipts.items
  pub none : short ≡ true → new.fates ≡ old.fates
  -- where nothing was refused, the fates stay, and no memory is wanted
  pub same : n.receipts.items ≡ [] → (new.fates ≡ old.fates) × (short ≡ false)

abbrev pub is_refused : Fate → Bool
is_refused (fate.Refused v) = true
is_refused _ = false

abbrev pub is_flushed : Fate → Bool
is_flushed (fate.Flushed v) = true
is_flushed _ = false

-- The refused and the flushed packets together are at most as many as the refusals, so often as may wait, and once more.
abbrev pub LossIsBounded : Type 0
LossIsBounded = (g : Origin) (o : FifoOptions) (L : List Packet) (n : LaneNote) (e : EndView) → AccountsLane g o L n e
    → count_by (λ (x : ℕ × Fate). is_refused x.1) (expand e.fates) + count_by (λ (x : ℕ × Fate). is_flushed x.1) (expand e.fates) ≤ (n.cap + 1) * length n.receipts.items

-- Of the packets that were not refused each has the fate that it had in its turn.
abbrev pub UnrefusedFollow : Type 0
UnrefusedFollow = (g : Origin) (o : FifoOptions) (L : List Packet) (T : List Given) (numbers : List (ℕ × ℕ)) (n : LaneNote) (old e : EndView) (short : Bool) (k : EndedAll g o T old)
    → Dealt L T numbers n → AddsLane n old e short → unrefused n.receipts.items (expand e.fates) ≡ fates_of k.history

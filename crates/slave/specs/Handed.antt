-- What a lane was offered, packet by packet, and what became of it.
use Rattle.std.specs.Prelude.{◌≡◌, ℕ, ◌+◌, ◌≤◌, true, List, [], ◌∷◌, ◌++◌, length, map, sum_by, slice_get, Some}
use Rattle.lane_core.specs.Machine.{is_full, waiting}
use Rattle.lane.specs.Follows.{size_of}
use Rattle.lane.specs.Sides.{ReceiptSide}
use Rattle.lane.specs.Sight.{Refusal}
use Rattle.lane.specs.Told.{SawInTime}
use Rattle.lane.specs.declared.msg.Msg.{Msg}
use Rattle.rmx_media.specs.declared.packet.Packet.{Packet}
use Rattle.slave.specs.declared.records.LaneNote.{LaneNote}
use Rattle.slave.specs.Given.{Given}
use Rattle.slave.specs.AccountsAll.{SweptAt}
use Rattle.slave.specs.LaneAccounts.{accepted_from, AreReceipts, SweptStretch, Dealt, messages_from, PassedOn}

-- A lane was offered these packets, one after another, each with its place as index. They were given, or refused with a receipt.
pub record Handed (cap limit : ℕ) (L : List Packet) (given : List Msg) (refusals : List (Refusal Msg)) (rs : List ReceiptSide) : Type 0 where
  pub given_is : given ≡ messages_from rs 0 L
  pub receipts : AreReceipts cap limit L (accepted_from rs 0 L) 1 0 0 rs
  pub heads : map (λ (r : ReceiptSide). r.head) rs ≡ map (λ (q : Refusal Msg). q.head) refusals
  pub count : length given + length rs ≡ length L
  pub before : (v : ℕ) (r : ReceiptSide) → slice_get rs v ≡ Some r → r.accepted ≤ length given

abbrev pub message : ℕ → Packet → Msg
message i p = record { index = i; packet = p }

-- the receipt of the next refusal, at which so many had been taken
abbrev pub receipt_of : ℕ → List Msg → List ReceiptSide → ℕ → ReceiptSide
receipt_of i given rs head =
    record { number = length rs + 1; index = i; accepted = length given; head = head; bytes = sum_by size_of (waiting given head) }

-- Nothing was offered yet. Each further packet is given, or refused where the lane is full for it.
pub record HandsOver : Type 0 where
  pub nothing : (cap limit : ℕ) → Handed cap limit [] [] [] []
  pub given : (cap limit : ℕ) (L : List Packet) (given : List Msg) (refusals : List (Refusal Msg)) (rs : List ReceiptSide) (p : Packet)
      → Handed cap limit L given refusals rs → Handed cap limit (L ++ p ∷ []) (given ++ message (length L) p ∷ []) refusals rs
  pub refused : (cap limit : ℕ) (L : List Packet) (given : List Msg) (refusals : List (Refusal Msg)) (rs : List ReceiptSide) (p : Packet) (q : Refusal Msg)
      → Handed cap limit L given refusals rs → is_full size_of (record { cap = cap; limit = limit }) given q.head (size_of (message (length L) p)) ≡ true
      → ((i : ℕ) (x : Refusal Msg) → slice_get refusals i ≡ Some x → x.head ≤ q.head)
      → Handed cap limit (L ++ p ∷ []) given (refusals ++ q ∷ []) (rs ++ receipt_of (length L) given rs q.head ∷ [])

-- Where an output was given all messages of a lane, and was told to flush in stretches, the lane dealt its packets.
abbrev pub LanesDeal : Type 0
LanesDeal = (L : List Packet) (given : List Msg) (refusals : List (Refusal Msg)) (T : List Given) (numbers : List (ℕ × ℕ)) (n : LaneNote)
    → Handed n.cap n.counts.limit L given refusals n.receipts.items → n.counts.overs ≡ length refusals → SawInTime refusals numbers
    → PassedOn T given → ((i v : ℕ) → SweptAt T i v → (1 ≤ v) × SweptStretch n.cap numbers v T) → Dealt L T numbers n

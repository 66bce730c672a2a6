-- One queue for each stream.
use Rattle.std.specs.Prelude.{◌≡◌, ℕ, Bool, true, false, ◌&&◌, ◌||◌, List, [], ◌∷◌, ℤ, pos, ◌-ℤ◌, ◌*ℤ◌, ◌≤ℤ◌, int_lt, nat_lt, fold, ◌<◌, ◌++◌, Option, Some, None, is_some, ◌-◌, zero, suc}
use Rattle.rmx_media.specs.declared.packet.Packet.{Packet}
use Rattle.interleaver.specs.Interleave.{put_in, may_go, IsLined, interleave, emitted, last_dts}

-- packets of one stream with rising dts, of which the last has this dts
abbrev pub IsQueue : ℕ → ℤ → List Packet → Type 0
IsQueue stream last [] = Unit {0}
IsQueue stream last (x ∷ []) = (x.stream ≡ stream) × (x.dts ≡ last)
IsQueue stream last (x ∷ y ∷ ys) = (x.stream ≡ stream) × (x.dts ≤ℤ y.dts) × IsQueue stream last (y ∷ ys)

-- the packets of both as one pending list
abbrev pub lined : List Packet → List Packet → List Packet
lined first second = fold (λ pending p. put_in p pending) first second

-- what clauses see
pub record Pending : Type 0 where
  pub streams : ℕ
  pub delta : ℕ
  pub pending : List Packet
  -- the dts of the last packet that was pushed, of stream 0 and of stream 1
  pub first_last : ℤ
  pub second_last : ℤ
  pub finished : Bool

abbrev pub front_dts : List Packet → Option ℤ
front_dts [] = None
front_dts (x ∷ xs) = Some x.dts

-- the second of two queues has the lower front
abbrev pub second_leads : Option ℤ → Option ℤ → Bool
second_leads (Some a) (Some b) = int_lt b a
second_leads (Some a) None = false
second_leads None second = true

abbrev pub IsStream : ℕ → List Packet → Type 0
IsStream stream packets = (last : ℤ) × IsQueue stream last packets

-- this dts is over delta microseconds after the other
abbrev pub is_past : ℕ → ℤ → ℤ → Bool
is_past delta dts last = int_lt (pos delta) ((last -ℤ dts) *ℤ pos 1000)

-- the head may go, by the fronts and the last dts of both queues
abbrev pub goes_by : ℕ → ℕ → Option ℤ → Option ℤ → Option ℤ → ℤ → ℤ → Bool
goes_by n delta None first second first_last second_last = false
goes_by n delta (Some head) first second first_last second_last =
    (is_some first && (nat_lt n 2 || is_some second))
    || (nat_lt 0 delta && ((is_some first && is_past delta head first_last) || (is_some second && is_past delta head second_last)))

-- a packet may go
abbrev pub goes : Pending → Bool
goes v = (v.finished && is_some (front_dts v.pending)) || may_go v.streams v.delta v.pending

-- the dts of the last packet pushed of a stream
abbrev pub last_of : Pending → ℕ → ℤ
last_of v zero = v.first_last
last_of v (suc stream) = v.second_last

-- p was pushed
pub record Pushed (p : Packet) (old new : Pending) : Type 0 where
  pub pending : new.pending ≡ put_in p old.pending
  pub streams : new.streams ≡ old.streams
  pub delta : new.delta ≡ old.delta
  pub last : last_of new p.stream ≡ p.dts
  pub other : last_of new (1 - p.stream) ≡ last_of old (1 - p.stream)
  pub finished : new.finished ≡ old.finished

-- what a pop does
abbrev pub Pops : Option Packet → Pending → Pending → Type 0
Pops None old new = (goes old ≡ false) × (new ≡ old)
Pops (Some p) old new = (goes old ≡ true) × (old.pending ≡ p ∷ new.pending) × (new ≡ record old { pending = new.pending })

-- what stands at the head was taken, if there is something
abbrev pub TakesHead : Option Packet → List Packet → List Packet → Type 0
TakesHead None old new = (old ≡ []) × (new ≡ [])
TakesHead (Some p) old new = old ≡ p ∷ new

-- these packets were pushed and those came out
pub record Carries (pushed out : List Packet) (v : Pending) : Type 0 where
  pub some_stream : 0 < v.streams
  pub few : v.streams < 3
  pub lined : v.finished ≡ false → IsLined v.streams v.delta pushed out v.pending
  pub whole : interleave v.streams v.delta pushed ≡ out ++ v.pending
  pub last : (stream : ℕ) → stream < 2 → last_of v stream ≡ last_dts stream pushed

-- what came out begins `emitted`, and is all of it, or after the end all that was pushed, where nothing goes
abbrev pub Gives : Option Packet → List Packet → List Packet → Pending → Pending → Type 0
Gives (Some p) pushed out old new = Carries pushed (out ++ p ∷ []) new × (old.finished ≡ false → (rest : List Packet) × (emitted old.streams old.delta pushed ≡ (out ++ p ∷ []) ++ rest))
Gives None pushed out old new = Carries pushed out new × (old.finished ≡ false → emitted old.streams old.delta pushed ≡ out) × (old.finished ≡ true → interleave old.streams old.delta pushed ≡ out)

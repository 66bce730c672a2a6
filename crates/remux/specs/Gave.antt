-- What packets a tee was given, and when it was dead.
use Rattle.std.specs.Prelude.{◌≡◌, ℕ, ◌+◌, ◌<◌, ◌≤◌, Bool, true, false, List, [], ◌++◌, length}
use Rattle.rmx_media.specs.declared.packet.Packet.{Packet}
use Rattle.interleaver.specs.Interleave.{release}

-- it was alive after each packet from one number to another, at the last of which it is dead as told
pub record Advances (stopped : Bool) (old new : ℕ → Bool) (from to : ℕ) : Type 0 where
  pub same : (u : ℕ) → u ≤ from → new u ≡ old u
  pub alive : (u : ℕ) → from < u → u < to → new u ≡ false
  pub last : from < to → new to ≡ stopped

-- some packets of the line were given
pub record Gave (stopped : Bool) (n delta : ℕ) (pending rest : List Packet) (kept keeps : List Packet → Type 0) (old new : ℕ → Bool) : Type 0 where
  pub packets : List Packet
  pub some : stopped ≡ true → 0 < length packets
  pub line : (out : List Packet) → release n delta out pending ≡ release n delta (out ++ packets) rest
  pub keeps_all : (given : List Packet) → kept given → keeps (given ++ packets)
  pub dead : (given : List Packet) → kept given → Advances stopped old new (length given) (length given + length packets)

-- some packets of the line were given, and then memory was wanted
pub record GaveSome (n delta : ℕ) (pending : List Packet) (kept keeps : List Packet → Type 0) (old new : ℕ → Bool) : Type 0 where
  pub packets : List Packet
  pub line : (out : List Packet) → (rest : List Packet) × ((release n delta out pending).out ≡ (out ++ packets) ++ rest)
  pub keeps_all : (given : List Packet) → kept given → keeps (given ++ packets)
  pub dead : (given : List Packet) → kept given → Advances false old new (length given) (length given + length packets)

-- what was pending was given at the end, up to a stop
pub record Flushed (stopped : Bool) (pending rest : List Packet) (kept keeps : List Packet → Type 0) (old new : ℕ → Bool) : Type 0 where
  pub packets : List Packet
  pub whole : pending ≡ packets ++ rest
  pub all : stopped ≡ false → rest ≡ []
  pub some : stopped ≡ true → 0 < length packets
  pub keeps_all : (given : List Packet) → kept given → keeps (given ++ packets)
  pub dead : (given : List Packet) → kept given → Advances stopped old new (length given) (length given + length packets)

-- some of what was pending was given at the end, and then memory was wanted
pub record FlushedSome (pending : List Packet) (kept keeps : List Packet → Type 0) (old new : ℕ → Bool) : Type 0 where
  pub packets : List Packet
  pub rest : List Packet
  pub whole : pending ≡ packets ++ rest
  pub keeps_all : (given : List Packet) → kept given → keeps (given ++ packets)
  pub dead : (given : List Packet) → kept given → Advances false old new (length given) (length given + length packets)

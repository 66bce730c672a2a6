-- The lane machine over messages of any type, of which `size` gives the size in bytes. It keeps all that was ever given.
use Rattle.std.specs.Prelude.{ℕ, ◌+◌, List, [], ◌∷◌, ◌++◌, length, drop, sum_by, slice_get, Bool, true, false, ◌&&◌, ◌||◌, ◌==◌, nat_lt, Option, Some, None, if◌then◌else◌}

pub data Event (T : Type 0) : Type 0 where
  offer : T → Event T
  take : Event T
  see : Event T
  close : Event T
  fail : Event T

pub data Reply (T : Type 0) : Type 0 where
  accepted : Reply T
  -- the number of refusals, with this one
  refused : ℕ → Reply T
  got : T → Reply T
  empty : Reply T
  ended : Reply T
  overs : ℕ → Reply T
  done : Reply T
  shut : Reply T

-- how many messages may wait, and how many bytes: 0 is no bound
pub record Bounds : Type 0 where
  pub cap : ℕ
  pub limit : ℕ

pub record Machine (T : Type 0) : Type 0 where
  -- the accepted messages, oldest first
  pub given : List T
  -- how many of them were taken
  pub taken : ℕ
  -- how many offers were refused
  pub over : ℕ
  pub closed : Bool
  pub failed : Bool

module _ {T : Type 0} where
  abbrev pub start : Machine T
  start = record { given = []; taken = 0; over = 0; closed = false; failed = false }

  -- the messages that wait, of those given where so many were taken
  abbrev pub waiting : List T → ℕ → List T
  waiting given taken = drop taken given

-- Whether there is no room for a message of z bytes: cap messages wait, or some wait, and their bytes and the new ones pass the limit.
-- So a lane in which nothing waits takes a message of any size
abbrev pub is_full : {T : Type 0} → (T → ℕ) → Bounds → List T → ℕ → ℕ → Bool
is_full size b given taken z =
    (length given == taken + b.cap) || ((nat_lt 0 b.limit && nat_lt taken (length given)) && nat_lt b.limit (sum_by size (waiting given taken) + z))

module _ {T : Type 0} where
  abbrev pub took : Machine T → Option T → Machine T × Reply T
  took m (Some x) = (record m { taken = m.taken + 1 }, got x)
  took m None = (m, if m.closed then ended else empty)

  abbrev pub offered : Machine T → T → Bool → Machine T × Reply T
  offered m x true = (record m { over = m.over + 1 }, refused (m.over + 1))
  offered m x false = (record m { given = m.given ++ x ∷ [] }, accepted)

module _ {T : Type 0} (size : T → ℕ) (b : Bounds) where
  -- where an event leads, and the reply to it
  abbrev pub next : Machine T → Event T → Machine T × Reply T
  next m (offer x) = if m.closed then (m, shut) else offered m x (is_full size b m.given m.taken (size x))
  next m take = took m (slice_get m.given m.taken)
  next m see = (m, overs m.over)
  next m close = if m.closed then (m, shut) else (record m { closed = true }, done)
  next m fail = (record m { failed = true }, done)

  -- where a list of events leads, and each event with its reply
  abbrev pub final : Machine T → List (Event T) → Machine T
  final m [] = m
  final m (e ∷ es) = final (next m e).0 es

  abbrev pub history : Machine T → List (Event T) → List (Event T × Reply T)
  history m [] = []
  history m (e ∷ es) = (e, (next m e).1) ∷ history (next m e).0 es

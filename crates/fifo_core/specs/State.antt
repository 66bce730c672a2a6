-- How the machine's fields show a history.
use Rattle.std.specs.Prelude.{◌≡◌, ℕ, ◌<◌, Bool, not, if◌then◌else◌, ◌==◌, ◌&&◌, [], ◌∷◌, Option, Some, None, ℤ}
use Rattle.fifo_core.specs.declared.types.FifoOptions.{FifoOptions}
use Rattle.fifo_core.specs.declared.types.PacketFacts.{PacketFacts}
use Rattle.fifo_core.specs.declared.types.Action.{Action}
use Rattle.fifo_core.specs.declared.types.Action.TheVariants as action
use Rattle.fifo_core.specs.declared.types.After.{After}
use Rattle.fifo_core.specs.declared.types.After.TheVariants as after
use Rattle.fifo_core.specs.declared.types.Fate.TheVariants as fate
use Rattle.fifo_core.specs.declared.types.Answer.{Answer}
use Rattle.fifo_core.specs.declared.state.FifoState.{FifoState}
use Rattle.fifo_core.specs.declared.types.Mode.{Mode}
use Rattle.fifo_core.specs.History.{Begun, Tried, Fated, Want, History, notes, attempts, wanted, mode_of, since, session_of, trying, action_in, is_below}
use Rattle.fifo_core.specs.Kept.{needs_by}

-- the packet in hand
abbrev pub hand_of : FifoState → Option (ℕ × PacketFacts)
hand_of s = s.hand

-- the least index that may come next
abbrev pub next_of : FifoState → ℕ
next_of s = s.next

-- the session that is open, or is to be opened for the packet in hand
abbrev pub session_in : FifoState → ℕ
session_in s = s.session

-- whether memory was wanted
abbrev pub wanted_in : FifoState → Bool
wanted_in s = s.wanted

abbrev pub session_shown : FifoOptions → History → Option (ℕ × PacketFacts) → ℕ
session_shown o h None = session_of h
session_shown o h (Some _) = trying o h

-- packets have their fates in order of their indices, all below next
abbrev pub Rises : History → ℕ → Type 0
Rises [] next = Unit {0}
Rises (Begun a ∷ h) next = Rises h next
Rises (Tried s i facts a ∷ h) next = Rises h next
Rises (Fated i f ∷ h) next = (i < next) × Rises h i
Rises (Want ∷ h) next = Rises h next

-- a packet in hand comes after all that have their fates
abbrev pub RisesTo : History → Option (ℕ × PacketFacts) → ℕ → Type 0
RisesTo h None next = Rises h next
RisesTo h (Some held) next = (held.0 < next) × Rises h held.0

-- the last packet written and its session
abbrev pub last_written : History → Option (ℕ × ℕ)
last_written [] = None
last_written (Begun a ∷ h) = last_written h
last_written (Tried s i facts a ∷ h) = last_written h
last_written (Fated i (fate.Written s) ∷ h) = Some (i, s)
last_written (Fated i _ ∷ h) = last_written h
last_written (Want ∷ h) = last_written h

-- what the machine keeps, as plain values
pub record Kept : Type 0 where
  pub options : FifoOptions
  pub mode : Mode
  pub attempts : ℕ
  pub since : Option ℤ
  pub session : ℕ
  pub notes : ℕ
  pub wanted : Bool
  pub written : Option (ℕ × ℕ)
  pub next : ℕ
  pub hand : Option (ℕ × PacketFacts)

abbrev pub kept_of : FifoState → Kept
kept_of s = record {
  options = s.options;
  mode = s.mode;
  attempts = s.attempts;
  since = s.since;
  session = s.session;
  notes = s.notes;
  wanted = s.wanted;
  written = s.written;
  next = s.next;
  hand = s.hand;
}

-- what is done with a packet, by what is kept
abbrev pub action_by : Kept → ℕ → PacketFacts → Action
action_by k i facts =
    if k.wanted then action.Settle fate.NoMemory
    else action_in k.mode (not (k.options.wait_ms == 0) && is_below facts.dts k.since k.options.wait_ms)
    (needs_by k.options k.mode k.written k.session i facts)

-- what is kept is what is read from this history, with this packet in hand
pub record Reads (o : FifoOptions) (h : History) (hand : Option (ℕ × PacketFacts)) (k : Kept) : Type 0 where
  pub options : k.options ≡ o
  pub mode : k.mode ≡ mode_of o h
  pub attempts : k.attempts ≡ attempts h
  pub since : k.since ≡ since h
  pub session : k.session ≡ session_shown o h hand
  pub notes : k.notes ≡ notes h
  pub wanted : k.wanted ≡ wanted h
  pub written : k.written ≡ last_written h
  pub rises : RisesTo h hand k.next
  pub in_hand : k.hand ≡ hand

-- the machine is where this history leaves it, with this packet in hand
abbrev pub Shows : FifoOptions → History → Option (ℕ × PacketFacts) → FifoState → Type 0
Shows o h hand s = Reads o h hand (kept_of s)

-- the history after a packet came
abbrev pub after_action : History → ℕ → Action → History
after_action h i (action.Settle f) = Fated i f ∷ h
after_action h i action.Write = h
after_action h i action.OpenAndWrite = h

abbrev pub hand_after_action : ℕ → PacketFacts → Action → Option (ℕ × PacketFacts)
hand_after_action i facts (action.Settle f) = None
hand_after_action i facts action.Write = Some (i, facts)
hand_after_action i facts action.OpenAndWrite = Some (i, facts)

-- the history after an answer for the packet in hand
abbrev pub after_answer : FifoOptions → History → ℕ → PacketFacts → Answer → After → History
after_answer o h i facts a (after.Settle f) = Fated i f ∷ Tried (trying o h) i facts a ∷ h
after_answer o h i facts a after.Again = Tried (trying o h) i facts a ∷ h

abbrev pub hand_after_answer : ℕ → PacketFacts → After → Option (ℕ × PacketFacts)
hand_after_answer i facts (after.Settle f) = None
hand_after_answer i facts after.Again = Some (i, facts)

-- what is in hand after an answer
abbrev pub hand_left : After → Option (ℕ × PacketFacts) → Option (ℕ × PacketFacts)
hand_left (after.Settle f) hand = None
hand_left after.Again hand = hand

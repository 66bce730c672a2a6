-- What a call that gives packets does to the line and the outputs.
use Rattle.std.specs.Prelude.{◌≡◌, ℕ, ◌<◌, ◌+◌, Bool, true, false, List, ◌++◌, length}
use Rattle.rmx_media.specs.declared.packet.Packet.{Packet}
use Rattle.interleaver.specs.Interleave.{emitted}
use Rattle.interleaver.specs.Queues.{Pending, goes}
use Rattle.tee.specs.declared.fed.Fed.{Fed}
use Rattle.tee.specs.Fed.{is_stop}
use Rattle.remux.specs.Gave.{Gave, Advances}
use Rattle.remux.specs.Flow.{Flow}

-- all that may go was given, or all up to a stop
pub record GaveAll (fed : Fed) (old new : Pending) (kept keeps : List Packet → Type 0) (dead deads : ℕ → Bool) : Type 0 where
  pub gave : Gave (is_stop fed) old.streams old.delta old.pending new.pending kept keeps dead deads
  pub same : new ≡ record old { pending = new.pending }
  pub stuck : is_stop fed ≡ false → goes new ≡ false

-- a packet was pushed and what may go was given
pub record Handed (fed : Fed) (packets given : List Packet) (new : Pending) (keeps : List Packet → Type 0) (dead deads : ℕ → Bool) : Type 0 where
  pub more : List Packet
  pub some : is_stop fed ≡ true → 0 < length more
  pub kept : keeps (given ++ more)
  pub flow : Flow packets (given ++ more) new
  pub advances : Advances (is_stop fed) dead deads (length given) (length given + length more)
  pub stuck : is_stop fed ≡ false → goes new ≡ false

-- a packet was pushed or not, some of what may go was given, and then memory was wanted
pub record HandedSome (n delta : ℕ) (packets given : List Packet) (keeps : List Packet → Type 0) (dead deads : ℕ → Bool) : Type 0 where
  pub more : List Packet
  pub rest : List Packet
  pub kept : keeps (given ++ more)
  pub order : emitted n delta packets ≡ (given ++ more) ++ rest
  pub advances : Advances false dead deads (length given) (length given + length more)

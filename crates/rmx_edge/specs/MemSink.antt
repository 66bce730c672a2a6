-- What clauses see of a sink in memory.
use Rattle.std.specs.Prelude.{◌≡◌, ℕ, Bool, ◌-◌, List, length, take, Some, None, ◌==◌, if◌then◌else◌}
use Rattle.std.specs.List.{list_any}
use Rattle.rmx_edge.specs.declared.mem_sink.MemSink.{MemSink}
use Rattle.rmx_edge.specs.Count.{raised}
use Rattle.rmx_edge.specs.Sink.{SinkState}

abbrev pub state_of : MemSink → SinkState
state_of s = record {
  bytes = Some (take s.len s.buf);
  faults = s.faults;
  sound_for = if length s.fails.items == 0 then Some (8192 - s.len) else None;
}

-- how many bytes it holds
abbrev pub len_of : MemSink → ℕ
len_of s = s.len

-- the numbers of the writes that are to fail
abbrev pub listed : MemSink → List ℕ
listed s = s.fails.items

-- how many writes were made
abbrev pub calls_of : MemSink → ℕ
calls_of s = s.calls

-- whether the next write is to fail
abbrev pub fails_next : MemSink → Bool
fails_next s = list_any (λ n. n == s.calls) s.fails.items

-- one more write was tried; the writes that are to fail stay
pub record GoesOn (old new : MemSink) : Type 0 where
  pub calls : calls_of new ≡ raised (calls_of old) 1
  pub listed : listed new ≡ listed old

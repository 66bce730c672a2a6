-- An interleaver before the first packet.
use Rattle.std.specs.Prelude.{ℕ, [], negsuc, false}
use Rattle.interleaver.specs.Queues.{Pending}

-- of so many streams, with that delta
abbrev pub new_line : ℕ → ℕ → Pending
new_line n delta = record { streams = n; delta = delta; pending = []; first_last = negsuc 9223372036854775807; second_last = negsuc 9223372036854775807; finished = false }

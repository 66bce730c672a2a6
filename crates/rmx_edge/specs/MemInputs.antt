-- What clauses see of inputs in memory.
use Rattle.std.specs.Prelude.{◌≡◌, ℕ, Bool, ◌&&◌, List, length, drop, Some, is_some, ◌==◌}
use Rattle.std.specs.List.{list_any}
use Rattle.rmx_edge.specs.declared.mem_inputs.MemInputs.{MemInputs}
use Rattle.rmx_edge.specs.Count.{raised}
use Rattle.rmx_edge.specs.Files.{file_of, bytes_at}
use Rattle.rmx_edge.specs.Inputs.{InputState}

abbrev pub state_of : MemInputs → InputState
state_of s = record {
  view = Some record {
    bytes_of = file_of s.files.items;
    left = drop s.at (bytes_at s.files.items s.opened);
    ended = s.ended;
  };
  readable = s.readable;
  faults = s.faults;
  sound_at = λ name. (length s.fails.items == 0) && is_some (file_of s.files.items name);
  sound_now = length s.fails.items == 0;
}

-- the bytes of the input that is open which weren't read
abbrev pub left_of : MemInputs → List ℕ
left_of s = drop s.at (bytes_at s.files.items s.opened)

-- whether there is a file of this name
abbrev pub has_file : MemInputs → List ℕ → Bool
has_file s name = is_some (file_of s.files.items name)

-- the numbers of the calls that are to fail
abbrev pub listed : MemInputs → List ℕ
listed s = s.fails.items

-- how many calls were made
abbrev pub calls_of : MemInputs → ℕ
calls_of s = s.calls

-- the most that a read gives
abbrev pub most_of : MemInputs → ℕ
most_of s = s.most

-- whether the next call is to fail
abbrev pub fails_next : MemInputs → Bool
fails_next s = list_any (λ n. n == s.calls) s.fails.items

-- one more call was made; the calls that are to fail, and the most that a read gives, stay
pub record GoesOn (old new : MemInputs) : Type 0 where
  pub calls : calls_of new ≡ raised (calls_of old) 1
  pub listed : listed new ≡ listed old
  pub most : most_of new ≡ most_of old

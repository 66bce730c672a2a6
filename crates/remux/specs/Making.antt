-- A generated text that is made while it is read.
use Rattle.std.specs.Prelude.{ℕ, ◌-◌, ◌*◌, nat_lt, List, ◌++◌, drop, filter, flat_map}
use Rattle.std.specs.List.{range_with_len}
use Rattle.remux.specs.Generated.{generated, sound_text, shown_text, telling}
use Rattle.remux.specs.declared.generate.Generated.{Generated}
use Rattle.rmx_edge.specs.Inputs.{InputState}

-- the packets of sound from m on that begin before picture j
abbrev pub before : ℕ → ℕ → List ℕ
before j m = filter (λ x. nat_lt (23 * x) (40 * j)) (range_with_len m (2 * j - m))

-- what comes from picture j of so many on, where packet m of sound is the next one
abbrev pub rest_from : ℕ → ℕ → ℕ → List ℕ
rest_from count j m = flat_map sound_text (before j m) ++ flat_map shown_text (range_with_len j (count - j))

-- the bytes that weren't read
abbrev pub left_of : Generated → List ℕ
left_of s = drop s.at s.piece.items ++ rest_from s.frames s.frame s.sound

abbrev pub state_of : Generated → InputState
state_of s = telling (generated s.frames) (left_of s) s.ended s.readable

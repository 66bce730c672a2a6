-- The input that a run makes for itself: an FLV text of pictures, with sound beside them.
use Rattle.std.specs.Prelude.{ℕ, ◌+◌, ◌*◌, ◌%◌, ◌==◌, ◌&&◌, not, nat_lt, Bool, true, List, [], ◌∷◌, ◌++◌, length, replicate, filter, flat_map, pos, Some, if◌then◌else◌}
use Rattle.std.specs.List.{range_with_len}
use Rattle.rmx_media.specs.Bits.{bytes_of}
use Rattle.flv_tags.specs.Written.{tag_head_bytes, file_head_bytes}
use Rattle.rmx_edge.specs.Inputs.{InputState}

-- a tag, and the size field behind it
abbrev pub tag_text : ℕ → ℕ → List ℕ → List ℕ
tag_text kind stamp body = tag_head_bytes kind (length body) (pos stamp) ++ (body ++ bytes_of 4 (11 + length body))

-- the configuration of the pictures: AVC, Baseline at level 3, length fields of four bytes, a set of each kind
abbrev pub sets : List ℕ
sets = 1 ∷ 66 ∷ 0 ∷ 30 ∷ 255 ∷ 225 ∷ 0 ∷ 4 ∷ 103 ∷ 66 ∷ 0 ∷ 30 ∷ 1 ∷ 0 ∷ 2 ∷ 104 ∷ 206 ∷ []

-- the configuration of the sound: AAC LC, 44100 Hz, two channels
abbrev pub sound : List ℕ
sound = 18 ∷ 16 ∷ []

-- the head of the text, and both configurations at 0 ms
abbrev pub head_text : List ℕ
head_text = file_head_bytes 5 ++ (tag_text 9 0 (23 ∷ 0 ∷ 0 ∷ 0 ∷ 0 ∷ sets) ++ tag_text 8 0 (175 ∷ 0 ∷ sound))

-- of the pictures, which are 40 ms apart, the first is a key one, and every 25th behind it
abbrev pub is_key : ℕ → Bool
is_key j = j % 25 == 0

-- a picture is one unit: an IDR picture or another one, of 2 to 901 bytes
abbrev pub unit_of : ℕ → List ℕ
unit_of j = (if is_key j then 101 else 65) ∷ replicate (1 + 37 * j % 900) (128 + j % 100)

unfoldable pub picture_text : ℕ → List ℕ
picture_text j = tag_text 9 (40 * j) ((if is_key j then 23 else 39) ∷ 1 ∷ 0 ∷ 0 ∷ 0 ∷ bytes_of 4 (length (unit_of j)) ++ unit_of j)

-- packets of sound are 23 ms apart
unfoldable pub sound_text : ℕ → List ℕ
sound_text m = tag_text 8 (23 * m) (175 ∷ 1 ∷ replicate (1 + m % 300) 33)

-- the packets of sound that begin while picture j is shown: each m with 40 * j ≤ 23 * m < 40 * (j + 1)
abbrev pub sounds_with : ℕ → List ℕ
sounds_with j = filter (λ m. not (nat_lt (23 * m) (40 * j)) && nat_lt (23 * m) (40 * (j + 1))) (range_with_len 0 (2 * (j + 1)))

-- a picture, and the sound that begins while it is shown
abbrev pub shown_text : ℕ → List ℕ
shown_text j = picture_text j ++ flat_map sound_text (sounds_with j)

-- the text of so many pictures
unfoldable pub generated : ℕ → List ℕ
generated count = head_text ++ flat_map shown_text (range_with_len 0 count)

-- inputs that have this text under every name, and never fail
abbrev pub telling : List ℕ → List ℕ → Bool → Bool → InputState
telling text left ended readable = record {
  view = Some record { bytes_of = λ name. Some text; left = left; ended = ended };
  readable = readable;
  faults = 0;
  sound_at = λ name. true;
  sound_now = true;
}

-- ADTS frames (ISO/IEC 14496-3, 1.A.2) of one raw data block and no checksum.
use Rattle.std.specs.Prelude.{◌≡◌, ℕ, ◌+◌, ◌-◌, ◌≤◌, List, [], ◌∷◌, ◌++◌, length}
use Rattle.rmx_media.specs.declared.aac.AacConfig.{AacConfig}
use Rattle.rmx_media.specs.Bits.{packed, bytes_of}

-- the fields of a frame's head (value, bits): syncword, ID, layer, protection absent, profile, frequency index,
-- private bit, channels, original, home, copyright bit and start, frame length, buffer fullness, blocks less one
abbrev pub head_fields : AacConfig → ℕ → List (ℕ × ℕ)
head_fields config size =
    (4095, 12) ∷ (0, 1) ∷ (0, 2) ∷ (1, 1) ∷ (config.object_type - 1, 2) ∷ (config.index, 4) ∷ (0, 1) ∷ (config.channels, 3) ∷ (0, 1) ∷ (0, 1)
    ∷ (0, 1) ∷ (0, 1) ∷ (size + 7, 13) ∷ (2047, 11) ∷ (0, 2) ∷ []

-- the head of a frame round so many bytes of data
unfoldable pub adts_head : AacConfig → ℕ → List ℕ
adts_head config size = bytes_of 7 (packed (head_fields config size))

-- a frame: the head and the data
abbrev pub adts_frame : AacConfig → List ℕ → List ℕ
adts_frame config payload = adts_head config (length payload) ++ payload

-- the bytes are a frame by that configuration
pub record IsFrame (config : AacConfig) (bytes : List ℕ) : Type 0 where
  pub payload : List ℕ
  pub size : length payload ≤ 8184
  pub spelled : bytes ≡ adts_frame config payload

-- The remainder of bytes, bit by bit, most significant first: polynomial 04C11DB7, start FFFFFFFF, no final exclusive-or.
use Rattle.std.specs.Prelude.{ℕ, ◌*◌, ◌/◌, ◌%◌, ◌^◌, List, [], ◌∷◌, ◌==◌, if◌then◌else◌, bit_xor, fold}

-- one message bit: shift left by one, and where the bit that falls out differs from it, exclusive-or with the polynomial
abbrev pub bit_step : ℕ → ℕ → ℕ
bit_step register bit =
    if register / 2 ^ 31 == bit then register * 2 % 2 ^ 32 else bit_xor (register * 2 % 2 ^ 32) 0x04C11DB7

-- the bits of a byte, most significant first
abbrev pub bits_of : ℕ → List ℕ
bits_of byte =
    byte / 128 % 2 ∷ byte / 64 % 2 ∷ byte / 32 % 2 ∷ byte / 16 % 2 ∷ byte / 8 % 2 ∷ byte / 4 % 2 ∷ byte / 2 % 2 ∷ byte % 2 ∷ []

-- one byte, eight bits
unfoldable pub byte_step : ℕ → ℕ → ℕ
byte_step register byte = fold bit_step register (bits_of byte)

unfoldable pub crc : List ℕ → ℕ
crc bytes = fold byte_step 0xFFFFFFFF bytes

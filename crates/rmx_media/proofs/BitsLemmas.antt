-- Numbers in bytes.
use Rattle.std.proofs.Common.{◌≡◌, ℕ, zero, suc, ◌^◌, ◌<◌, ◌≤◌, length, refl, ap, arith}
use Rattle.rmx_media.specs.Bits.{number_of, bytes_of}

pub length-bytes_of : (count n : ℕ) → length (bytes_of count n) ≡ count
length-bytes_of zero n = refl
length-bytes_of (suc count) n = ap suc (length-bytes_of count n)

-- a number that fits its bytes is read again
pub number_of-bytes_of : (count n : ℕ) → 1 ≤ count → count ≤ 4 → n < 256 ^ count → number_of (bytes_of count n) ≡ n
number_of-bytes_of zero n l h f = absurd (omega (arith, l))
number_of-bytes_of (suc zero) n l h f = let g : n < 256 = f in omega arith
number_of-bytes_of (suc (suc zero)) n l h f = let g : n < 65536 = f in omega arith
number_of-bytes_of (suc (suc (suc zero))) n l h f = let g : n < 16777216 = f in omega arith
number_of-bytes_of (suc (suc (suc (suc zero)))) n l h f = let g : n < 4294967296 = f in omega arith
number_of-bytes_of (suc (suc (suc (suc (suc count))))) n l h f = absurd (omega (arith, h))

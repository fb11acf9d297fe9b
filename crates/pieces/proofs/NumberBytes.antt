-- The bytes of a number are below 256.
use Rattle.std.proofs.Common.{ℕ, zero, suc, ◌<◌, slice_index, arith}
use Rattle.std.specs.Int.{byte_at, bytes_high_first, bytes_low_first}

byte_below : (k n : ℕ) → byte_at k n < 256
byte_below zero n = omega arith
byte_below (suc k) n = omega arith

-- the highest first
pub high_first : (k n i : ℕ) → slice_index (bytes_high_first k n) i < 256
high_first zero n i = omega arith
high_first (suc k) n zero = byte_below k n
high_first (suc k) n (suc i) = high_first k n i

-- the lowest first, from byte i on
pub low_first : (i k n j : ℕ) → slice_index (bytes_low_first i k n) j < 256
low_first i zero n j = omega arith
low_first i (suc k) n zero = byte_below i n
low_first i (suc k) n (suc j) = low_first (suc i) k n j

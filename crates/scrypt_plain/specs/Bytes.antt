-- Lists of bytes: their exclusive or, and how they are read as words and as one number.
use Rattle.std.specs.Prelude.{ℕ, ◌+◌, ◌*◌, List, [], ◌∷◌, bit_xor}
use Rattle.std.specs.Int.{w32, from_le_bytes, to_le_bytes}
use Rattle.std.specs.List.{flat_map}
use Rattle.std.specs.Simd.Lanes.{zip2}

-- the 32-bit words of some bytes, lowest byte first (RFC 7914, section 3)
abbrev pub words : List ℕ → List ℕ
words (a ∷ b ∷ c ∷ d ∷ rest) = from_le_bytes w32 (a ∷ b ∷ c ∷ d ∷ []) ∷ words rest
words _ = []

-- the bytes of some 32-bit words, lowest byte first
abbrev pub bytes : List ℕ → List ℕ
bytes ws = flat_map (to_le_bytes w32) ws

-- some bytes as one number, lowest byte first (RFC 7914, section 5)
abbrev pub little_endian : List ℕ → ℕ
little_endian [] = 0
little_endian (b ∷ rest) = b + 256 * little_endian rest

-- Lists of words or bytes: their pieces, and their exclusive or.
use Rattle.std.specs.Prelude.{ℕ, ◌*◌, List, take, drop, bit_xor}
use Rattle.std.specs.Simd.Lanes.{zip2}

-- piece k of w elements
abbrev pub piece : ℕ → List ℕ → ℕ → List ℕ
piece w s k = take w (drop (w * k) s)

-- the exclusive or of two lists of bytes, as far as the shorter goes
abbrev pub xor_bytes : List ℕ → List ℕ → List ℕ
xor_bytes = zip2 bit_xor

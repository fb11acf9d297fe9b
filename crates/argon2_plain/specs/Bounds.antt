-- The costs that this crate takes: those of RFC 9106, section 3.1, below limits of this crate's own.
use Rattle.std.specs.Prelude.{ℕ, ◌*◌, ◌/◌, ◌^◌, Bool, ◌&&◌, nat_le}
use Rattle.argon2_plain.specs.declared.params.Params.{Params}

-- at least one pass and one lane, and 8 blocks of 1,024 bytes for each lane; at most 2 ^ 21 blocks (2 GiB), of which the
-- passes together fill at most 2 ^ 24
abbrev pub in_bounds : ℕ → ℕ → ℕ → Bool
in_bounds t m p =
    nat_le 1 t && nat_le 1 p && nat_le (8 * p) m && nat_le m (2 ^ 21) && nat_le (t * m) (2 ^ 24)

-- the costs of these params are
abbrev pub are_in_bounds : Params → Bool
are_in_bounds params = in_bounds params.passes params.memory params.lanes

-- the blocks of a segment: a lane has four (section 3.4)
abbrev pub segment_length : ℕ → ℕ → ℕ
segment_length m p = m / (4 * p)

-- m', the blocks of the memory: 4 * p * floor (m / (4 * p)) (section 3.2)
abbrev pub block_count : ℕ → ℕ → ℕ
block_count m p = 4 * segment_length m p * p

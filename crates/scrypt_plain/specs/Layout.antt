-- How the body keeps blocks. No public clause names these words. A block lies in four vectors of four
-- words, one on each diagonal of the square of words, so that the four columns stand side by side. The
-- table keeps the vectors one after another.
use Rattle.std.specs.Prelude.{ℕ, ◌*◌, List, [], ◌∷◌, take, drop, bit_xor, slice_index}
use Rattle.std.specs.Int.{w32, rotate_left}
use Rattle.scrypt_plain.specs.Bytes.{bytes}
use Rattle.scrypt_plain.specs.Scrypt.{concat_below}
use Rattle.word_lists.specs.Sums.{add32}
use Rattle.scrypt_plain.specs.declared.salsa.Block.{Block}

-- to ^ R(x + y, n)
unfoldable pub xor_rotated : ℕ → ℕ → ℕ → ℕ → ℕ
xor_rotated to x y n = bit_xor to (rotate_left w32 (add32 x y) n)

-- the quarter round on four words
unfoldable pub quarter_words : ℕ → ℕ → ℕ → ℕ → ℕ × ℕ × ℕ × ℕ
quarter_words a b c d =
    let b1 = xor_rotated b a d 7 in
    let c1 = xor_rotated c b1 a 9 in
    let d1 = xor_rotated d c1 b1 13 in
    let a1 = xor_rotated a d1 c1 18 in
    (a1, b1, c1, d1)

-- x[0] to x[15], from the four vectors
abbrev pub lane_words : List ℕ → List ℕ → List ℕ → List ℕ → List ℕ
lane_words a b c d =
    slice_index a 0 ∷ slice_index d 1 ∷ slice_index c 2 ∷ slice_index b 3
    ∷ slice_index b 0 ∷ slice_index a 1 ∷ slice_index d 2 ∷ slice_index c 3
    ∷ slice_index c 0 ∷ slice_index b 1 ∷ slice_index a 2 ∷ slice_index d 3
    ∷ slice_index d 0 ∷ slice_index c 1 ∷ slice_index b 2 ∷ slice_index a 3 ∷ []

-- the 64 bytes of a block in vectors
abbrev pub lane_bytes : Block → List ℕ
lane_bytes x = bytes (lane_words x.a x.b x.c x.d)

-- x[0] to x[15], from the sixteen words as the table keeps them
abbrev pub block_words : List ℕ → List ℕ
block_words s =
    slice_index s 0 ∷ slice_index s 13 ∷ slice_index s 10 ∷ slice_index s 7
    ∷ slice_index s 4 ∷ slice_index s 1 ∷ slice_index s 14 ∷ slice_index s 11
    ∷ slice_index s 8 ∷ slice_index s 5 ∷ slice_index s 2 ∷ slice_index s 15
    ∷ slice_index s 12 ∷ slice_index s 9 ∷ slice_index s 6 ∷ slice_index s 3 ∷ []

-- the 64 bytes that sixteen words of the table stand for
unfoldable pub block_bytes : List ℕ → List ℕ
block_bytes s = bytes (block_words s)

-- block i of a row, as the table keeps it
abbrev pub row_block : List ℕ → ℕ → List ℕ
row_block s i = take 16 (drop (16 * i) s)

-- the bytes that a row of n blocks stands for
abbrev pub row_bytes : ℕ → List ℕ → List ℕ
row_bytes n s = concat_below n (λ i. block_bytes (row_block s i))

-- scrypt (RFC 7914, sections 3 to 6), on lists of bytes. A word is a number below 2 ^ 32.
use Rattle.std.specs.Prelude.{ℕ, zero, suc, ◌+◌, ◌-◌, ◌*◌, ◌%◌, ◌^◌, List, [], ◌++◌, take, drop, bit_xor, slice_index}
use Rattle.std.specs.Prelude.{slice_set}
use Rattle.std.specs.Int.{w32, rotate_left}
use Rattle.std.specs.Simd.Lanes.{zip2}
use Rattle.scrypt_plain.specs.Bytes.{bytes, words, little_endian}
use Rattle.word_lists.specs.Lists.{xor_bytes}
use Rattle.scrypt_plain.specs.Pbkdf2.{pbkdf2_once}
use Rattle.word_lists.specs.Sums.{add32}

-- ---- section 3: the Salsa20/8 core function, on sixteen words x[0] to x[15]

-- x after x[i] ^= R(x[j] + x[k], n), where R rotates to the left
abbrev pub xor_rotated_sum : ℕ → ℕ → ℕ → ℕ → List ℕ → List ℕ
xor_rotated_sum i j k n x =
    slice_set x i (bit_xor (slice_index x i) (rotate_left w32 (add32 (slice_index x j) (slice_index x k)) n))

-- x[b] ^= R(x[a] + x[d], 7); x[c] ^= R(x[b] + x[a], 9); x[d] ^= R(x[c] + x[b], 13);
-- x[a] ^= R(x[d] + x[c], 18)
unfoldable pub quarter_round : ℕ → ℕ → ℕ → ℕ → List ℕ → List ℕ
quarter_round a b c d x =
    xor_rotated_sum a d c 18 (xor_rotated_sum d c b 13 (xor_rotated_sum c b a 9 (xor_rotated_sum b a d 7 x)))

-- the four columns of the words as a square, each from the diagonal down
unfoldable pub column_round : List ℕ → List ℕ
column_round x =
    quarter_round 15 3 7 11 (quarter_round 10 14 2 6 (quarter_round 5 9 13 1 (quarter_round 0 4 8 12 x)))

-- the four rows, each from the diagonal on
unfoldable pub row_round : List ℕ → List ℕ
row_round x =
    quarter_round 15 12 13 14 (quarter_round 10 11 8 9 (quarter_round 5 6 7 4 (quarter_round 0 1 2 3 x)))

-- the words after n double rounds, each a column round and a row round
unfoldable pub double_rounds : ℕ → List ℕ → List ℕ
double_rounds zero x = x
double_rounds (suc n) x = row_round (column_round (double_rounds n x))

-- eight rounds, and then the sums with the words at the start
unfoldable pub salsa20_8_words : List ℕ → List ℕ
salsa20_8_words x = zip2 add32 (double_rounds 4 x) x

-- Salsa20/8 of 64 bytes
unfoldable pub salsa20_8 : List ℕ → List ℕ
salsa20_8 b = bytes (salsa20_8_words (words b))

-- two rounds, and then the sums with the words at the start
unfoldable pub salsa20_2_words : List ℕ → List ℕ
salsa20_2_words x = zip2 add32 (double_rounds 1 x) x

-- Salsa20/2 of 64 bytes, which yescrypt has beside Salsa20/8
unfoldable pub salsa20_2 : List ℕ → List ℕ
salsa20_2 b = bytes (salsa20_2_words (words b))

-- ---- section 4: scryptBlockMix, on 2 * r blocks B[0] to B[2 * r - 1] of 64 bytes

-- B[i]
abbrev pub block : List ℕ → ℕ → List ℕ
block b i = take 64 (drop (64 * i) b)

-- X = B[2 * r - 1] before the first turn; in turn i, T = X xor B[i] and X = Salsa(T). This is X
-- after so many turns
unfoldable pub mix_state : ℕ → List ℕ → ℕ → List ℕ
mix_state r b zero = block b (2 * r - 1)
mix_state r b (suc i) = salsa20_8 (xor_bytes (mix_state r b i) (block b i))

-- Y[i], which is X after turn i
abbrev pub mixed_block : ℕ → List ℕ → ℕ → List ℕ
mixed_block r b i = mix_state r b (i + 1)

-- the lists f 0 to f (n - 1), one after another
unfoldable pub concat_below : ℕ → (ℕ → List ℕ) → List ℕ
concat_below zero f = []
concat_below (suc n) f = concat_below n f ++ f n

-- Y[0], Y[2], .., Y[2 * r - 2], Y[1], Y[3], .., Y[2 * r - 1]
abbrev pub block_mix : ℕ → List ℕ → List ℕ
block_mix r b =
    concat_below r (λ i. mixed_block r b (2 * i)) ++ concat_below r (λ i. mixed_block r b (2 * i + 1))

-- ---- section 5: scryptROMix, on 128 * r bytes, with a table V of n rows

-- V[i]: X before the first turn of step 2, which sets V[i] = X and X = scryptBlockMix(X), and after
-- i turns
unfoldable pub table_row : ℕ → List ℕ → ℕ → List ℕ
table_row r b zero = b
table_row r b (suc i) = block_mix r (table_row r b i)

-- the last block of X as a number, lowest byte first
unfoldable pub integerify : ℕ → List ℕ → ℕ
integerify r x = little_endian (block x (2 * r - 1))

-- a turn of step 3: j = Integerify(X) mod n, T = X xor V[j], X = scryptBlockMix(T)
abbrev pub ro_mix_step : ℕ → ℕ → (ℕ → List ℕ) → List ℕ → List ℕ
ro_mix_step r n v x = block_mix r (xor_bytes x (v (integerify r x % n)))

-- X after t turns of step 3
unfoldable pub ro_mix_state : ℕ → ℕ → List ℕ → ℕ → List ℕ
ro_mix_state r n b zero = table_row r b n
ro_mix_state r n b (suc t) = ro_mix_step r n (table_row r b) (ro_mix_state r n b t)

-- the n turns
abbrev pub ro_mix : ℕ → ℕ → List ℕ → List ℕ
ro_mix r n b = ro_mix_state r n b n

-- ---- section 6: scrypt

-- B[i] of 128 * r bytes
abbrev pub part : ℕ → List ℕ → ℕ → List ℕ
part r b i = take (128 * r) (drop (128 * r * i) b)

-- scryptROMix of B[0] to B[p - 1], one after another
abbrev pub mixed_parts : ℕ → ℕ → ℕ → List ℕ → List ℕ
mixed_parts n r p b = concat_below p (λ i. ro_mix r n (part r b i))

-- scrypt(P, S, N, r, p, dkLen)
abbrev pub scrypt : List ℕ → List ℕ → ℕ → ℕ → ℕ → ℕ → List ℕ
scrypt password salt n r p dk_len =
    pbkdf2_once password (mixed_parts n r p (pbkdf2_once password salt (128 * r * p))) dk_len

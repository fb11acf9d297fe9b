-- Bytes and words, lowest byte first.
use Rattle.std.proofs.Common.{◌≡◌, ℕ, ◌+◌, ◌/◌, ◌%◌, ◌^◌, ◌<◌, List, [], ◌∷◌, ◌++◌, bit_xor, refl, sym, ap, ap₂, ◌∙◌}
use Rattle.std.proofs.Common.{add-one}
use Rattle.std.specs.Int.{w32, to_le_bytes}
use Rattle.std.specs.Simd.Lanes.{zip2, Each1}
use Rattle.std.proofs.lemmas.Nat.{from_le_bytes-to_le_bytes_4, xor_shr, xor_mod}
use Rattle.scrypt_plain.specs.Bytes.{bytes, words}
use Rattle.word_lists.specs.Lists.{xor_bytes}
use Rattle.scrypt_plain.specs.Scrypt.{salsa20_8, salsa20_8_words, salsa20_2, salsa20_2_words, double_rounds, row_round, column_round}

pub words-bytes : (ws : List ℕ) → Each1 (λ w. w < 2 ^ 32) ws → words (bytes ws) ≡ ws
words-bytes [] h = refl
words-bytes (w ∷ ws) h = ap₂ ◌∷◌ (from_le_bytes-to_le_bytes_4 w h.0) (words-bytes ws h.1)

xor_byte : (x y k : ℕ) → bit_xor (x / 2 ^ k % 2 ^ 8) (y / 2 ^ k % 2 ^ 8) ≡ bit_xor x y / 2 ^ k % 2 ^ 8
xor_byte x y k = sym (ap (λ (n : ℕ). n % 2 ^ 8) (xor_shr x y k) ∙ xor_mod (x / 2 ^ k) (y / 2 ^ k) 8)

xor_word : (x y : ℕ) → zip2 bit_xor (to_le_bytes w32 x) (to_le_bytes w32 y) ≡ to_le_bytes w32 (bit_xor x y)
xor_word x y =
    ap₂ ◌∷◌ (sym (xor_mod x y 8))
    (ap₂ ◌∷◌ (xor_byte x y 8) (ap₂ ◌∷◌ (xor_byte x y 16) (ap₂ ◌∷◌ (xor_byte x y 24) refl)))

pub xor-bytes : (xs ys : List ℕ) → xor_bytes (bytes xs) (bytes ys) ≡ bytes (zip2 bit_xor xs ys)
xor-bytes [] ys = refl
xor-bytes (x ∷ xs) [] = refl
xor-bytes (x ∷ xs) (y ∷ ys) = ap₂ ◌++◌ (xor_word x y) (xor-bytes xs ys)

pub salsa20_8-bytes : (ws : List ℕ) → Each1 (λ w. w < 2 ^ 32) ws → salsa20_8 (bytes ws) ≡ bytes (salsa20_8_words ws)
unfolding salsa20_8
salsa20_8-bytes ws h = ap (λ (z : List ℕ). bytes (salsa20_8_words z)) (words-bytes ws h)

pub salsa20_2-bytes : (ws : List ℕ) → Each1 (λ w. w < 2 ^ 32) ws → salsa20_2 (bytes ws) ≡ bytes (salsa20_2_words ws)
unfolding salsa20_2
salsa20_2-bytes ws h = ap (λ (z : List ℕ). bytes (salsa20_2_words z)) (words-bytes ws h)

-- a double round more
pub double_rounds_none : (x : List ℕ) → double_rounds 0 x ≡ x
unfolding double_rounds
double_rounds_none x = refl

pub double_rounds_more : (n : ℕ) (x : List ℕ) → double_rounds (n + 1) x ≡ row_round (column_round (double_rounds n x))
unfolding double_rounds
double_rounds_more n x = ap (λ (k : ℕ). double_rounds k x) (add-one n)

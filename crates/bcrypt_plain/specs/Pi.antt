-- The state that Blowfish begins with: the binary digits of pi behind the point, 32 to a word, from Machin's formula
-- pi = 16 arctan(1 / 5) - 4 arctan(1 / 239), with arctan(1 / n) = 1 / n - 1 / (3 n^3) + 1 / (5 n^5) - ..
use Rattle.std.specs.Prelude.{ℕ, zero, suc, ◌+◌, ◌-◌, ◌*◌, ◌/◌, ◌%◌, ◌^◌, List, [], ◌∷◌}

-- behind the digits that are taken stand 64 more, which take up what the divisions below lose: less than 2 ^ 20 in all
abbrev pub spare_bits : ℕ
spare_bits = 64

-- the digits of the 1,042 words, and these
abbrev pub bit_count : ℕ
bit_count = 32 * 1042 + spare_bits

-- power / odd - power / square / (odd + 2) + power / square^2 / (odd + 4) - .., so many terms of it
unfoldable pub alternating : ℕ → ℕ → ℕ → ℕ → ℕ
alternating zero square odd power = 0
alternating (suc more) square odd power = power / odd - alternating more square (odd + 2) (power / square)

-- 2 ^ bit_count * arctan(1 / n) by so many terms
abbrev pub arctan_inverse : ℕ → ℕ → ℕ
arctan_inverse terms n = alternating terms (n * n) 1 (2 ^ bit_count / n)

-- 2 ^ bit_count * pi, by all terms that are not 0: 5 ^ 14600 and 239 ^ 4400 are larger than 2 ^ bit_count
unfoldable pub pi_scaled : ℕ
pi_scaled = 16 * arctan_inverse 7300 5 - 4 * arctan_inverse 2200 239

-- the n lowest words of a number, the highest first, in front of a list
unfoldable pub words_before : ℕ → ℕ → List ℕ → List ℕ
words_before zero v ws = ws
words_before (suc n) v ws = words_before n (v / 2 ^ 32) ((v % 2 ^ 32) ∷ ws)

-- the first 1,042 words of pi behind the point
unfoldable pub pi_words : List ℕ
pi_words = words_before 1042 (pi_scaled / 2 ^ spare_bits) []
